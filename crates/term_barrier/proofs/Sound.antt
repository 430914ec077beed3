-- The formulas of screening are sound: no divisor of a constant is 0.
use Rattle.std.proofs.Common.{ℕ, ◌*◌, ◌<◌, ◌≡◌, refl, ℤ, pos, negsuc, arith, Bool, true, false, List, [], ◌∷◌, ◌++◌, map, fold}
use Rattle.std.specs.Prelude.{unsigned_abs, ◌<ℤ◌}
use Rattle.std.specs.List.{list_any}
use Rattle.std.proofs.lemmas.Int.{ints}
use Rattle.std.proofs.lemmas.Nat.{mul-le}
use Rattle.fix_interval.specs.Tree.{Tree, Max, Add, IsSound}
use Rattle.scene_geom.specs.declared.plan.Pt.{Pt}
use Rattle.scene_geom.specs.declared.band.Band.{Band}
use Rattle.scene_geom.specs.Bands.{frequency_of}
use Rattle.scene_geom.proofs.BandLemmas.{frequency-positive}
use Rattle.path_shape.specs.Shape.{plan_length}
use Rattle.scene_parts.specs.declared.screening.edge.Edge.{Edge}
use Rattle.path_shape.specs.declared.path.Path.{Path}
use Rattle.term_barrier.specs.Diffraction.{whole, c_2_by_wavelength, five_wavelengths_squared, c_3, path_difference, k_met, at_one_edge, at_two_edges, ten_lg, attenuation, single_limit, double_limit}
use Rattle.term_barrier.specs.Edges.{across, beside, place, rest, rise, slant, source_to_edge, edge_to_receiver, edge_to_edge, negated_below, single_difference, single_k, single_argument, pair_difference, pair_k, pair_argument, distance_to, where_convex, pair_attenuation}
use Rattle.term_barrier.specs.Screening.{is_above, edges_above, pairs_of, greatest, top_attenuations, top_attenuation, single_arguments, screening}
use Rattle.term_barrier.specs.Lateral.{steps, between_corners, last_corner, lateral_difference}
use Rattle.term_barrier.specs.Laws.{ScreeningIsSound, SideAttenuationIsSound}

-- ---- equations (14) to (18)

sound-waves : (band : Band) → IsSound (five_wavelengths_squared band)
unfolding five_wavelengths_squared
sound-waves band = omega (arith, mul-le 1 1 (frequency_of band) (frequency_of band) (frequency-positive band) (frequency-positive band))

sound-c_2 : (band : Band) → IsSound (c_2_by_wavelength band)
unfolding c_2_by_wavelength
sound-c_2 band = omega arith

sound-c_3 : (band : Band) (e : Tree) → IsSound e → IsSound (c_3 band e)
unfolding c_3
sound-c_3 band e h = (((h, h), sound-waves band), (((h, h), omega arith), sound-waves band))

sound-difference : (length square d : Tree) → IsSound length → IsSound square → IsSound d → IsSound (path_difference length square d)
unfolding path_difference
sound-difference length square d h k l = (((h, h), k), l)

sound-k : (d_ss d_sr d z : Tree) → IsSound d_ss → IsSound d_sr → IsSound d → IsSound z → IsSound (k_met d_ss d_sr d z)
unfolding k_met
sound-k d_ss d_sr d z hs hr hd hz = (hz, omega arith, (omega arith, ((((hs, hr), hd), (omega arith, hz)), omega arith)), omega arith)

sound-one : (band : Band) (z : Tree) → IsSound z → IsSound (at_one_edge band z)
unfolding at_one_edge
sound-one band z h = (sound-c_2 band, h)

sound-two : (band : Band) (e z : Tree) → IsSound e → IsSound z → IsSound (at_two_edges band e z)
unfolding at_two_edges
sound-two band e z h k = ((sound-c_2 band, sound-c_3 band e h), k)

sound-attenuation : (limit : ℕ) (b : Tree) → IsSound b → IsSound (attenuation limit b)
unfolding attenuation ten_lg
sound-attenuation limit b h = (omega arith, (omega arith, (omega arith, h)))

-- ---- edges

positive-abs : (w : ℤ) → pos 0 <ℤ w → 0 < unsigned_abs w
positive-abs (pos n) h = omega (arith, ints)
positive-abs (negsuc n) h = absurd (omega (arith, ints))

positive-thousand : (w : ℤ) → pos 0 <ℤ w → 0 < 1000 * unsigned_abs w
positive-thousand (pos n) h = omega (arith, ints)
positive-thousand (negsuc n) h = absurd (omega (arith, ints))

sound-across : (edge : Edge) → IsSound (across edge)
unfolding across
sound-across edge = (positive-thousand edge.dir.w edge.dir.positive, omega arith)

sound-beside : (edge : Edge) → IsSound (beside edge)
unfolding beside
sound-beside edge = (positive-thousand edge.dir.w edge.dir.positive, omega arith)

sound-place : (edge : Edge) → IsSound (place edge)
unfolding place
sound-place edge = positive-abs edge.t.d edge.t.positive

sound-rest : (edge : Edge) → IsSound (rest edge)
unfolding rest
sound-rest edge = positive-abs edge.t.d edge.t.positive

sound-rise : (high low : ℕ) → IsSound (rise high low)
unfolding rise
sound-rise high low = (omega arith, omega arith)

sound-slant : (length : Tree) (high low : ℕ) → IsSound length → IsSound (slant length high low)
unfolding slant
sound-slant length high low h = ((h, h), (sound-rise high low, sound-rise high low))

sound-to : (path : Path) (edge other : Edge) → IsSound (source_to_edge path (across edge) other)
sound-to path edge other = sound-slant _ other.h path.hs (sound-place other, sound-across edge)

sound-from : (path : Path) (edge other : Edge) → IsSound (edge_to_receiver path (across edge) other)
sound-from path edge other = sound-slant _ other.h path.hr (sound-rest other, sound-across edge)

sound-between : (first second : Edge) → IsSound (edge_to_edge (across first) first second)
sound-between first second = sound-slant _ second.h first.h ((sound-place second, sound-place first), sound-across first)

sound-negated : (above : Bool) (z : Tree) → IsSound z → IsSound (negated_below above z)
sound-negated true z h = h
sound-negated false z h = h

sound-single_difference : (path : Path) (edge : Edge) (d : Tree) → IsSound d → IsSound (single_difference path edge d)
unfolding single_difference
sound-single_difference path edge d h =
    sound-negated edge.above _ (sound-difference _ _ d (sound-to path edge edge, sound-from path edge edge) (sound-beside edge, sound-beside edge) h)

sound-single_k : (path : Path) (edge : Edge) (d : Tree) → IsSound d → IsSound (single_k path edge d)
unfolding single_k
sound-single_k path edge d h = sound-k _ _ d _ (sound-to path edge edge) (sound-from path edge edge) h (sound-single_difference path edge d h)

sound-single : (path : Path) (edge : Edge) (d : Tree) (band : Band) → IsSound d → IsSound (single_argument path edge d band)
unfolding single_argument
sound-single path edge d band h = (omega arith, (sound-one band _ (sound-single_difference path edge d h), sound-single_k path edge d h))

sound-pair_difference : (path : Path) (first second : Edge) (d : Tree) → IsSound d → IsSound (pair_difference path first second d)
unfolding pair_difference
sound-pair_difference path first second d h =
    sound-difference _ _ d ((sound-to path first first, sound-from path first second), sound-between first second) (sound-beside first, sound-beside first) h

sound-pair_k : (path : Path) (first second : Edge) (d : Tree) → IsSound d → IsSound (pair_k path first second d)
unfolding pair_k
sound-pair_k path first second d h = sound-k _ _ d _ (sound-to path first first) (sound-from path first second) h (sound-pair_difference path first second d h)

sound-pair_argument : (path : Path) (first second : Edge) (d : Tree) (band : Band) → IsSound d → IsSound (pair_argument path first second d band)
unfolding pair_argument
sound-pair_argument path first second d band h =
    (omega arith, (sound-two band _ _ (sound-between first second) (sound-pair_difference path first second d h), sound-pair_k path first second d h))

sound-convex : (path : Path) (dp : Tree) (first second : Edge) (quantity : Tree) → IsSound dp → IsSound quantity → IsSound (where_convex path dp first second quantity)
unfolding where_convex
sound-convex path dp first second quantity h k =
    let a : IsSound (distance_to dp first) = (sound-place first, h) in
    let b : IsSound (distance_to dp second) = (sound-place second, h) in (
      b,
      a,
      (
        (sound-rise first.h path.hs, b),
        (sound-rise second.h path.hs, a),
        ((sound-rise second.h path.hr, (h, a)), (sound-rise first.h path.hr, (h, b)), k, omega arith),
        omega arith,
      ),
      omega arith,
    )

sound-pair : (path : Path) (dp : Tree) (d : Tree) (band : Band) → IsSound dp → IsSound d → (pair : Edge × Edge) → IsSound (pair_attenuation path dp pair.0 pair.1 d band)
sound-pair path dp d band h k pair =
    sound-convex path dp pair.0 pair.1 _ h (sound-attenuation double_limit _ (sound-pair_argument path pair.0 pair.1 d band k))

-- ---- all edges

-- each of some formulas is sound
abbrev AreSound : List Tree → Type 0
AreSound [] = Unit {0}
AreSound (t ∷ ts) = IsSound t × AreSound ts

sound-map : {A : Type 0} (f : A → Tree) → ((x : A) → IsSound (f x)) → (xs : List A) → AreSound (map f xs)
sound-map f each [] = tt
sound-map f each (x ∷ xs) = (each x, sound-map f each xs)

sound-append : (ts us : List Tree) → AreSound ts → AreSound us → AreSound (ts ++ us)
sound-append [] us h k = k
sound-append (t ∷ ts) us h k = (h.0, sound-append ts us h.1 k)

sound-fold : (t : Tree) (ts : List Tree) → IsSound t → AreSound ts → IsSound (fold Max t ts)
sound-fold t [] h k = h
sound-fold t (u ∷ us) h k = sound-fold (Max t u) us (h, k.0) k.1

sound-greatest : (ts : List Tree) → AreSound ts → IsSound (greatest ts)
sound-greatest [] h = omega arith
sound-greatest (t ∷ ts) h = sound-fold t ts h.0 h.1

sound-top : (path : Path) (dp : Tree) (edges : List Edge) (d : Tree) (band : Band) → IsSound dp → IsSound d → IsSound (top_attenuation path dp edges d band)
sound-top path dp edges d band h k =
    sound-greatest (top_attenuations path dp edges d band)
    (sound-append _ _
    (sound-map _ (λ edge. sound-attenuation single_limit _ (sound-single path edge d band k)) (edges_above edges))
    (sound-map _ (sound-pair path dp d band h k) (pairs_of (edges_above edges))))

pub screening-sound : ScreeningIsSound
screening-sound path dp [] d gr band h k l = omega arith
screening-sound path dp (edge ∷ edges) d gr band h k l = by_test (list_any is_above (edge ∷ edges)) refl where
  by_test : (test : Bool) → list_any is_above (edge ∷ edges) ≡ test → IsSound (screening path dp (edge ∷ edges) d gr band)
  by_test true e = rw e (omega arith, (sound-top path dp (edge ∷ edges) d band h k, l))
  by_test false e =
      let b : IsSound (greatest (single_arguments path (edge ∷ edges) d band)) =
      sound-greatest (single_arguments path (edge ∷ edges) d band) (sound-map _ (λ edge. sound-single path edge d band k) (edge ∷ edges)) in
      rw e (b, omega arith, (omega arith, (sound-attenuation single_limit _ b, l)), omega arith)

-- ---- round the sides

sound-length : (p q : Pt) → IsSound (plan_length p q)
sound-length p q = omega arith

sound-steps : (corner : Pt) (others : List Pt) → AreSound (steps corner others)
sound-steps corner [] = tt
sound-steps corner (next ∷ others) = (sound-length corner next, sound-steps next others)

sound-sum : (t : Tree) (ts : List Tree) → IsSound t → AreSound ts → IsSound (fold Add t ts)
sound-sum t [] h k = h
sound-sum t (u ∷ us) h k = sound-sum (Add t u) us (h, k.0) k.1

sound-corners : (first : Pt) (others : List Pt) → IsSound (between_corners first others)
sound-corners first others = sound-sum (whole 0) (steps first others) (omega arith) (sound-steps first others)

sound-lateral : (s : Pt) (hs : ℕ) (r : Pt) (hr : ℕ) (first : Pt) (others : List Pt) (d : Tree) → IsSound d → IsSound (lateral_difference s hs r hr first others d)
unfolding lateral_difference
sound-lateral s hs r hr first others d h =
    sound-difference _ _ d
    ((sound-length s first, sound-corners first others), sound-length (last_corner first others) r) (omega arith) h

pub side-sound : SideAttenuationIsSound
side-sound s hs r hr [] d band h = omega arith
side-sound s hs r hr (corner ∷ []) d band h =
    sound-attenuation single_limit _ (omega arith, sound-one band _ (sound-lateral s hs r hr corner [] d h))
side-sound s hs r hr (first ∷ second ∷ others) d band h =
    sound-attenuation double_limit _
    (omega arith, sound-two band _ _ (sound-corners first (second ∷ others)) (sound-lateral s hs r hr first (second ∷ others) d h))
