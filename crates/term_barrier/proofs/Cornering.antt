-- The way round corners.
use Rattle.std.proofs.Common.{◌≡◌, ℕ, ◌<◌, refl, arith, List, [], ◌∷◌, length, map, fold}
use Rattle.fix_interval.specs.Interval.{Interval}
use Rattle.fix_interval.specs.Values.{add_of}
use Rattle.fix_interval.specs.Tree.{Tree, Known, Add, enc}
use Rattle.scene_geom.specs.declared.plan.Pt.{Pt}
use Rattle.scene_geom.specs.declared.band.Band.{Band}
use Rattle.scene_geom.specs.declared.band.Band.TheVariants.{Hz63, Hz125, Hz250, Hz500, Hz1000, Hz2000, Hz4000, Hz8000}
use Rattle.scene_geom.specs.Bands.{all_bands}
use Rattle.path_shape.specs.Shape.{plan_length}
use Rattle.term_barrier.specs.Diffraction.{c_3, at_one_edge, at_two_edges, path_difference, three_and, attenuation, ten_lg, single_limit, double_limit}
use Rattle.term_barrier.specs.inner.Reaching.{spacing_of, two_edges}
use Rattle.term_barrier.specs.Lateral.{in_band, steps, between_corners, last_corner, height_square, lateral_difference, side_attenuation}

-- a sum of formulas
pub sum-is : (t : Tree) (ts : List Tree) → enc (fold Add t ts) ≡ fold add_of (enc t) (map enc ts)
sum-is t [] = refl
sum-is t (u ∷ us) = sum-is (Add t u) us

-- z from its parts
pub lateral-known : (s : Pt) (hs : ℕ) (r : Pt) (hr : ℕ) (first : Pt) (others : List Pt) (d : Interval)
    → enc (path_difference
    (Known (enc (Add (Add (plan_length s first) (between_corners first others)) (plan_length (last_corner first others) r))))
    (Known (enc (height_square hs hr))) (Known d))
    ≡ enc (lateral_difference s hs r hr first others (Known d))
unfolding path_difference lateral_difference
lateral-known s hs r hr first others d = refl

pub one-corner : (s : Pt) (hs : ℕ) (r : Pt) (hr : ℕ) (first : Pt) (others : List Pt) (d : Interval) (band : Band) (z : Interval) → length others ≡ 0
    → z ≡ enc (lateral_difference s hs r hr first others (Known d))
    → enc (attenuation single_limit (Known (enc (three_and (at_one_edge band (Known z)))))) ≡ enc (side_attenuation s hs r hr (first ∷ others) (Known d) band)
unfolding attenuation ten_lg at_one_edge
one-corner s hs r hr first [] d band z none e = rw e refl
one-corner s hs r hr first (next ∷ others) d band z none e = absurd (omega arith)

pub more-corners : (s : Pt) (hs : ℕ) (r : Pt) (hr : ℕ) (first : Pt) (others : List Pt) (d : Interval) (band : Band) (e z : Interval) → 0 < length others
    → e ≡ enc (between_corners first others) → z ≡ enc (lateral_difference s hs r hr first others (Known d))
    → enc (attenuation double_limit (Known (enc (three_and (Known (two_edges band (spacing_of e) z)))))) ≡ enc (side_attenuation s hs r hr (first ∷ others) (Known d) band)
unfolding attenuation ten_lg at_two_edges c_3
more-corners s hs r hr first [] d band e z some f g = absurd (omega arith)
more-corners s hs r hr first (next ∷ others) d band e z some f g = rw (f, g) refl

-- one corner farther
pub length-step : (e more : Interval) (last corner : Pt) (here next : List Pt) (total : Interval) → here ≡ corner ∷ next → more ≡ add_of e (enc (plan_length last corner))
    → fold add_of e (map enc (steps last here)) ≡ total → fold add_of more (map enc (steps corner next)) ≡ total
length-step e more last corner here next total f m h = rw m (rw f at h)

pub last-step : (last corner : Pt) (here next : List Pt) (total : Pt) → here ≡ corner ∷ next → last_corner last here ≡ total → last_corner corner next ≡ total
last-step last corner here next total f h = rw f at h

pub length-end : (e : Interval) (last : Pt) (here : List Pt) (total : Interval) → here ≡ [] → fold add_of e (map enc (steps last here)) ≡ total → e ≡ total
length-end e last here total f h = rw f at h

pub last-end : (last : Pt) (here : List Pt) (total : Pt) → here ≡ [] → last_corner last here ≡ total → last ≡ total
last-end last here total f h = rw f at h

-- (C_2 / λ) C_3 z from what C_3 takes of e
pub two-known : (band : Band) (e z : Interval) → two_edges band (spacing_of e) z ≡ enc (at_two_edges band (Known e) (Known z))
unfolding at_two_edges c_3
two-known band e z = refl

-- ---- all bands

pub in-bands : (f : Band → Interval) (band : Band) → in_band (map f all_bands) band ≡ f band
in-bands f Hz63 = refl
in-bands f Hz125 = refl
in-bands f Hz250 = refl
in-bands f Hz500 = refl
in-bands f Hz1000 = refl
in-bands f Hz2000 = refl
in-bands f Hz4000 = refl
in-bands f Hz8000 = refl

-- what holds in each band holds in the list of all
pub all-bands : (f g : Band → Interval) → ((band : Band) → f band ≡ g band) → map f all_bands ≡ map g all_bands
all-bands f g same = rw (same Hz63, same Hz125, same Hz250, same Hz500, same Hz1000, same Hz2000, same Hz4000, same Hz8000) refl
