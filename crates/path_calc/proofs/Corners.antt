-- The way round the corners of a chain isn't long, so that the attenuation there is bounded.
use Rattle.std.proofs.Common.{◌≡◌, ℕ, zero, suc, ◌+◌, ◌*◌, ◌<◌, ◌≤◌, ◌^◌, ℤ, pos, negsuc, neg_ℤ, ◌*ℤ◌, ◌+ℤ◌, ◌≤ℤ◌, unsigned_abs, false, List, [], ◌∷◌, refl, sym, ap, subst, ◌∙◌, arith, lit<, inl, inr}
use Rattle.std.specs.Prelude.{◌⊎◌, Option, Some, None, fold, int_lt}
use Rattle.std.specs.Int.{abs_diff, div_ceil}
use Rattle.std.proofs.lemmas.Int.{ints}
use Rattle.std.proofs.lemmas.Grind.{div_ceil_times}
use Rattle.std.proofs.lemmas.Nat.{mul-le}
use Rattle.fix_interval.specs.Units.{unit, unit-is}
use Rattle.fix_interval.specs.Interval.{Interval}
use Rattle.fix_interval.specs.Bounds.{IsBetween, AreBetween}
use Rattle.fix_interval.specs.Round.{floor_of, ceil_of, floor_root, ceil_root}
use Rattle.fix_interval.specs.Values.{ratio_of, root_of, low_radicand, is_below_zero, add_of, sum_of_ends, neg_of, mul_of, div_of}
use Rattle.fix_interval.specs.Ranges.{sum, negation, product, quotient, square_root, constant, sum_range, quotient_range, root_range, root_limit}
use Rattle.fix_interval.specs.Tree.{Tree, Known, Const, Add, Root, enc}
use Rattle.fix_interval.proofs.Ratios.{ratio_of-small}
use Rattle.fix_interval.proofs.Rounding.{ceil_of-pos, floor_of-le-ceil_of}
use Rattle.fix_interval.proofs.Rooting.{floor_root-mono, floor_root-le-ceil_root, ceil_root-within, high_root_is, root_of-roots}
use Rattle.fix_interval.proofs.Multiplying.{end_of-small}
use Rattle.fix_interval.proofs.RangedFormulas.{between, part-between}
use Rattle.scene_geom.specs.declared.plan.Pt.{Pt}
use Rattle.scene_geom.specs.declared.band.Band.{Band}
use Rattle.scene_geom.specs.declared.band.Band.TheVariants.{Hz63, Hz125, Hz250, Hz500, Hz1000, Hz2000, Hz4000, Hz8000}
use Rattle.scene_geom.specs.Point.{from_to}
use Rattle.edge_chain.specs.Laws.{way_along_axes}
use Rattle.path_shape.specs.Shape.{squared, plan_square, plan_length}
use Rattle.path_shape.proofs.Lengths.{plan_square-within}
use Rattle.term_barrier.specs.Diffraction.{whole, c_2_by_wavelength, five_wavelengths_squared, c_3, path_difference, at_one_edge, at_two_edges, three_and, ten_lg, attenuation, single_limit, double_limit}
use Rattle.term_barrier.specs.Lateral.{steps, between_corners, last_corner, height_square, lateral_difference, side_attenuation}
use Rattle.term_barrier.specs.Limits.{most_top, IsScreening}
use Rattle.term_barrier.proofs.Lengths.{near-length, near-between}
use Rattle.term_barrier.proofs.LateralBounds.{c_2-between, attenuated}
use Rattle.path_calc.specs.inner.Ranges.{IsOnMap}
use Rattle.path_calc.proofs.Bounds.{ratio-between}

-- ---- a length of at most k mm has at most 4,500,000 k units
scaled-square : (k : ℕ) → (4500000 * k) * (4500000 * k) ≡ 20250000000000 * (k * k)
scaled-square k = omega arith

none-or-some : (k : ℕ) → (k * k ≡ 0) ⊎ (1 ≤ k * k)
none-or-some zero = inl (omega arith)
none-or-some (suc k) = inr (mul-le 1 1 (suc k) (suc k) (omega arith) (omega arith))

radicand : (n k m : ℕ) → n ≤ k * k → m * 1000000 < n * 2 ^ 32 + 1000000 → m * 2 ^ 32 ≤ (4500000 * k) * (4500000 * k)
radicand n k m h j = rw (scaled-square k) (by_size (none-or-some k)) where
  by_size : (k * k ≡ 0) ⊎ (1 ≤ k * k) → m * 2 ^ 32 ≤ 20250000000000 * (k * k)
  by_size (inl none) = omega (arith, none, h, j)
  by_size (inr some) = omega (arith, some, h, j)

rounded-up : (n u m : ℕ) → u ≡ 2 ^ 32 → m ≡ div_ceil (n * u) 1000000 → m * 1000000 < n * 2 ^ 32 + 1000000
rounded-up n u m e f = rw (f, e) ((div_ceil_times (n * 2 ^ 32) 1000000 (omega arith)).1)

in-units : (m u x : ℕ) → u ≡ 2 ^ 32 → m * 2 ^ 32 ≤ x → m * u ≤ x
in-units m u x e h = rw e h

no-less : (u a b : ℕ) → a ≤ b → a * u ≤ b * u
no-less u a b h = mul-le a u b u h (omega arith)

length-within : (n k : ℕ) → n ≤ k * k → n < 2 ^ 50 → AreBetween (pos 0) (pos (4500000 * k)) (enc (Root (Const (pos n) 1000000)))
length-within n k h small =
    let m = div_ceil (n * unit) 1000000 in
    let bound : m * 1000000 < n * 2 ^ 32 + 1000000 = rounded-up n unit m unit-is refl in
    let top : ceil_of (pos n *ℤ pos unit) 1000000 ≡ pos m = ceil_of-pos (pos n *ℤ pos unit) 1000000 (omega arith) (omega (arith, ints)) in
    let order = floor_of-le-ceil_of (pos n *ℤ pos unit) 1000000 (omega arith) in
    let few : m < 2 ^ 95 = omega (arith, bound, small) in
    let root : ceil_root (m * unit) ≤ 4500000 * k = ceil_root-within (m * unit) (4500000 * k) (in-units m unit ((4500000 * k) * (4500000 * k)) unit-is (radicand n k m h bound)) in
    let ends : Interval = record { lo = Some (floor_of (pos n *ℤ pos unit) 1000000); hi = Some (pos m) } in
    let is : enc (Root (Const (pos n) 1000000)) ≡ root_of ends =
    ap root_of (ratio_of-small (pos n) 1000000 (omega (arith, small)) ∙ ap (λ (z : ℤ). record { lo = Some (floor_of (pos n *ℤ pos unit) 1000000); hi = Some z }) top) in
    let low : low_radicand ends.lo ≤ m = low-is (floor_of (pos n *ℤ pos unit) 1000000) m (rw top at order) in
    let least : floor_root (low_radicand ends.lo * unit) ≤ 4500000 * k =
    omega (arith, floor_root-mono (low_radicand ends.lo * unit) (m * unit) (no-less unit (low_radicand ends.lo) m low), floor_root-le-ceil_root (m * unit), root) in
    rw (is, root_of-roots ends (not-below m), high_root_is m few)
    (record { lo = (omega (arith, ints), omega (arith, ints, least)); hi = (omega (arith, ints), omega (arith, ints, root)) })
  where
    low-is : (z : ℤ) (m : ℕ) → z ≤ℤ pos m → low_radicand (Some z) ≤ m
    low-is (pos l) m h = omega (arith, ints, h)
    low-is (negsuc l) m h = omega arith

    not-below : (m : ℕ) → is_below_zero (Some (pos m)) ≡ false
    not-below m = let no : false ≡ int_lt (pos m) (pos 0) = omega (arith, ints) in sym no

-- ---- one length, in plan
sum-square : (x y : ℕ) → squared x + squared y ≤ (x + y) * (x + y)
unfolding squared
sum-square x y = omega arith

between-points : (p q : Pt) → AreBetween (pos 0) (pos (4500000 * (unsigned_abs (from_to p q).x + unsigned_abs (from_to p q).y))) (enc (plan_length p q))
between-points p q =
    length-within (plan_square p q) _ (sum-square (unsigned_abs (from_to p q).x) (unsigned_abs (from_to p q).y)) (omega (arith, plan_square-within p q))

length-between : (p q : Pt) → AreBetween (pos 0) (pos (2 ^ 46)) (enc (plan_length p q))
length-between p q = near-between 65537 (2 ^ 46) _ (near-length p q)

-- ---- lengths, one after another
sum-between : (a b : ℕ) (x y : Option ℤ) → a + b < 2 ^ 60 → IsBetween (pos 0) (pos a) x → IsBetween (pos 0) (pos b) y → IsBetween (pos 0) (pos (a + b)) (sum_of_ends x y)
sum-between a b None y few h k = absurd h
sum-between a b (Some x) None few h k = absurd k
sum-between a b (Some (pos x)) (Some (pos y)) few h k =
    rw (end_of-small (pos x +ℤ pos y) (omega (arith, ints, h.1, k.1))) (omega (arith, ints, h.0, k.0), omega (arith, ints, h.1, k.1))
sum-between a b (Some (negsuc x)) (Some y) few h k = absurd (omega (arith, ints, h.0))
sum-between a b (Some (pos x)) (Some (negsuc y)) few h k = absurd (omega (arith, ints, k.0))

added-between : (a b : ℕ) (i k : Interval) → a + b < 2 ^ 60 → AreBetween (pos 0) (pos a) i → AreBetween (pos 0) (pos b) k → AreBetween (pos 0) (pos (a + b)) (add_of i k)
unfolding add_of
added-between a b i k few h j = record { lo = sum-between a b i.lo k.lo few h.lo j.lo; hi = sum-between a b i.hi k.hi few h.hi j.hi }

same-bound : (a b : ℕ) (i : Interval) → a ≡ b → AreBetween (pos 0) (pos a) i → AreBetween (pos 0) (pos b) i
same-bound a b i e h = subst (λ (n : ℕ). AreBetween (pos 0) (pos n) i) e h

steps-between : (a : ℕ) (e : Tree) (corner : Pt) (others : List Pt) → a + way_along_axes (corner ∷ others) ≤ 48000000 → AreBetween (pos 0) (pos (4500000 * a)) (enc e)
    → AreBetween (pos 0) (pos (4500000 * (a + way_along_axes (corner ∷ others)))) (enc (fold Add e (steps corner others)))
steps-between a e corner [] few h = same-bound (4500000 * a) _ (enc e) (omega arith) h
steps-between a e corner (next ∷ others) few h =
    let k = unsigned_abs (from_to corner next).x + unsigned_abs (from_to corner next).y in
    let rest = way_along_axes (next ∷ others) in
    let more : AreBetween (pos 0) (pos (4500000 * (a + k))) (enc (Add e (plan_length corner next))) =
    same-bound (4500000 * a + 4500000 * k) _ _ (omega arith) (added-between (4500000 * a) (4500000 * k) (enc e) (enc (plan_length corner next)) (omega (arith, few)) h (between-points corner next)) in
    same-bound (4500000 * (a + k + rest)) _ _ (omega arith) (steps-between (a + k) (Add e (plan_length corner next)) next others (omega (arith, few)) more)

nothing-between : AreBetween (pos 0) (pos (4500000 * 0)) (enc (whole 0))
unfolding ratio_of unit
nothing-between = record { lo = (omega (arith, ints), omega (arith, ints)); hi = (omega (arith, ints), omega (arith, ints)) }

-- from the first corner to the last
corners-between : (first : Pt) (others : List Pt) → way_along_axes (first ∷ others) ≤ 48000000 → AreBetween (pos 0) (pos 216000000000000) (enc (between_corners first others))
corners-between first others few =
    wider (4500000 * (0 + way_along_axes (first ∷ others))) _ (omega (arith, few)) (steps-between 0 (whole 0) first others (omega (arith, few)) nothing-between)
  where
    wider-end : (a : ℕ) (end : Option ℤ) → a ≤ 216000000000000 → IsBetween (pos 0) (pos a) end → IsBetween (pos 0) (pos 216000000000000) end
    wider-end a None h k = absurd k
    wider-end a (Some z) h k = (k.0, omega (arith, ints, h, k.1))

    wider : (a : ℕ) (i : Interval) → a ≤ 216000000000000 → AreBetween (pos 0) (pos a) i → AreBetween (pos 0) (pos 216000000000000) i
    wider a i h k = record { lo = wider-end a i.lo h k.lo; hi = wider-end a i.hi h k.hi }

-- ---- z
-- the square of the difference of two heights of at most 100 m
heights-between : (hs hr : ℕ) → hs ≤ 100000 → hr ≤ 100000 → AreBetween (pos 0) (pos (2 ^ 46)) (enc (height_square hs hr))
unfolding unit
heights-between hs hr h k =
    let few : abs_diff hs hr * abs_diff hs hr ≤ 10000000000 = omega (arith, mul-le (abs_diff hs hr) (abs_diff hs hr) 100000 100000 (omega arith) (omega arith)) in
    ratio-between (pos 0) (pos 16384000000) (pos (abs_diff hs hr * abs_diff hs hr)) _ _ 1000000 (lit< tt) (omega (arith, few)) (omega (arith, ints)) (omega (arith, ints, few)) refl refl refl refl

difference-between : (first : Interval) (e last square d : Interval) → AreBetween (pos 0) (pos (2 ^ 46)) first → AreBetween (pos 0) (pos 216000000000000) e → AreBetween (pos 0) (pos (2 ^ 46)) last
    → AreBetween (pos 0) (pos (2 ^ 46)) square → IsOnMap d
    → AreBetween (neg_ℤ (pos (2 ^ 47))) (pos (2 ^ 49)) (enc (path_difference (Add (Add (Known first) (Known e)) (Known last)) (Known square) (Known d)))
unfolding path_difference unit mul_of neg_of sum_range root_range root_limit
difference-between first e last square d hf he hl hs hd =
    let way = sum (sum (part-between _ _ {t = Known first} hf) (part-between _ _ {t = Known e} he)) (part-between _ _ {t = Known last} hl) in
    between _ _ {t = path_difference (Add (Add (Known first) (Known e)) (Known last)) (Known square) (Known d)}
    (sum (square_root (sum (product way way) (part-between _ _ {t = Known square} hs))) (negation (part-between _ _ {t = Known d} hd))) refl

lateral-between : (s : Pt) (hs : ℕ) (r : Pt) (hr : ℕ) (first : Pt) (others : List Pt) (d : Interval) → hs ≤ 100000 → hr ≤ 100000 → way_along_axes (first ∷ others) ≤ 48000000 → IsOnMap d
    → AreBetween (neg_ℤ (pos (2 ^ 47))) (pos (2 ^ 49)) (enc (lateral_difference s hs r hr first others (Known d)))
unfolding lateral_difference path_difference
lateral-between s hs r hr first others d h k few near =
    difference-between (enc (plan_length s first)) (enc (between_corners first others)) (enc (plan_length (last_corner first others) r)) (enc (height_square hs hr)) d
    (length-between s first) (corners-between first others few) (length-between (last_corner first others) r) (heights-between hs hr h k) near

-- ---- D_z
nothing-screens : IsScreening (enc (whole 0))
unfolding ratio_of unit
nothing-screens = record { lo = (omega (arith, ints), omega (arith, ints)); hi = (omega (arith, ints), omega (arith, ints)) }

-- at most 25 dB
screens : (i : Interval) → AreBetween (pos 0) most_top i → IsScreening i
screens i h = record { lo = below i.lo h.lo; hi = below i.hi h.hi } where
  below : (end : Option ℤ) → IsBetween (pos 0) most_top end → IsBetween (pos 0) (pos (48 * 2 ^ 32)) end
  below None k = absurd k
  below (Some z) k = (k.0, omega (arith, ints, k.1))

waves-between : (band : Band) → AreBetween (pos 193944615) (pos (2 ^ 42)) (enc (five_wavelengths_squared band))
unfolding five_wavelengths_squared ratio_of unit
waves-between Hz63 = record { lo = (omega (arith, ints), omega (arith, ints)); hi = (omega (arith, ints), omega (arith, ints)) }
waves-between Hz125 = record { lo = (omega (arith, ints), omega (arith, ints)); hi = (omega (arith, ints), omega (arith, ints)) }
waves-between Hz250 = record { lo = (omega (arith, ints), omega (arith, ints)); hi = (omega (arith, ints), omega (arith, ints)) }
waves-between Hz500 = record { lo = (omega (arith, ints), omega (arith, ints)); hi = (omega (arith, ints), omega (arith, ints)) }
waves-between Hz1000 = record { lo = (omega (arith, ints), omega (arith, ints)); hi = (omega (arith, ints), omega (arith, ints)) }
waves-between Hz2000 = record { lo = (omega (arith, ints), omega (arith, ints)); hi = (omega (arith, ints), omega (arith, ints)) }
waves-between Hz4000 = record { lo = (omega (arith, ints), omega (arith, ints)); hi = (omega (arith, ints), omega (arith, ints)) }
waves-between Hz8000 = record { lo = (omega (arith, ints), omega (arith, ints)); hi = (omega (arith, ints), omega (arith, ints)) }

single-between : (band : Band) (z : Interval) → AreBetween (neg_ℤ (pos (2 ^ 47))) (pos (2 ^ 49)) z
    → IsScreening (enc (attenuation single_limit (three_and (at_one_edge band (Known z)))))
unfolding attenuation ten_lg at_one_edge unit mul_of
single-between band z h =
    screens _
    (attenuated single_limit (enc (at_one_edge band (Known z))) (omega arith)
    (between _ _ {t = at_one_edge band (Known z)} (product (part-between _ _ {t = c_2_by_wavelength band} (c_2-between band)) (part-between _ _ {t = Known z} h)) refl))

several-between : (band : Band) (e z : Interval) → AreBetween (pos 0) (pos 216000000000000) e → AreBetween (neg_ℤ (pos (2 ^ 47))) (pos (2 ^ 49)) z
    → IsScreening (enc (attenuation double_limit (three_and (at_two_edges band (Known e) (Known z)))))
unfolding attenuation ten_lg at_two_edges c_3 unit ratio_of mul_of div_of sum_range quotient_range
several-between band e z he hz =
    let wave = part-between _ _ {t = five_wavelengths_squared band} (waves-between band) in
    let square = product (part-between _ _ {t = Known e} he) (part-between _ _ {t = Known e} he) in
    screens _
    (attenuated double_limit (enc (at_two_edges band (Known e) (Known z))) (omega arith)
    (between _ _ {t = at_two_edges band (Known e) (Known z)}
    (product
    (product (part-between _ _ {t = c_2_by_wavelength band} (c_2-between band)) (quotient (sum square wave) (sum (quotient square (constant (lit< tt))) wave)))
    (part-between _ _ {t = Known z} hz)) refl))

pub side-between : (s : Pt) (hs : ℕ) (r : Pt) (hr : ℕ) (corners : List Pt) (d : Interval) (band : Band) → hs ≤ 100000 → hr ≤ 100000 → way_along_axes corners ≤ 48000000 → IsOnMap d
    → IsScreening (enc (side_attenuation s hs r hr corners (Known d) band))
unfolding attenuation ten_lg at_one_edge at_two_edges c_3
side-between s hs r hr [] d band h k few near = nothing-screens
side-between s hs r hr (corner ∷ []) d band h k few near =
    single-between band (enc (lateral_difference s hs r hr corner [] (Known d))) (lateral-between s hs r hr corner [] d h k few near)
side-between s hs r hr (first ∷ second ∷ others) d band h k few near =
    several-between band (enc (between_corners first (second ∷ others))) (enc (lateral_difference s hs r hr first (second ∷ others) (Known d)))
    (corners-between first (second ∷ others) few) (lateral-between s hs r hr first (second ∷ others) d h k few near)
