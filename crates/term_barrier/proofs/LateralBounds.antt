-- Bounds on D_z round the sides.
use Rattle.std.proofs.Common.{◌≡◌, ℕ, ◌+◌, ◌*◌, ◌/◌, ◌<◌, ◌≤◌, ◌^◌, ℤ, pos, neg_ℤ, ◌*ℤ◌, ◌+ℤ◌, ◌≤ℤ◌, refl, sym, ap, subst, ◌∙◌, arith, lit<, lit≤, inl, inr, List, length}
use Rattle.std.specs.Prelude.{Option, Some, None, ◌⊎◌}
use Rattle.std.specs.Int.{abs_diff, div_ceil, int_min, int_max}
use Rattle.std.proofs.lemmas.Int.{ints, clamps}
use Rattle.std.proofs.lemmas.Nat.{mul-le}
use Rattle.std.proofs.lemmas.Bool.{cases_lt}
use Rattle.std.proofs.lemmas.Grind.{div_ceil_times}
use Rattle.fix_interval.specs.Units.{unit, unit-is}
use Rattle.fix_interval.specs.Interval.{Interval}
use Rattle.fix_interval.specs.Bounds.{IsBetween, AreBetween}
use Rattle.fix_interval.specs.Round.{floor_of, ceil_of, floor_quotient, ceil_quotient}
use Rattle.fix_interval.specs.Values.{ratio_of, add_of, neg_of, max_of, min_of, lesser_low, lesser_high, mul_of, div_of, product_of_ends, quotient_of_ends}
use Rattle.fix_interval.specs.Ranges.{constant, sum, negation, product, greater, square_root, logarithm, sum_range, root_range, root_limit, logarithm_range}
use Rattle.fix_interval.specs.Lg.{decade_of, greatest}
use Rattle.fix_interval.specs.Tree.{Known, enc}
use Rattle.fix_interval.proofs.Ratios.{ratio_of-small, ratio_of-one}
use Rattle.fix_interval.proofs.Ends.{on_ends-bounded}
use Rattle.fix_interval.proofs.Multiplying.{end_of-small, least_product-positive, greatest_product-positive}
use Rattle.fix_interval.proofs.Dividing.{≤ℤ_trans, quotient_of_ends-positive}
use Rattle.fix_interval.proofs.Rounding.{ceil_of-pos, ceil_of-mono, floor_of-le-ceil_of, ceil_of-scaled, ceil_of-one}
use Rattle.fix_interval.proofs.Order.{int_min-keeps, int_max-keeps}
use Rattle.fix_interval.proofs.RangedFormulas.{between, part-between}
use Rattle.fix_interval.proofs.Spans.{unit-pos}
use Rattle.enclose_log.proofs.LgRange.{logarithm-ranged}
use Rattle.scene_geom.specs.declared.plan.Pt.{Pt}
use Rattle.scene_geom.specs.declared.band.Band.{Band}
use Rattle.scene_geom.specs.declared.band.Band.TheVariants.{Hz63, Hz125, Hz250, Hz500, Hz1000, Hz2000, Hz4000, Hz8000}
use Rattle.path_shape.specs.Shape.{plan_length}
use Rattle.term_barrier.specs.Diffraction.{whole, c_2_by_wavelength, five_wavelengths_squared, c_3, path_difference, at_one_edge, at_two_edges, three_and, ten_lg, attenuation, single_limit, double_limit}
use Rattle.term_barrier.specs.inner.Reaching.{spacing_of, two_edges}
use Rattle.term_barrier.specs.Lateral.{between_corners, last_corner, height_square}
use Rattle.term_barrier.specs.Limits.{most_top, IsDistance}
use Rattle.term_barrier.proofs.Lengths.{Near, near-length, near-sum, near-wider, near-corners, near-between}

-- ---- z

-- the square of a difference of heights
pub heights-between : (hs hr : ℕ) → hs < 2 ^ 32 → hr < 2 ^ 32 → AreBetween (pos 0) (pos (2 ^ 80)) (enc (height_square hs hr))
heights-between hs hr h k =
    let n = abs_diff hs hr * abs_diff hs hr in
    let few : n ≤ 2 ^ 64 = omega (arith, mul-le (abs_diff hs hr) (abs_diff hs hr) (2 ^ 32) (2 ^ 32) (omega arith) (omega arith)) in
    let floor : pos 0 ≤ℤ floor_of (pos n *ℤ pos unit) 1000000 = omega (arith, ints) in
    let order = floor_of-le-ceil_of (pos n *ℤ pos unit) 1000000 (omega arith) in
    let top : ceil_of (pos n *ℤ pos unit) 1000000 ≤ℤ pos (2 ^ 80) =
    ≤ℤ_trans _ (ceil_of (pos (1000000 * 2 ^ 80)) 1000000) _ (ceil_of-mono (pos n *ℤ pos unit) (pos (1000000 * 2 ^ 80)) 1000000 (omega arith) (rw unit-is (omega (arith, ints, few)))) (omega (arith, ints)) in
    rw (ratio_of-small (pos n) 1000000 (omega (arith, few)))
    (record { lo = (floor, ≤ℤ_trans _ _ _ order top); hi = (≤ℤ_trans _ _ _ floor order, top) })

-- the way round at most 2^16 corners
pub way-between : (s r first : Pt) (others : List Pt) → length others < 2 ^ 16
    → AreBetween (pos 0) (pos (2 ^ 62 + 2 ^ 47)) (add_of (add_of (enc (plan_length s first)) (enc (between_corners first others))) (enc (plan_length (last_corner first others) r)))
way-between s r first others few =
    let start = near-sum 65537 (2 ^ 33) (2 ^ 46) (2 ^ 62) (enc (plan_length s first)) (enc (between_corners first others)) (near-length s first) (near-corners first others few) (omega arith) in
    let way = add_of (add_of (enc (plan_length s first)) (enc (between_corners first others))) (enc (plan_length (last_corner first others) r)) in
    let all = near-sum (65537 + 2 ^ 33) 65537 (2 ^ 46 + 2 ^ 62) (2 ^ 46) _ _ start (near-length (last_corner first others) r) (omega arith) in
    near-between (2 ^ 34) (2 ^ 62 + 2 ^ 47) way (near-wider (65537 + 2 ^ 33 + 65537) (2 ^ 34) (2 ^ 46 + 2 ^ 62 + 2 ^ 46) (2 ^ 62 + 2 ^ 47) way all (omega arith) (omega arith))

pub difference-between : (length square d : Interval) → AreBetween (pos 0) (pos (2 ^ 62 + 2 ^ 47)) length → AreBetween (pos 0) (pos (2 ^ 80)) square → IsDistance d
    → AreBetween (neg_ℤ (pos (2 ^ 60))) (pos (2 ^ 63)) (enc (path_difference (Known length) (Known square) (Known d)))
unfolding path_difference unit mul_of neg_of sum_range root_range root_limit
difference-between length square d h k l =
    between _ _ {t = path_difference (Known length) (Known square) (Known d)}
    (sum
    (square_root (sum (product (part-between _ _ {t = Known length} h) (part-between _ _ {t = Known length} h)) (part-between _ _ {t = Known square} k)))
    (negation (part-between _ _ {t = Known d} l))) refl

-- ---- C_3

-- a quotient of what is at most m times as great
ceil-exact : (k : ℤ) (d : ℕ) → 0 < d → ceil_of (k *ℤ pos d) d ≡ k
ceil-exact k d some = subst (λ (n : ℕ). ceil_of (k *ℤ pos d) n ≡ k) (omega arith) (ceil_of-scaled k 1 d (omega arith) some ∙ ceil_of-one k)

abbrev IsFactor : ℕ → ℤ → Type 0
IsFactor m z = (pos 0 ≤ℤ z) × (z ≤ℤ pos (m * 2 ^ 32))

floor-not_below : (n d : ℕ) → 0 < d → pos 0 ≤ℤ floor_of (pos n *ℤ pos unit) d
floor-not_below n d some = omega (arith, ints)

ceil-within : (m n d : ℕ) → 0 < d → n ≤ m * d → ceil_of (pos n *ℤ pos unit) d ≤ℤ pos (m * 2 ^ 32)
ceil-within m n d some h =
    let order : n * 2 ^ 32 ≤ m * 2 ^ 32 * d = omega (arith, h) in
    ≤ℤ_trans _ (ceil_of (pos (m * 2 ^ 32) *ℤ pos d) d) _
    (ceil_of-mono (pos n *ℤ pos unit) (pos (m * 2 ^ 32) *ℤ pos d) d some (rw unit-is (omega (arith, ints, order))))
    (rw (ceil-exact (pos (m * 2 ^ 32)) d some) (omega (arith, ints)))

factors : (m n d : ℕ) → 0 < d → n ≤ m * d → IsFactor m (floor_of (pos n *ℤ pos unit) d) × IsFactor m (ceil_of (pos n *ℤ pos unit) d)
factors m n d some h =
    let low = floor-not_below n d some in
    let high = ceil-within m n d some h in
    let order = floor_of-le-ceil_of (pos n *ℤ pos unit) d some in
    ((low, ≤ℤ_trans _ _ _ order high), (≤ℤ_trans _ _ _ low order, high))

quotient-between : (m al ah bl bh : ℕ) → 0 < bl → bl ≤ bh → al ≤ ah → ah < 2 ^ 94 → ah ≤ m * bl
    → AreBetween (pos 0) (pos (m * 2 ^ 32)) (quotient_of_ends (pos al) (pos ah) (pos bl) (pos bh))
quotient-between m al ah bl bh some order up small h =
    let wide : m * bl ≤ m * bh = mul-le m bl m bh (omega arith) order in
    let a = factors m al bl some (omega (arith, h, up)) in
    let b = factors m al bh (omega (arith, some, order)) (omega (arith, h, up, wide)) in
    let c = factors m ah bl some h in
    let d = factors m ah bh (omega (arith, some, order)) (omega (arith, h, wide)) in
    rw (quotient_of_ends-positive (pos al) (pos ah) (pos bl) (pos bh) (omega (arith, ints)) (omega (arith, ints)) (omega (arith, ints)) (omega arith) (omega arith))
    (record {
      lo = int_min-keeps (IsFactor m) _ _ a.0 b.0;
      hi = int_max-keeps (IsFactor m) _ _ c.1 d.1;
    })

-- ends that are naturals
pub record Naturals (low high : ℕ) (i : Interval) : Type 0 where
  pub lo_is : i.lo ≡ Some (pos low)
  pub hi_is : i.hi ≡ Some (pos high)

-- the square of e
pub record Squared (e : Interval) : Type 0 where
  low : ℕ
  high : ℕ
  are : Naturals low high (mul_of e e)
  ordered : low ≤ high
  small : high ≤ 2 ^ 92
  close : high ≤ 4 * low + 2 ^ 36 + 8

twice : (l : ℕ) → 2 * l * (2 * l) ≡ 4 * (l * l)
twice l = omega arith

squares-close : (l h : ℕ) → l ≤ h → h ≤ 2 ^ 62 → h ≤ l + 2 ^ 33 → (h * h ≤ 2 ^ 124) × (l * l ≤ h * h) × (h * h ≤ 4 * (l * l) + 2 ^ 68)
squares-close l h order within close = by_size (cases_lt l (2 ^ 33)) where
  by_size : (l < 2 ^ 33) ⊎ (2 ^ 33 ≤ l) → (h * h ≤ 2 ^ 124) × (l * l ≤ h * h) × (h * h ≤ 4 * (l * l) + 2 ^ 68)
  by_size (inl few) = (
    omega (arith, mul-le h h (2 ^ 62) (2 ^ 62) within within),
    omega (arith, mul-le l l h h order order),
    omega (arith, mul-le h h (2 ^ 34) (2 ^ 34) (omega arith) (omega arith)),
  )
  by_size (inr many) = (
    omega (arith, mul-le h h (2 ^ 62) (2 ^ 62) within within),
    omega (arith, mul-le l l h h order order),
    omega (arith, mul-le h h (2 * l) (2 * l) (omega arith) (omega arith), twice l),
  )

-- rounded down and up to units
rounded : (a b : ℕ) → a ≤ b → b ≤ 2 ^ 124 → b ≤ 4 * a + 2 ^ 68
    → (a / 2 ^ 32 ≤ div_ceil b (2 ^ 32)) × (div_ceil b (2 ^ 32) ≤ 2 ^ 92) × (div_ceil b (2 ^ 32) ≤ 4 * (a / 2 ^ 32) + 2 ^ 36 + 8)
rounded a b order few close =
    let times = div_ceil_times b (2 ^ 32) (omega arith) in
    (omega (arith, times.0, times.1), omega (arith, times.1), omega (arith, times.1))

pub squared : (e : Interval) → Near (2 ^ 33) (2 ^ 62) e → Squared e
unfolding mul_of
squared e n =
    let l = n.low in
    let h = n.high in
    let close = squares-close l h n.ordered n.within n.close in
    let least = least_product-positive (pos l) (pos h) (pos l) (pos h) (omega (arith, ints)) (omega (arith, ints, n.ordered)) (omega (arith, ints, n.ordered)) (omega (arith, ints)) in
    let greatest = greatest_product-positive (pos l) (pos h) (pos l) (pos h) (omega (arith, ints)) (omega (arith, ints, n.ordered)) (omega (arith, ints, n.ordered)) (omega (arith, ints)) in
    let ends = on_ends-bounded product_of_ends e e (pos l) (pos h) (pos l) (pos h) (n.lo_is, n.hi_is) (n.lo_is, n.hi_is) in
    let outward : product_of_ends (pos l) (pos h) (pos l) (pos h) ≡ record { lo = Some (floor_of (pos (l * l)) unit); hi = Some (ceil_of (pos (h * h)) unit) } =
    rw (least, greatest, end_of-small (pos l *ℤ pos l) (omega (arith, close.0, close.1)), end_of-small (pos h *ℤ pos h) (omega (arith, close.0))) refl in
    let units = rounded (l * l) (h * h) close.1 close.0 close.2 in
    let top = ceil_of-pos (pos (h * h)) unit unit-pos (omega (arith, ints)) in
    record {
      low = l * l / 2 ^ 32;
      high = div_ceil (h * h) (2 ^ 32);
      are = record {
        lo_is = ap (λ (i : Interval). i.lo) (ends ∙ outward) ∙ ap (λ (u : ℕ). Some (floor_of (pos (l * l)) u)) unit-is;
        hi_is = ap (λ (i : Interval). i.hi) (ends ∙ outward) ∙ ap Some top ∙ ap (λ (u : ℕ). Some (pos (div_ceil (h * h) u))) unit-is;
      };
      ordered = units.0;
      small = units.1;
      close = units.2;
    }

-- a third of it
record Third (low high : ℕ) (i : Interval) : Type 0 where
  from : ℕ
  to : ℕ
  are : Naturals from to i
  some : low ≤ 3 * from + 2
  ordered : from ≤ to
  few : to ≤ high + 1

same-min : (x : ℤ) → int_min x x ≡ x
same-min x = omega (arith, ints, clamps)

same-max : (x : ℤ) → int_max x x ≡ x
same-max x = omega (arith, ints, clamps)

thirds : (low high : ℕ) → low ≤ high → high ≤ 2 ^ 92
    → (low ≤ 3 * (low * 2 ^ 32 / (3 * 2 ^ 32)) + 2) × (low * 2 ^ 32 / (3 * 2 ^ 32) ≤ div_ceil (high * 2 ^ 32) (3 * 2 ^ 32)) × (div_ceil (high * 2 ^ 32) (3 * 2 ^ 32) ≤ high + 1)
thirds low high order few =
    let times = div_ceil_times (high * 2 ^ 32) (3 * 2 ^ 32) (omega arith) in
    (omega arith, omega (arith, times.0, times.1), omega (arith, times.1))

third : (i : Interval) (low high : ℕ) → Naturals low high i → low ≤ high → high ≤ 2 ^ 92 → Third low high (div_of i (enc (whole 3)))
unfolding div_of
third i low high n order few =
    let is = ratio_of-one (pos 3) (omega arith) in
    let three : ℤ = pos 3 *ℤ pos unit in
    let ends = on_ends-bounded quotient_of_ends i (ratio_of (pos 3) 1) (pos low) (pos high) (pos 3 *ℤ pos unit) (pos 3 *ℤ pos unit) (n.lo_is, n.hi_is) (ap (λ (k : Interval). k.lo) is, ap (λ (k : Interval). k.hi) is) in
    let found = quotient_of_ends-positive (pos low) (pos high) (pos 3 *ℤ pos unit) (pos 3 *ℤ pos unit) (rw unit-is (omega (arith, ints))) (omega (arith, ints)) (omega (arith, ints)) (omega arith) (omega arith) in
    let top = ceil_of-pos (pos high *ℤ pos unit) (3 * unit) (rw unit-is (omega arith)) (omega (arith, ints)) in
    let size = thirds low high order few in
    record {
      from = low * 2 ^ 32 / (3 * 2 ^ 32);
      to = div_ceil (high * 2 ^ 32) (3 * 2 ^ 32);
      are = record {
        lo_is = ap (λ (k : Interval). k.lo) (ends ∙ found) ∙ ap Some (same-min (floor_quotient (pos low *ℤ pos unit) (pos 3 *ℤ pos unit))) ∙ ap (λ (u : ℕ). Some (floor_of (pos (low * u)) (3 * u))) unit-is;
        hi_is = ap (λ (k : Interval). k.hi) (ends ∙ found) ∙ ap Some (same-max (ceil_quotient (pos high *ℤ pos unit) (pos 3 *ℤ pos unit)) ∙ top) ∙ ap (λ (u : ℕ). Some (pos (div_ceil (high * u) (3 * u)))) unit-is;
      };
      some = size.0;
      ordered = size.1;
      few = size.2;
    }

-- (5 λ)²
pub record Waves (i : Interval) : Type 0 where
  pub low : ℕ
  pub high : ℕ
  pub are : Naturals low high i
  pub some : 2 ^ 27 ≤ low
  pub ordered : low ≤ high
  pub close : high ≤ low + 1
  pub few : high ≤ 2 ^ 42

pub waves : (band : Band) → Waves (enc (five_wavelengths_squared band))
unfolding five_wavelengths_squared ratio_of unit
waves Hz63 = record { low = 2890000 * 2 ^ 32 / 3969; high = 2890000 * 2 ^ 32 / 3969 + 1; are = record { lo_is = refl; hi_is = refl }; some = lit≤ tt; ordered = lit≤ tt; close = lit≤ tt; few = lit≤ tt }
waves Hz125 = record { low = 2890000 * 2 ^ 32 / 15625; high = 2890000 * 2 ^ 32 / 15625 + 1; are = record { lo_is = refl; hi_is = refl }; some = lit≤ tt; ordered = lit≤ tt; close = lit≤ tt; few = lit≤ tt }
waves Hz250 = record { low = 2890000 * 2 ^ 32 / 62500; high = 2890000 * 2 ^ 32 / 62500 + 1; are = record { lo_is = refl; hi_is = refl }; some = lit≤ tt; ordered = lit≤ tt; close = lit≤ tt; few = lit≤ tt }
waves Hz500 = record { low = 2890000 * 2 ^ 32 / 250000; high = 2890000 * 2 ^ 32 / 250000 + 1; are = record { lo_is = refl; hi_is = refl }; some = lit≤ tt; ordered = lit≤ tt; close = lit≤ tt; few = lit≤ tt }
waves Hz1000 = record { low = 2890000 * 2 ^ 32 / 1000000; high = 2890000 * 2 ^ 32 / 1000000 + 1; are = record { lo_is = refl; hi_is = refl }; some = lit≤ tt; ordered = lit≤ tt; close = lit≤ tt; few = lit≤ tt }
waves Hz2000 = record { low = 2890000 * 2 ^ 32 / 4000000; high = 2890000 * 2 ^ 32 / 4000000 + 1; are = record { lo_is = refl; hi_is = refl }; some = lit≤ tt; ordered = lit≤ tt; close = lit≤ tt; few = lit≤ tt }
waves Hz4000 = record { low = 2890000 * 2 ^ 32 / 16000000; high = 2890000 * 2 ^ 32 / 16000000 + 1; are = record { lo_is = refl; hi_is = refl }; some = lit≤ tt; ordered = lit≤ tt; close = lit≤ tt; few = lit≤ tt }
waves Hz8000 = record { low = 2890000 * 2 ^ 32 / 64000000; high = 2890000 * 2 ^ 32 / 64000000 + 1; are = record { lo_is = refl; hi_is = refl }; some = lit≤ tt; ordered = lit≤ tt; close = lit≤ tt; few = lit≤ tt }

pub naturals-sum : (a b c d : ℕ) (i k : Interval) → Naturals a b i → Naturals c d k → a + c < 2 ^ 126 → b + d < 2 ^ 126 → Naturals (a + c) (b + d) (add_of i k)
unfolding add_of
naturals-sum a b c d i k m n low high =
    record { lo_is = rw (m.lo_is, n.lo_is) (end_of-small (pos a +ℤ pos c) (omega arith)); hi_is = rw (m.hi_is, n.hi_is) (end_of-small (pos b +ℤ pos d) (omega arith)) }

pub naturals-quotient : (times al ah bl bh : ℕ) (i k : Interval) → Naturals al ah i → Naturals bl bh k → 0 < bl → bl ≤ bh → al ≤ ah → ah < 2 ^ 94 → ah ≤ times * bl
    → AreBetween (pos 0) (pos (times * 2 ^ 32)) (div_of i k)
unfolding div_of
naturals-quotient times al ah bl bh i k m n some order up small h =
    subst (AreBetween (pos 0) (pos (times * 2 ^ 32))) (sym (on_ends-bounded quotient_of_ends i k (pos al) (pos ah) (pos bl) (pos bh) (m.lo_is, m.hi_is) (n.lo_is, n.hi_is)))
    (quotient-between times al ah bl bh some order up small h)

c_3-between : (band : Band) (e : Interval) → Near (2 ^ 33) (2 ^ 62) e → AreBetween (pos 0) (pos (2 ^ 52)) (enc (c_3 band (Known e)))
unfolding c_3
c_3-between band e near =
    let square = squared e near in
    let part = third (mul_of e e) square.low square.high square.are square.ordered square.small in
    let wave = waves band in
    let above = naturals-sum square.low square.high wave.low wave.high _ _ square.are wave.are (omega (arith, square.ordered, square.small, wave.ordered, wave.few)) (omega (arith, square.small, wave.few)) in
    let below = naturals-sum part.from part.to wave.low wave.high _ _ part.are wave.are (omega (arith, part.ordered, part.few, square.small, wave.ordered, wave.few)) (omega (arith, part.few, square.small, wave.few)) in
    naturals-quotient (2 ^ 20) (square.low + wave.low) (square.high + wave.high) (part.from + wave.low) (part.to + wave.high) _ _ above below
    (omega (arith, wave.some)) (omega (arith, part.ordered, wave.ordered)) (omega (arith, square.ordered, wave.ordered)) (omega (arith, square.small, wave.few))
    (omega (arith, square.close, part.some, wave.some, wave.few))

-- ---- D_z

pub c_2-between : (band : Band) → AreBetween (pos 0) (pos 2021161080472) (enc (c_2_by_wavelength band))
unfolding c_2_by_wavelength ratio_of unit
c_2-between Hz63 = record { lo = (omega (arith, ints), omega (arith, ints)); hi = (omega (arith, ints), omega (arith, ints)) }
c_2-between Hz125 = record { lo = (omega (arith, ints), omega (arith, ints)); hi = (omega (arith, ints), omega (arith, ints)) }
c_2-between Hz250 = record { lo = (omega (arith, ints), omega (arith, ints)); hi = (omega (arith, ints), omega (arith, ints)) }
c_2-between Hz500 = record { lo = (omega (arith, ints), omega (arith, ints)); hi = (omega (arith, ints), omega (arith, ints)) }
c_2-between Hz1000 = record { lo = (omega (arith, ints), omega (arith, ints)); hi = (omega (arith, ints), omega (arith, ints)) }
c_2-between Hz2000 = record { lo = (omega (arith, ints), omega (arith, ints)); hi = (omega (arith, ints), omega (arith, ints)) }
c_2-between Hz4000 = record { lo = (omega (arith, ints), omega (arith, ints)); hi = (omega (arith, ints), omega (arith, ints)) }
c_2-between Hz8000 = record { lo = (omega (arith, ints), omega (arith, ints)); hi = (omega (arith, ints), omega (arith, ints)) }

-- ten times the logarithm of 3 and a quantity, where it counts as 1 if it is less
ten_lg-between : (x : Interval) → AreBetween (neg_ℤ (pos (2 ^ 125))) (pos (2 ^ 125)) x → AreBetween (pos 0) (pos (2 ^ 41)) (enc (ten_lg (three_and (Known x))))
unfolding ten_lg unit ratio_of max_of mul_of sum_range logarithm_range decade_of greatest
ten_lg-between x h =
    between _ _ {t = ten_lg (three_and (Known x))}
    (product (constant (lit< tt)) (logarithm logarithm-ranged (greater (constant (lit< tt)) (sum (constant (lit< tt)) (part-between _ _ {t = Known x} h))))) refl

limited-end : (limit : ℤ) (end : Option ℤ) → pos 0 ≤ℤ limit → limit ≤ℤ most_top → IsBetween (pos 0) (pos (2 ^ 41)) end
    → IsBetween (pos 0) most_top (lesser_low (Some limit) end) × IsBetween (pos 0) most_top (lesser_high (Some limit) end)
limited-end limit None low high h = absurd h
limited-end limit (Some z) low high h =
    ((omega (arith, ints, clamps, low, h.0), omega (arith, ints, clamps, high)), (omega (arith, ints, clamps, low, h.0), omega (arith, ints, clamps, high)))

-- D_z at any quantity within these bounds
pub attenuated : (limit : ℕ) (x : Interval) → limit ≤ 25 → AreBetween (neg_ℤ (pos (2 ^ 125))) (pos (2 ^ 125)) x → AreBetween (pos 0) most_top (enc (attenuation limit (three_and (Known x))))
unfolding attenuation min_of
attenuated limit x few h =
    let found = ten_lg-between x h in
    let low : pos 0 ≤ℤ (pos limit *ℤ pos unit) = rw unit-is (omega (arith, ints)) in
    let high : (pos limit *ℤ pos unit) ≤ℤ most_top = rw unit-is (omega (arith, ints, few)) in
    rw (ratio_of-one (pos limit) (omega (arith, few)))
    (record { lo = (limited-end (pos limit *ℤ pos unit) (enc (ten_lg (three_and (Known x)))).lo low high found.lo).0; hi = (limited-end (pos limit *ℤ pos unit) (enc (ten_lg (three_and (Known x)))).hi low high found.hi).1 })

pub one-between : (band : Band) (z : Interval) → AreBetween (neg_ℤ (pos (2 ^ 60))) (pos (2 ^ 63)) z
    → AreBetween (pos 0) most_top (enc (attenuation single_limit (Known (enc (three_and (at_one_edge band (Known z)))))))
unfolding attenuation ten_lg at_one_edge unit mul_of
one-between band z h =
    attenuated single_limit (enc (at_one_edge band (Known z))) (omega arith)
    (between _ _ {t = at_one_edge band (Known z)} (product (part-between _ _ {t = c_2_by_wavelength band} (c_2-between band)) (part-between _ _ {t = Known z} h)) refl)

pub several-between : (band : Band) (e z : Interval) → Near (2 ^ 33) (2 ^ 62) e → AreBetween (neg_ℤ (pos (2 ^ 60))) (pos (2 ^ 63)) z
    → AreBetween (pos 0) most_top (enc (attenuation double_limit (Known (enc (three_and (Known (two_edges band (spacing_of e) z)))))))
unfolding attenuation ten_lg at_two_edges c_3 unit mul_of
several-between band e z near h =
    attenuated double_limit (enc (at_two_edges band (Known e) (Known z))) (omega arith)
    (between _ _ {t = at_two_edges band (Known e) (Known z)}
    (product
    (product (part-between _ _ {t = c_2_by_wavelength band} (c_2-between band)) (part-between _ _ {t = c_3 band (Known e)} (c_3-between band e near)))
    (part-between _ _ {t = Known z} h)) refl)
