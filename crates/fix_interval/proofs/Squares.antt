-- The square of a quantity without 0 within is from the least to the greatest absolute value's, rounded outward.
use Rattle.std.proofs.Common.{◌≡◌, ℕ, zero, suc, ◌+◌, ◌-◌, ◌*◌, ◌/◌, ◌<◌, ◌≤◌, ◌^◌, ℤ, pos, neg_ℤ, ◌*ℤ◌, to_z, arith, sym, ◌∙◌, false, min}
use Rattle.std.specs.Prelude.{Some}
use Rattle.std.specs.Int.{div_ceil, w128}
use Rattle.std.proofs.lemmas.Int.{ints, clamps, to_z_pos}
use Rattle.std.proofs.lemmas.Nat.{mul-le}
use Rattle.fix_interval.specs.Interval.{Interval, IsInterval}
use Rattle.fix_interval.specs.Units.{unit, unit-is}
use Rattle.fix_interval.specs.Values.{least_of, greatest_of, mul_of, add_of, root_of, is_below_zero, end_of, rounded_outward}
use Rattle.fix_interval.specs.Round.{floor_root, ceil_root}
use Rattle.fix_interval.proofs.Multiplying.{end_of-small}
use Rattle.fix_interval.proofs.Rounding.{ceil_of-pos}
use Rattle.fix_interval.proofs.Spans.{unit-pos}
use Rattle.fix_interval.proofs.ShortSums.{sum-short}
use Rattle.fix_interval.proofs.Rooting.{root_of-roots, high_root_is, IsInterval-root_of, floor_root-small}

abbrev pub from_zero : ℕ → ℕ → Interval
from_zero l h = record { lo = Some (pos l); hi = Some (pos h) }

abbrev pub to_zero : ℕ → ℕ → Interval
to_zero l h = record { lo = Some (neg_ℤ (pos h)); hi = Some (neg_ℤ (pos l)) }

abbrev squared : ℕ → ℕ → Interval
squared l h = from_zero (l * l / unit) (div_ceil (h * h) unit)

least-of-squares : (p q s : ℕ) → p ≤ q → q ≤ s → least_of (pos p) (pos q) (pos q) (pos s) ≡ pos p
least-of-squares p q s low high = omega (arith, ints, clamps)

greatest-of-squares : (p q s : ℕ) → p ≤ q → q ≤ s → greatest_of (pos p) (pos q) (pos q) (pos s) ≡ pos s
greatest-of-squares p q s low high = omega (arith, ints, clamps)

least-of-turned : (p q s : ℕ) → p ≤ q → q ≤ s → least_of (pos s) (pos q) (pos q) (pos p) ≡ pos p
least-of-turned p q s low high = omega (arith, ints, clamps)

greatest-of-turned : (p q s : ℕ) → p ≤ q → q ≤ s → greatest_of (pos s) (pos q) (pos q) (pos p) ≡ pos s
greatest-of-turned p q s low high = omega (arith, ints, clamps)

times-neg : (a b : ℕ) → neg_ℤ (pos a) *ℤ neg_ℤ (pos b) ≡ pos (a * b)
times-neg zero zero = omega (arith, ints)
times-neg zero (suc b) = omega (arith, ints)
times-neg (suc a) zero = omega (arith, ints)
times-neg (suc a) (suc b) = omega (arith, ints)

swapped : (a b : ℕ) → b * a ≡ a * b
swapped a b = omega arith

pub square-small : (h : ℕ) → h < 2 ^ 47 → h * h < 2 ^ 94
square-small h short = omega (arith, mul-le h h (2 ^ 47 - 1) (2 ^ 47 - 1) (omega arith) (omega arith))

module _ (l h : ℕ) (ordered : l ≤ h) (short : h < 2 ^ 47) where
  low-middle : l * l ≤ l * h
  low-middle = mul-le l l l h (omega arith) ordered

  middle-high : l * h ≤ h * h
  middle-high = mul-le l h h h ordered (omega arith)

  ends : (least greatest : ℤ) → least ≡ pos (l * l) → greatest ≡ pos (h * h) → rounded_outward (end_of least) (end_of greatest) ≡ squared l h
  ends least greatest low high =
      rw (
        low,
        high,
        end_of-small (pos (l * l)) (omega (arith, low-middle, middle-high, square-small h short)),
        end_of-small (pos (h * h)) (omega (arith, square-small h short)),
        ceil_of-pos (pos (h * h)) unit unit-pos (omega (arith, ints)),
      )

  pub square-from_zero : mul_of (from_zero l h) (from_zero l h) ≡ squared l h
  unfolding mul_of
  square-from_zero =
      rw (swapped l h)
      (ends (least_of (pos (l * l)) (pos (l * h)) (pos (l * h)) (pos (h * h))) (greatest_of (pos (l * l)) (pos (l * h)) (pos (l * h)) (pos (h * h)))
      (least-of-squares (l * l) (l * h) (h * h) low-middle middle-high)
      (greatest-of-squares (l * l) (l * h) (h * h) low-middle middle-high))

  pub square-to_zero : mul_of (to_zero l h) (to_zero l h) ≡ squared l h
  unfolding mul_of
  square-to_zero =
      rw (times-neg h h, times-neg h l, times-neg l h, times-neg l l, swapped l h)
      (ends (least_of (pos (h * h)) (pos (l * h)) (pos (l * h)) (pos (l * l))) (greatest_of (pos (h * h)) (pos (l * h)) (pos (l * h)) (pos (l * l)))
      (least-of-turned (l * l) (l * h) (h * h) low-middle middle-high)
      (greatest-of-turned (l * l) (l * h) (h * h) low-middle middle-high))

-- ---- the sum, and its root

pub sum-of-squares : (al ah bl bh : ℕ) → al ≤ ah → bl ≤ bh → ah < 2 ^ 62 → bh < 2 ^ 62 → add_of (from_zero al ah) (from_zero bl bh) ≡ from_zero (al + bl) (ah + bh)
sum-of-squares al ah bl bh ordered ordered' short short' =
    sum-short (pos al) (pos ah) (pos bl) (pos bh) (omega arith) short (omega arith) short' (omega (arith, ints)) (omega (arith, ints))

module _ (l h : ℕ) (ordered : l ≤ h) (small : h < 2 ^ 63) where
  not-below : is_below_zero (Some (pos h)) ≡ false
  not-below = grind (arith, ints)

  whole-radicand : min l (2 ^ 95 - 1) ≡ l
  whole-radicand = omega arith

  root-value : root_of (from_zero l h) ≡ from_zero (floor_root (l * 2 ^ 32)) (ceil_root (h * 2 ^ 32))
  root-value = rw (root_of-roots (from_zero l h) not-below, whole-radicand, high_root_is h (omega arith), unit-is)

  found-ends : (low high : ℕ) → low ≡ floor_root (l * 2 ^ 32) → high ≡ ceil_root (h * 2 ^ 32) → high ≤ 2 ^ 64
      → record { lo = Some (to_z w128 low); hi = Some (to_z w128 high) } ≡ from_zero (floor_root (l * 2 ^ 32)) (ceil_root (h * 2 ^ 32))
  found-ends low high low_is high_is limited =
      let short : low < 2 ^ 64 = rw low_is (floor_root-small (l * 2 ^ 32) (omega arith)) in
      rw (to_z_pos w128 low (omega arith), to_z_pos w128 high (omega arith), low_is, high_is)

  pub root-found : (low high : ℕ) → low ≡ floor_root (l * 2 ^ 32) → high ≡ ceil_root (h * 2 ^ 32) → high ≤ 2 ^ 64
      → record { lo = Some (to_z w128 low); hi = Some (to_z w128 high) } ≡ root_of (from_zero l h)
  root-found low high low_is high_is limited = found-ends low high low_is high_is limited ∙ sym root-value

  pub root-interval : IsInterval (root_of (from_zero l h))
  root-interval =
      IsInterval-root_of (from_zero l h) (record { low_end = omega arith; high_end = omega arith; ordered = omega (arith, ints) })
