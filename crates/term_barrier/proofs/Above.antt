-- The greater of a number and a quantity isn't below the number.
use Rattle.std.proofs.Common.{ℕ, ◌*◌, ◌<◌, ◌^◌, ℤ, pos, ◌*ℤ◌, ◌≤ℤ◌, arith, ap}
use Rattle.std.specs.Prelude.{IsSomeAnd, Option, Some, None}
use Rattle.std.proofs.lemmas.Int.{ints, clamps}
use Rattle.fix_interval.specs.Units.{unit, unit-is}
use Rattle.fix_interval.specs.Interval.{Interval}
use Rattle.fix_interval.specs.Values.{ratio_of, max_of, greater_low}
use Rattle.fix_interval.proofs.Ratios.{ratio_of-one}

greater-low : (least : ℤ) (x : ℤ) (y : Option ℤ) → least ≤ℤ x → IsSomeAnd (greater_low (Some x) y) (λ z. least ≤ℤ z)
greater-low least x None h = h
greater-low least x (Some y) h = omega (arith, ints, clamps)

pub max-low : (n : ℕ) (i : Interval) → n < 2 ^ 60 → IsSomeAnd (max_of (ratio_of (pos n) 1) i).lo (λ z. pos (n * 2 ^ 32) ≤ℤ z)
unfolding max_of
max-low n i few =
    let at : pos (n * 2 ^ 32) ≤ℤ (pos n *ℤ pos unit) = rw unit-is (omega (arith, ints)) in
    rw (ap (λ (k : Interval). k.lo) (ratio_of-one (pos n) (omega arith))) (greater-low (pos (n * 2 ^ 32)) (pos n *ℤ pos unit) i.lo at)

-- 1 or more
pub max-one : (i : Interval) → IsSomeAnd (max_of (ratio_of (pos 1) 1) i).lo (λ z. pos 1 ≤ℤ z)
unfolding max_of
max-one i =
    let at : pos 1 ≤ℤ (pos 1 *ℤ pos unit) = rw unit-is (omega (arith, ints)) in
    rw (ap (λ (k : Interval). k.lo) (ratio_of-one (pos 1) (omega arith))) (greater-low (pos 1) (pos 1 *ℤ pos unit) i.lo at)
