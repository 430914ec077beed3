-- Between which bounds the ends of a quantity lie.
use Rattle.std.specs.Prelude.{◌≤ℤ◌, ℤ, Option, IsSomeAnd}
use Rattle.fix_interval.specs.Interval.{Interval}

-- the end is bounded and lies from low to high, in units of 2^-32
abbrev pub IsBetween : ℤ → ℤ → Option ℤ → Type 0
IsBetween low high end = IsSomeAnd end (λ z. (low ≤ℤ z) × (z ≤ℤ high))

-- both ends do
pub record AreBetween (low high : ℤ) (i : Interval) : Type 0 where
  pub lo : IsBetween low high i.lo
  pub hi : IsBetween low high i.hi
