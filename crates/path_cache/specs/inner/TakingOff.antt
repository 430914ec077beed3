-- What can be added to sums, and taken off them.
use Rattle.std.specs.Prelude.{ℕ, ◌+◌, ◌<◌, ◌≤◌, ◌^◌, pos, ◌≤ℤ◌, List, ◌++◌, drop, IsSomeAnd}
use Rattle.fix_interval.specs.Interval.{Interval}
use Rattle.energy_sum.specs.Sums.{units_of}
use Rattle.path_calc.specs.Bundles.{Bundle, energy_limit}
use Rattle.path_cache.specs.declared.sums.RowSums.{RowSums}
use Rattle.path_cache.specs.Sums.{Fits, energy_at, sum_at}

-- any energy can be added to a sum
abbrev pub HasRoom : Interval → Type 0
HasRoom sum = units_of sum.hi + energy_limit < 2 ^ 126

-- any bundle can be added to sums
pub record HaveRoom (sums : RowSums) : Type 0 where
  pub total : HasRoom sums.total
  pub bands : (place : ℕ) → place < 8 → HasRoom (sum_at place sums)

-- an energy can be taken off a sum
pub record IsPartOf (sum energy : Interval) : Type 0 where
  pub low : IsSomeAnd energy.lo (λ z. pos 0 ≤ℤ z)
  pub high : IsSomeAnd energy.hi (λ z. pos 0 ≤ℤ z)
  pub part : units_of energy.lo ≤ units_of sum.lo
  pub ordered : units_of sum.lo + units_of energy.hi ≤ units_of sum.hi + units_of energy.lo

-- a bundle can be taken off sums
pub record ArePartOf (sums : RowSums) (bundle : Bundle) : Type 0 where
  pub total : IsPartOf sums.total bundle.long
  pub bands : (place : ℕ) → place < 8 → IsPartOf (sum_at place sums) (energy_at place bundle)

-- sums fit some bundles with the kept ones from a place on
pub record FitFrom (place : ℕ) (kept : List Bundle) (sums : RowSums) : Type 0 where
  pub front : List Bundle
  pub fit : Fits sums (front ++ drop place kept)
