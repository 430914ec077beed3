-- The sums of the energies of several bundles, as a row keeps them.
use Rattle.std.specs.Prelude.{◌≡◌, ℕ, ◌≤◌, ◌<◌, pos, List, sum_by, All, Some, slice_index_or}
use Rattle.fix_interval.specs.Interval.{Interval}
use Rattle.fix_interval.specs.Tree.{Known, enc}
use Rattle.energy_sum.specs.Energies.{level_form}
use Rattle.energy_sum.specs.Sums.{units_of}
use Rattle.scene_geom.specs.declared.band.Band.{Band}
use Rattle.scene_geom.specs.Bands.{place_of}
use Rattle.path_calc.specs.Bundles.{Bundle, energy_limit}
use Rattle.path_cache.specs.declared.sums.RowSums.{RowSums}

-- the energy of a bundle in the band at a place
abbrev pub energy_at : ℕ → Bundle → Interval
energy_at place bundle = slice_index_or bundle.energy place bundle.long

-- the sum in the band at a place
abbrev pub sum_at : ℕ → RowSums → Interval
sum_at place sums = slice_index_or sums.bands place sums.total

-- the level of a sum: ten times its logarithm, 0 dB where it is below 1
abbrev pub level_of_sum : Interval → Interval
level_of_sum sum = enc (level_form (Known sum))

-- the level of the sum in a band
abbrev pub band_level_of_sums : RowSums → Band → Interval
band_level_of_sums sums band = level_of_sum (sum_at (place_of band) sums)

-- The sum of an energy over some bundles: its low end is the sum of their low ends, its high end that of their high
-- ends, in units of 2^-32. So the order of the bundles doesn't count
pub record IsSumOver (energy : Bundle → Interval) (bundles : List Bundle) (sum : Interval) : Type 0 where
  pub low : sum.lo ≡ Some (pos (sum_by (λ bundle. units_of (energy bundle).lo) bundles))
  pub high : sum.hi ≡ Some (pos (sum_by (λ bundle. units_of (energy bundle).hi) bundles))

-- an energy that can be added and taken off again: both ends are known, not below 0, in their order and bounded
pub record CanBeSummed (energy : Interval) : Type 0 where
  pub low : energy.lo ≡ Some (pos (units_of energy.lo))
  pub high : energy.hi ≡ Some (pos (units_of energy.hi))
  pub ordered : units_of energy.lo ≤ units_of energy.hi
  pub bounded : units_of energy.hi < energy_limit

pub record HasEnergies (bundle : Bundle) : Type 0 where
  pub long : CanBeSummed bundle.long
  pub bands : (place : ℕ) → place < 8 → CanBeSummed (energy_at place bundle)

-- sums fit some bundles: they are those of their A-weighted long-term energies, and of their energies in each band;
-- each energy can be added and taken off
pub record Fits (sums : RowSums) (bundles : List Bundle) : Type 0 where
  pub each : All HasEnergies bundles
  pub total : IsSumOver (λ bundle. bundle.long) bundles sums.total
  pub bands : (place : ℕ) → place < 8 → IsSumOver (energy_at place) bundles (sum_at place sums)
