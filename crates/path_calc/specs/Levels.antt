-- The levels that a receiver has from the bundles of several sources (ISO 9613-2, equations 5 and 6).
use Rattle.std.specs.Prelude.{◌≡◌, ◌^◌, ℤ, pos, ◌≤ℤ◌, ◌<ℤ◌, List, length, map, All, Option, IsSomeAnd, slice_index_or}
use Rattle.fix_interval.specs.Interval.{Interval}
use Rattle.fix_interval.specs.Tree.{Known, enc}
use Rattle.energy_sum.specs.Energies.{level_form}
use Rattle.scene_geom.specs.declared.band.Band.{Band}
use Rattle.scene_geom.specs.Bands.{all_bands, place_of}
use Rattle.path_calc.specs.Energies.{sum_form}
use Rattle.path_calc.specs.Bundles.{Bundle, energy_in}

-- the A-weighted long-term level, and the level in each band, which isn't weighted
pub record Levels : Type 0 where
  pub total : Interval
  pub bands : List Interval

-- the level in a band
abbrev pub level_in : Band → Levels → Interval
level_in band levels = slice_index_or levels.bands (place_of band) levels.total

-- the level of a sum of energies: ten times its logarithm, 0 dB where it is below 1
unfoldable pub level_of : List Interval → Interval
level_of energies = enc (level_form (sum_form (map Known energies)))

-- the A-weighted long-term level of some bundles, and their level in a band
abbrev pub total_of : List Bundle → Interval
total_of bundles = level_of (map (λ bundle. bundle.long) bundles)

abbrev pub band_level_of : List Bundle → Band → Interval
band_level_of bundles band = level_of (map (energy_in band) bundles)

-- the levels of some bundles
abbrev pub levels_of : List Bundle → Levels
levels_of bundles = record { total = total_of bundles; bands = map (band_level_of bundles) all_bands }

-- an end of a level: from 0 dB to below 2^41 units of 2^-32 dB
abbrev pub IsLevelEnd : Option ℤ → Type 0
IsLevelEnd end = IsSomeAnd end (λ z. (pos 0 ≤ℤ z) × (z <ℤ pos (2 ^ 41)))

pub record IsLevel (level : Interval) : Type 0 where
  pub low : IsLevelEnd level.lo
  pub high : IsLevelEnd level.hi

-- what all levels keep
pub record AreLevels (levels : Levels) : Type 0 where
  pub total : IsLevel levels.total
  pub eight : length levels.bands ≡ 8
  pub bands : All IsLevel levels.bands
