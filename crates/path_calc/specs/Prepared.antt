-- What all paths of a source share.
use Rattle.std.specs.Prelude.{ℕ, List, map, Option}
use Rattle.std.specs.Option.{option_map}
use Rattle.fix_interval.specs.Interval.{Interval}
use Rattle.fix_interval.specs.Tree.{enc}
use Rattle.scene_parts.specs.Parts.{Source}
use Rattle.scene_geom.specs.Bands.{all_bands}
use Rattle.path_calc.specs.Contributions.{emission_in}

-- the height of a source in mm, and what it emits in each band, in dB
pub record PreparedSource : Type 0 where
  pub h : ℕ
  pub emissions : List (Option Interval)

abbrev pub prepared_of : Source → PreparedSource
prepared_of s = record { h = s.h; emissions = map (λ band. option_map enc (emission_in band s)) all_bands }
