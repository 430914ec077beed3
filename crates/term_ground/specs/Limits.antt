-- Within what limits the attenuation by the ground lies.
use Rattle.std.specs.Prelude.{ℤ, pos, neg_ℤ, ◌+◌, ◌<◌, ◌≤◌, ◌^◌, List}
use Rattle.std.specs.List.{All}
use Rattle.fix_interval.specs.Interval.{Interval}
use Rattle.fix_interval.specs.Bounds.{AreBetween}
use Rattle.path_shape.specs.declared.path.Path.{Path}

-- Source and receiver are at most 100 m above ground, and not both on it: a path from the ground to the ground has a
-- middle region however short it is, so that the part of the path that it takes isn't bounded
pub record HasHeights (path : Path) : Type 0 where
  pub source : path.hs ≤ 100000
  pub receiver : path.hr ≤ 100000
  pub above_ground : 0 < path.hs + path.hr

-- from -16 dB to 2^26 dB
abbrev pub least_ground : ℤ
least_ground = neg_ℤ (pos (2 ^ 36))

abbrev pub most_ground : ℤ
most_ground = pos (2 ^ 58)

abbrev pub AreLimited : List Interval → Type 0
AreLimited attenuations = All (AreBetween least_ground most_ground) attenuations
