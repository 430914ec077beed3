-- By how much a path is screened over the top in each band.
use Rattle.std.specs.Prelude.{◌≡◌, pos, List, All, Option, None, Some, Box, length, map}
use Rattle.std.specs.declared.alloc.Global.{Global}
use Rattle.fix_interval.specs.Interval.{Interval}
use Rattle.fix_interval.specs.Tree.{Const, enc}
use Rattle.scene_geom.specs.Bands.{all_bands}
use Rattle.term_barrier.specs.Limits.{IsScreening}

-- A_bar in each band of a path that nothing crosses: 0 dB
abbrev pub no_attenuations : List Interval
no_attenuations = map (λ band. enc (Const (pos 0) 1)) all_bands

-- A_bar in each band: what is kept of it
abbrev pub attenuations_in : Option (Box (List Interval) Global) → List Interval
attenuations_in None = no_attenuations
attenuations_in (Some bands) = bands.value

-- attenuations by screening in the bands
pub record AreBarrierAttenuations (attenuations : List Interval) : Type 0 where
  pub each : All IsScreening attenuations
  pub bands : length attenuations ≡ 8
