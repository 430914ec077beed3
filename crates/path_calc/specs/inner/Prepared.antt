-- What a prepared source emits in a band, and between which bounds.
use Rattle.std.specs.Prelude.{◌≡◌, pos, neg_ℤ, ◌*◌, ◌^◌, Bool, length, All, Option, None, Some, IfSome, is_some, slice_index_or}
use Rattle.fix_interval.specs.Interval.{Interval}
use Rattle.fix_interval.specs.Bounds.{AreBetween}
use Rattle.scene_geom.specs.declared.band.Band.{Band}
use Rattle.scene_geom.specs.Bands.{place_of}
use Rattle.path_calc.specs.Prepared.{PreparedSource}

-- L_W + D_c in a band, where there is power
abbrev pub emission_at : PreparedSource → Band → Option Interval
emission_at source band = slice_index_or source.emissions (place_of band) None

-- whether there is power in a band
abbrev pub has_power : PreparedSource → Band → Bool
has_power source band = is_some (emission_at source band)

-- L_W + D_c is from -50 dB to 180 dB
abbrev pub IsEmission : Interval → Type 0
IsEmission emission = AreBetween (neg_ℤ (pos (50 * 2 ^ 32))) (pos (180 * 2 ^ 32)) emission

-- what is sent along a path of what is emitted: more by D_Omega, which is from 0 dB to 10 dB, where there is one
abbrev pub IsSent : Option Interval → Interval → Type 0
IsSent None power = IsEmission power
IsSent (Some omega) power = AreBetween (neg_ℤ (pos (50 * 2 ^ 32))) (pos (190 * 2 ^ 32)) power

-- and that, or what a wall, of which the level of a reflection is from -10 dB to 0 dB, sends on of it
abbrev pub IsSentOn : Option Interval → Interval → Type 0
IsSentOn None power = AreBetween (neg_ℤ (pos (60 * 2 ^ 32))) (pos (180 * 2 ^ 32)) power
IsSentOn (Some omega) power = AreBetween (neg_ℤ (pos (60 * 2 ^ 32))) (pos (190 * 2 ^ 32)) power

pub record IsPrepared (source : PreparedSource) : Type 0 where
  pub bands : length source.emissions ≡ 8
  pub emissions : All (λ emission. IfSome emission IsEmission) source.emissions
