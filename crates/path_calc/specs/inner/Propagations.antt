-- What the bands share of a path: how its quantities are bounded, and what a path by way of a wall has beside them.
use Rattle.std.specs.Prelude.{◌≡◌, ◌*◌, ◌^◌, pos, neg_ℤ, List, All, Option, None, Some, length, slice_index_or}
use Rattle.fix_interval.specs.Interval.{Interval}
use Rattle.fix_interval.specs.Bounds.{AreBetween}
use Rattle.fix_interval.specs.declared.truth.Truth.{Truth}
use Rattle.fix_interval.specs.declared.truth.Truth.TheVariants.{Unsure}
use Rattle.fix_interval.specs.Tree.{Known, enc}
use Rattle.scene_geom.specs.declared.band.Band.{Band}
use Rattle.scene_geom.specs.Bands.{place_of}
use Rattle.energy_sum.specs.Weather.{IsWeatherCorrection}
use Rattle.term_div_atm.specs.Terms.{divergence}
use Rattle.term_barrier.specs.Limits.{IsDistance, IsGroundEffect, IsScreening}
use Rattle.path_calc.specs.declared.direct.propagation.Propagation.{Propagation}
use Rattle.path_calc.specs.declared.reflected.Echo.{Echo}
use Rattle.path_calc.specs.declared.reflected.Echo.TheVariants.{Silent, Audible}
use Rattle.path_calc.specs.declared.reflected.Sound.{Sound}
use Rattle.path_calc.specs.declared.bundles.segments.Seg.{Seg}
use Rattle.path_calc.specs.inner.Losses.{AreLosses}
use Rattle.path_calc.specs.Segments.{FitsSegment}

-- D_Omega is from 0 dB to 10 dB
abbrev pub IsSolidAngle : Interval → Type 0
IsSolidAngle omega = AreBetween (pos 0) (pos (10 * 2 ^ 32)) omega

-- an attenuation by the ground by the alternative method is from 0 dB to 8 dB
abbrev pub IsSimpleGround : Interval → Type 0
IsSimpleGround attenuation = AreBetween (pos 0) (pos (8 * 2 ^ 32)) attenuation

-- an attenuation by the ground by the general method, or by the alternative one, where D_Omega is there
abbrev pub IsGroundBy : Option Interval → Interval → Type 0
IsGroundBy None attenuation = IsGroundEffect attenuation
IsGroundBy (Some omega) attenuation = IsSimpleGround attenuation

-- where D_Omega raises what is sent, the ground attenuates by the alternative method
abbrev pub IsRaised : Option Interval → List Interval → Type 0
IsRaised None grounds = Unit {0}
IsRaised (Some omega) grounds = IsSolidAngle omega × All IsSimpleGround grounds

-- the divergence at the distance, D_Omega where there is one, the attenuations by the ground, by screening and by
-- foliage in each band, and C_met
pub record IsPropagation (propagation : Propagation) : Type 0 where
  pub distance : IsDistance propagation.distance
  pub divergence : propagation.divergence ≡ enc (divergence (Known propagation.distance))
  pub grounds : All IsGroundEffect propagation.grounds
  pub bands : length propagation.grounds ≡ 8
  pub omega : IsRaised propagation.omega propagation.grounds
  pub screening : All IsScreening propagation.screening
  pub screened_bands : length propagation.screening ≡ 8
  pub foliage : AreLosses propagation.foliage
  pub correction : IsWeatherCorrection propagation.correction

-- a path by way of a wall (ISO 9613-2, 7.5): its legs, and what is heard by way of it
pub record Reflected : Type 0 where
  pub wall : Seg
  pub echo : Echo

-- the level of a reflection is from -10 dB to 0 dB
abbrev pub IsReflectionLevel : Interval → Type 0
IsReflectionLevel level = AreBetween (neg_ℤ (pos (10 * 2 ^ 32))) (pos 0) level

-- the sound by way of a wall
pub record IsReflectedSound (sound : Sound) : Type 0 where
  pub path : IsPropagation sound.path
  pub level : IsReflectionLevel sound.level
  pub bands : length sound.counts ≡ 8

-- that, where something is heard
abbrev pub IsEcho : Echo → Type 0
IsEcho Silent = Unit {0}
IsEcho (Audible sound) = IsReflectedSound sound

pub record IsReflected (reflected : Reflected) : Type 0 where
  pub wall : FitsSegment reflected.wall
  pub echo : IsEcho reflected.echo

-- whether the wall is large enough in a band
abbrev pub counts_at : Sound → Band → Truth
counts_at sound band = slice_index_or sound.counts (place_of band) Unsure
