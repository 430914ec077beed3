-- What foliage takes off the sounds of a path in each band.
use Rattle.std.specs.Prelude.{◌≡◌, ◌*◌, ◌^◌, pos, List, All, length, map, slice_index_or}
use Rattle.fix_interval.specs.Interval.{Interval}
use Rattle.fix_interval.specs.Bounds.{AreBetween}
use Rattle.fix_interval.specs.Tree.{Known, Const, enc}
use Rattle.scene_geom.specs.declared.band.Band.{Band}
use Rattle.scene_geom.specs.Bands.{place_of}
use Rattle.scene_parts.specs.Parts.{Foliage}
use Rattle.path_shape.specs.declared.path.Path.{Path}
use Rattle.term_foliage.specs.Foliage.{attenuations}

-- an attenuation by foliage from 0 dB to 25 dB
abbrev pub IsFoliageLoss : Interval → Type 0
IsFoliageLoss attenuation = AreBetween (pos 0) (pos (25 * 2 ^ 32)) attenuation

-- attenuations by foliage in the bands
pub record AreLosses (losses : List Interval) : Type 0 where
  pub each : All IsFoliageLoss losses
  pub bands : length losses ≡ 8

-- that in a band
abbrev pub loss_in : List Interval → Band → Interval
loss_in losses band = slice_index_or losses (place_of band) (enc (Const (pos 0) 1))

-- A_fol of a path in each band, where its length is known
abbrev pub losses_along : List Foliage → Path → Interval → List Interval
losses_along foliage path d = map enc (attenuations foliage path (Known d))
