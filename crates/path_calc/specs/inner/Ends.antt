-- What is known of all that the paths between two ends share.
use Rattle.std.specs.Prelude.{◌≡◌}
use Rattle.scene_parts.specs.Parts.{IsHeight, Source, Receiver}
use Rattle.scene_parts.specs.declared.screening.ends.Ends.{Ends}
use Rattle.path_shape.specs.Shape.{direct_path}
use Rattle.path_shape.specs.declared.path.Path.{Path}
use Rattle.sight_cut.specs.Cuts.{crossings_of}
use Rattle.path_calc.specs.declared.direct.propagation.Between.{Between}
use Rattle.path_calc.specs.declared.lateral.Sight.{Sight}
use Rattle.path_calc.specs.Prepared.{prepared_of}
use Rattle.path_calc.specs.Surroundings.{ends_of}
use Rattle.path_calc.specs.inner.Ranges.{IsOnMap}

-- what is prepared of a source and a receiver is prepared of these ends, whose heights are in range
pub record FitsEnds (between : Between) : Type 0 where
  pub source : between.from.now.h ≡ between.ends.hs
  pub receiver : between.to.now ≡ between.ends.hr
  pub source_height : IsHeight between.ends.hs
  pub receiver_height : IsHeight between.ends.hr

-- they are the ends of the paths from this source to this receiver
pub record IsBetween (between : Between) (s : Source) (r : Receiver) : Type 0 where
  pub source : between.from.now ≡ prepared_of s
  pub ends : between.ends ≡ ends_of s r

-- the direct path between two ends
abbrev pub direct_path_of : Ends → Path
direct_path_of ends = direct_path ends.s ends.hs ends.r ends.hr

-- a line of sight has its own crossings, and its heights and its length are in range
pub record FitsSight (sight : Sight) : Type 0 where
  pub source_height : IsHeight sight.ends.hs
  pub receiver_height : IsHeight sight.ends.hr
  pub distance : IsOnMap sight.d
  pub crossings : sight.crossings.now ≡ crossings_of sight.ends sight.scene.now.obstacles
