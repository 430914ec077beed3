use Rattle.scene_geom.proofs.Reversing.{area_reversed}
use Rattle.scene_geom.proofs.laws.area_reversed.Goals as goal

pub returns : goal.returns
returns c = area_reversed
