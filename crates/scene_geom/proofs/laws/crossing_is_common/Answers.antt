use Rattle.scene_geom.proofs.CommonPoint.{crossing_is_common}
use Rattle.scene_geom.proofs.laws.crossing_is_common.Goals as goal

pub returns : goal.returns
returns c = crossing_is_common
