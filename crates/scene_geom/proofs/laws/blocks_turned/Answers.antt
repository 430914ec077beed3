use Rattle.scene_geom.proofs.Blocking.{blocks_turned}
use Rattle.scene_geom.proofs.laws.blocks_turned.Goals as goal

pub returns : goal.returns
returns c = blocks_turned
