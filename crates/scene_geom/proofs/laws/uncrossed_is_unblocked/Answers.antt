use Rattle.scene_geom.proofs.Blocking.{uncrossed_is_unblocked}
use Rattle.scene_geom.proofs.laws.uncrossed_is_unblocked.Goals as goal

pub returns : goal.returns
returns c = uncrossed_is_unblocked
