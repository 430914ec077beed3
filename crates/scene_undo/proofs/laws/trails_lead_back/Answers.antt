use Rattle.scene_undo.proofs.Trails.{trail}
use Rattle.scene_undo.proofs.laws.trails_lead_back.Goals as goal

pub returns : goal.returns
returns c = trail
