use Rattle.scene_undo.proofs.Agreeing.{edits-agree}
use Rattle.scene_undo.proofs.laws.edits_agree.Goals as goal

pub returns : goal.returns
returns c = edits-agree
