use Rattle.scene_undo.proofs.Undoing.{undo}
use Rattle.scene_undo.proofs.Trails.{inverse-edits}
use Rattle.scene_undo.proofs.laws.inverses_undo.Goals as goal

pub returns-clause-undone : goal.returns-clause-undone
returns-clause-undone c = undo

pub returns-clause-edits : goal.returns-clause-edits
returns-clause-edits c = inverse-edits
