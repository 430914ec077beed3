use Rattle.std.proofs.Common.{◌∙◌, sym, subst}
use Rattle.scene_undo.specs.Laws.{IsUndone}
use Rattle.scene_undo.proofs.Undoing.{undo}
use Rattle.scene_undo.proofs.inverting.inverse.Goals as goal

pub returns-clause-undone : goal.returns-clause-undone
returns-clause-undone c =
    subst (IsUndone c.args.edit.now c.args.before.now) (sym (c.from_vec.ensures ∙ c.in_ok-edits.ensures))
    (undo c.args.edit.now c.args.before.now)
