use Rattle.std.proofs.Common.{ap, sym, ◌∙◌}
use Rattle.std.specs.Prelude.{Option}
use Rattle.scene_parts.specs.declared.parts.Part.{Part}
use Rattle.path_calc.specs.Bundles.{Bundle}
use Rattle.touch_test.specs.Touches.{bundled, old_part, edit_touches}
use Rattle.touch_test.proofs.Edits.{answers-old}
use Rattle.touch_test.proofs.touching.touches.Goals as goal

pub returns-clause-rule : goal.returns-clause-rule
returns-clause-rule c = λ book after s accepted is.
    c.edit_touches_path.ensures
    ∙ ap (λ (old : Option Part). edit_touches c.args.l.now.edit old (bundled c.args.receiver.now c.args.b.now))
    (sym (answers-old c.args.l.now.edit book after c.args.l.now.old accepted))
    ∙ ap (λ (b : Bundle). edit_touches c.args.l.now.edit (old_part c.args.l.now.edit book) (bundled c.args.receiver.now b)) is
