use Rattle.std.proofs.Common.{◌∙◌}
use Rattle.touch_test.proofs.Edits.{row-touched}
use Rattle.touch_test.proofs.touching.touches_row.Goals as goal

pub returns-clause-rule : goal.returns-clause-rule
returns-clause-rule c = λ book after accepted globals bundles.
    c.edit_touches_row.ensures
    ∙ row-touched c.args.l.now.edit book after c.args.l.now.old c.args.globals.now c.args.receiver.now c.args.bundles.now accepted globals bundles
