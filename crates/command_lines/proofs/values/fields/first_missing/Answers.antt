use Rattle.std.proofs.Common.{◌∙◌, ap, arith}
use Rattle.std.proofs.Math.ListN.{drop_of_length-le}
use Rattle.serde_json.specs.View.{view}
use Rattle.command_lines.specs.inner.Needed.{first_missing}
use Rattle.command_lines.proofs.NeededLemmas.{all-there}
use Rattle.command_lines.proofs.values.fields.first_missing.Goals as goal

pub returns-clause-there : goal.returns-clause-there
returns-clause-there c =
    let line = view c.args.line.now in
    let fields = c.args.fields.now in
    all-there line fields (c.loop-field.invariant ∙ ap (first_missing line) (drop_of_length-le fields (omega arith)))
