use Rattle.std.proofs.Common.{◌≡◌, drop}
use Rattle.serde_json.specs.View.{view}
use Rattle.command_lines.specs.inner.Needed.{first_missing}
use Rattle.command_lines.proofs.values.fields.first_missing.Given as goal

abbrev pub invariant-loop-field : goal.invariant-loop-field
invariant-loop-field l = first_missing (view l.line) l.fields ≡ first_missing (view l.line) (drop l.field-index l.fields)
