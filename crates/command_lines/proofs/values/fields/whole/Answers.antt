use Rattle.std.proofs.Common.{rules}
use Rattle.command_lines.proofs.values.fields.whole.Goals as goal

pub returns : goal.returns
returns c = search rules
