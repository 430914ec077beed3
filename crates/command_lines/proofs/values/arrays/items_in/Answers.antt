use Rattle.std.proofs.Common.{rules}
use Rattle.command_lines.proofs.values.arrays.items_in.Goals as goal

pub returns : goal.returns
returns c = search rules
