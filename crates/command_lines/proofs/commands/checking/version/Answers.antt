use Rattle.std.proofs.Common.{rules}
use Rattle.command_lines.specs.Checking.{version_of}
use Rattle.command_lines.proofs.commands.checking.version.Goals as goal

pub returns : goal.returns
unfolding version_of
returns c = search rules
