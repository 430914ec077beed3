use Rattle.std.proofs.Common.{arith}
use Rattle.std.proofs.lemmas.Grind.{common_steps}
use Rattle.command_lines.specs.Checking.{level_of}
use Rattle.command_lines.proofs.commands.checking.level.Goals as goal

pub returns-in_err-within-clause-value : goal.returns-in_err-within-clause-value
unfolding level_of
returns-in_err-within-clause-value c = grind (arith, common_steps)

pub returns-clause-value : goal.returns-clause-value
unfolding level_of
returns-clause-value c = grind (arith, common_steps)
