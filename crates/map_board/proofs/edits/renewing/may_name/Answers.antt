use Rattle.std.proofs.Common.{arith}
use Rattle.std.proofs.lemmas.Grind.{common_steps}
use Rattle.map_board.proofs.edits.renewing.may_name.Goals as goal

pub returns-in-Grid : goal.returns-in-Grid
returns-in-Grid c = grind (arith, common_steps)
