use Rattle.std.proofs.Common.{arith}
use Rattle.std.proofs.lemmas.Grind.{common_steps}
use Rattle.edge_chain.proofs.hand.Hand.off_line.Goals as goal

pub returns-in-Left-clause-value : goal.returns-in-Left-clause-value
returns-in-Left-clause-value c = grind (arith, common_steps)

pub returns-in-Right-clause-value : goal.returns-in-Right-clause-value
returns-in-Right-clause-value c = grind (arith, common_steps)

pub returns-in-Left-clause-within : goal.returns-in-Left-clause-within
returns-in-Left-clause-within c = grind (arith, common_steps)

pub returns-in-Right-clause-within : goal.returns-in-Right-clause-within
returns-in-Right-clause-within c = grind (arith, common_steps)
