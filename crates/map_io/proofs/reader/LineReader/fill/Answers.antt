use Rattle.std.proofs.Common.{arith}
use Rattle.std.proofs.lemmas.Grind.{common_steps}
use Rattle.map_io.proofs.reader.LineReader.fill.Goals as goal

pub returns-in-Ok-2-clause-fills : goal.returns-in-Ok-2-clause-fills
returns-in-Ok-2-clause-fills g c = grind (arith, common_steps)

pub returns-in-Ok-eq0-clause-fault : goal.returns-in-Ok-eq0-clause-fault
returns-in-Ok-eq0-clause-fault g c = grind (arith, common_steps)

pub returns-in-Ok-clause-fills : goal.returns-in-Ok-clause-fills
returns-in-Ok-clause-fills g c = grind (arith, common_steps)
