-- What was passed is a line of the bytes ahead.
use Rattle.std.proofs.Common.{arith}
use Rattle.std.proofs.lemmas.Grind.{common_steps}
use Rattle.map_io.proofs.Taking.{takes_line}
use Rattle.map_io.proofs.reader.LineReader.next.Goals as goal

pub returns-in-Going-clause-lines : goal.returns-in-Going-clause-lines
returns-in-Going-clause-lines g c = λ going. takes_line _ _ c.next_line.new.self _ _ c.next_line.ensures.gives

pub returns-in-AfterFault-clause-stopped : goal.returns-in-AfterFault-clause-stopped
returns-in-AfterFault-clause-stopped g c = grind (arith, common_steps)
