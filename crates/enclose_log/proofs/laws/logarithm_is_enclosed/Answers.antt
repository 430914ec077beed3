use Rattle.enclose_log.proofs.LgInterval.{lg_of-holds}
use Rattle.enclose_log.proofs.LogarithmNode.{Lg-lawful}
use Rattle.enclose_log.proofs.laws.logarithm_is_enclosed.Goals as goal

pub returns-clause-ends : goal.returns-clause-ends
returns-clause-ends c = lg_of-holds

pub returns-clause-lawful : goal.returns-clause-lawful
returns-clause-lawful c = Lg-lawful
