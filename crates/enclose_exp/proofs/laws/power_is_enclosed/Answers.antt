use Rattle.enclose_exp.proofs.TenInterval.{ten_of-holds}
use Rattle.enclose_exp.proofs.PowerNodes.{Ten-lawful}
use Rattle.enclose_exp.proofs.laws.power_is_enclosed.Goals as goal

pub returns-clause-ends : goal.returns-clause-ends
returns-clause-ends c = ten_of-holds

pub returns-clause-lawful : goal.returns-clause-lawful
returns-clause-lawful c = Ten-lawful
