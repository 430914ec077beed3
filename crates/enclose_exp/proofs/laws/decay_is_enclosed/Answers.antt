use Rattle.enclose_exp.proofs.DecayInterval.{exp_neg_of-holds}
use Rattle.enclose_exp.proofs.PowerNodes.{ExpNeg-lawful}
use Rattle.enclose_exp.proofs.laws.decay_is_enclosed.Goals as goal

pub returns-clause-ends : goal.returns-clause-ends
returns-clause-ends c = exp_neg_of-holds

pub returns-clause-lawful : goal.returns-clause-lawful
returns-clause-lawful c = ExpNeg-lawful
