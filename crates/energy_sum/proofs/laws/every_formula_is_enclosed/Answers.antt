use Rattle.fix_interval.proofs.Induction.{IsInterval-enc, Encloses-enc}
use Rattle.enclose_log.proofs.LogarithmNode.{Lg-lawful}
use Rattle.enclose_exp.proofs.PowerNodes.{Ten-lawful, ExpNeg-lawful}
use Rattle.energy_sum.proofs.laws.every_formula_is_enclosed.Goals as goal

pub returns : goal.returns
returns c = record {
  interval = IsInterval-enc Lg-lawful Ten-lawful ExpNeg-lawful;
  enclosed = Encloses-enc Lg-lawful Ten-lawful ExpNeg-lawful;
}
