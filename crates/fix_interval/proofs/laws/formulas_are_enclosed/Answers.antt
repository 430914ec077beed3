use Rattle.fix_interval.proofs.Induction.{IsInterval-enc, Encloses-enc}
use Rattle.fix_interval.proofs.laws.formulas_are_enclosed.Goals as goal

pub returns : goal.returns
returns c = record { intervals = IsInterval-enc; enclosed = Encloses-enc }
