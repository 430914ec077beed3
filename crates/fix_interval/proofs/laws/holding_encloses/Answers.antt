use Rattle.fix_interval.proofs.Steps.{Encloses-hull}
use Rattle.fix_interval.proofs.Widening.{Encloses-wider}
use Rattle.fix_interval.proofs.laws.holding_encloses.Goals as goal

pub returns : goal.returns
returns c = record { wider = Encloses-wider; hull = Encloses-hull }
