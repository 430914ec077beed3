use Rattle.enclose_log.proofs.LgRange.{logarithm-ranged}
use Rattle.enclose_log.proofs.laws.logarithm_keeps_its_range.Goals as goal

pub returns : goal.returns
returns c = logarithm-ranged
