use Rattle.enclose_log.proofs.Lengths.{length-is_narrow}
use Rattle.enclose_log.proofs.laws.length_has_a_narrow_logarithm.Goals as goal

pub returns : goal.returns
returns c = length-is_narrow
