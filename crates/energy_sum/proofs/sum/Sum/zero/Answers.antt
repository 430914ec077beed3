use Rattle.energy_sum.proofs.Adding.{zero-is}
use Rattle.energy_sum.proofs.sum.Sum.zero.Goals as goal

pub returns : goal.returns
returns c = zero-is
