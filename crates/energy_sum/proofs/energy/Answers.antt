use Rattle.energy_sum.proofs.Ends.{energy-between}
use Rattle.energy_sum.proofs.energy.Goals as goal

pub returns-clause-bounds : goal.returns-clause-bounds
returns-clause-bounds c h = rw (c.ten.ensures.value, c.over.ensures) (energy-between c.args.level h)
