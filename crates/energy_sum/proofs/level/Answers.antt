use Rattle.energy_sum.proofs.Ends.{level-between}
use Rattle.energy_sum.proofs.level.Goals as goal

pub returns-clause-bounds : goal.returns-clause-bounds
returns-clause-bounds c =
    rw (c.mul.ensures, c.exact.ensures, c.lg.ensures.value, c.one_at_least.ensures.value) (level-between c.interval.result c.interval.ensures.bounds)
