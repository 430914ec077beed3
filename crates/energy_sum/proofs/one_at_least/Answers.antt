use Rattle.fix_interval.proofs.Spans.{at_least_one-low}
use Rattle.energy_sum.proofs.one_at_least.Goals as goal

pub returns-clause-low : goal.returns-clause-low
returns-clause-low c = rw (c.max.ensures, c.exact.ensures) (at_least_one-low c.args.energy)
