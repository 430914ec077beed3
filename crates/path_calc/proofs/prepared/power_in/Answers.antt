use Rattle.path_calc.proofs.Bounds.{power-in-range}
use Rattle.path_calc.proofs.prepared.power_in.Goals as goal

pub returns-clause-power : goal.returns-clause-power
returns-clause-power c = power-in-range c.source.inside.lw c.place.result c.place.ensures.bound c.source.invariant.bands c.source.invariant.powers
