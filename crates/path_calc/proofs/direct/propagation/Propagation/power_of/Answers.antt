use Rattle.path_calc.proofs.Bounds.{small-emission, power-raised}
use Rattle.path_calc.proofs.direct.propagation.Propagation.power_of.Goals as goal

pub plus-requires-clause-first : goal.plus-requires-clause-first
plus-requires-clause-first c = small-emission c.args.emission c.requires.emission

pub returns-in-Some-clause-bounds : goal.returns-in-Some-clause-bounds
returns-in-Some-clause-bounds c =
    rw c.plus.ensures (power-raised c.args.self.now.omega c.args.self.now.grounds c.args.emission c.in-Some.omega c.requires.propagation.omega c.in-Some.is c.requires.emission)
