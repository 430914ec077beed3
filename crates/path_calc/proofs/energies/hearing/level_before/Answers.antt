use Rattle.path_calc.proofs.Bounds.{unscreened-within, small-sent, small-divergence, small-absorption, small-spread, small-in_the_open}
use Rattle.path_calc.proofs.energies.hearing.level_before.Goals as goal

pub minus-requires-clause-first : goal.minus-requires-clause-first
minus-requires-clause-first c = small-sent c.args.propagation.now.omega c.args.power c.requires.power

pub minus-requires-clause-second : goal.minus-requires-clause-second
minus-requires-clause-second c =
    rw (c.requires.propagation.divergence) (small-divergence c.args.propagation.now.distance c.requires.propagation.distance)

pub minus-in_the_open-requires-clause-first : goal.minus-in_the_open-requires-clause-first
minus-in_the_open-requires-clause-first c =
    rw (c.minus.ensures, c.requires.propagation.divergence)
    (small-spread c.args.propagation.now.omega c.args.power c.args.propagation.now.distance c.requires.power c.requires.propagation.distance)

pub minus-in_the_open-requires-clause-second : goal.minus-in_the_open-requires-clause-second
minus-in_the_open-requires-clause-second c =
    rw (c.a_atm-absorption.ensures.value)
    (small-absorption c.args.propagation.now.distance c.coefficient.result c.coefficient.ensures.bound c.requires.propagation.distance)

pub minus-requires-2-clause-first : goal.minus-requires-2-clause-first
minus-requires-2-clause-first c =
    rw (c.minus-in_the_open.ensures, c.minus.ensures, c.a_atm-absorption.ensures.value, c.requires.propagation.divergence)
    (small-in_the_open c.args.propagation.now.omega c.args.power c.args.propagation.now.distance c.coefficient.result c.requires.power c.requires.propagation.distance c.coefficient.ensures.bound)

pub returns-clause-range : goal.returns-clause-range
returns-clause-range c =
    rw (c.minus-2.ensures, c.minus-in_the_open.ensures, c.minus.ensures, c.a_atm-absorption.ensures.value, c.requires.propagation.divergence)
    (unscreened-within c.args.propagation.now.omega c.args.power c.args.propagation.now.distance c.coefficient.result c.ground_in.result c.requires.power c.requires.propagation.distance c.coefficient.ensures.bound c.ground_in.ensures.bounds)
