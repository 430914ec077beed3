use Rattle.std.proofs.Common.{arith}
use Rattle.path_calc.proofs.Bounds.{small-energies}
use Rattle.path_calc.proofs.Sums.{sums-added, more-sounds}
use Rattle.path_calc.proofs.energies.hearing.with_lateral.Goals as goal

pub both-requires-clause-second_energy : goal.both-requires-clause-second_energy
both-requires-clause-second_energy c = small-energies 1 c.heard_behind.result.energy (omega arith) c.heard_behind.ensures.energy_bounds

pub both-requires-clause-second_long : goal.both-requires-clause-second_long
both-requires-clause-second_long c = small-energies 1 c.heard_behind.result.long (omega arith) c.heard_behind.ensures.long_bounds

pub returns-in-Some-clause-energy_bounds : goal.returns-in-Some-clause-energy_bounds
returns-in-Some-clause-energy_bounds c = λ n few bounds.
    rw c.both.ensures.energy (sums-added c.args.heard.energy c.heard_behind.result.energy n 1 (omega arith) bounds c.heard_behind.ensures.energy_bounds)

pub returns-in-Some-clause-long_bounds : goal.returns-in-Some-clause-long_bounds
returns-in-Some-clause-long_bounds c = λ n few bounds.
    rw c.both.ensures.long (sums-added c.args.heard.long c.heard_behind.result.long n 1 (omega arith) bounds c.heard_behind.ensures.long_bounds)

pub returns-in-None-clause-energy_bounds : goal.returns-in-None-clause-energy_bounds
returns-in-None-clause-energy_bounds c = λ n few bounds. more-sounds n c.args.heard.energy bounds

pub returns-in-None-clause-long_bounds : goal.returns-in-None-clause-long_bounds
returns-in-None-clause-long_bounds c = λ n few bounds. more-sounds n c.args.heard.long bounds
