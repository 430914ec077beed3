use Rattle.path_calc.proofs.Sums.{no-sum}
use Rattle.path_calc.proofs.energies.hearing.silence.Goals as goal

pub returns-clause-energy_bounds : goal.returns-clause-energy_bounds
returns-clause-energy_bounds c = rw c.exact.ensures (no-sum 16387)

pub returns-clause-long_bounds : goal.returns-clause-long_bounds
returns-clause-long_bounds c = rw c.exact-2.ensures (no-sum 16387)
