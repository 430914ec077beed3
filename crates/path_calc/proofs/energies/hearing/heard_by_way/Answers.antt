use Rattle.path_calc.proofs.Sums.{picked, no-sum}
use Rattle.path_calc.proofs.energies.hearing.heard_by_way.Goals as goal

pub returns-clause-energy_bounds : goal.returns-clause-energy_bounds
returns-clause-energy_bounds c =
    rw (c.pick.ensures, c.exact.ensures) (picked c.counts_in-counts.result c.heard_over-heard.result.energy _ 1 c.heard_over-heard.ensures.energy_bounds (no-sum 1))

pub returns-clause-long_bounds : goal.returns-clause-long_bounds
returns-clause-long_bounds c =
    rw (c.pick-2.ensures, c.exact-2.ensures) (picked c.counts_in-counts.result c.heard_over-heard.result.long _ 1 c.heard_over-heard.ensures.long_bounds (no-sum 1))
