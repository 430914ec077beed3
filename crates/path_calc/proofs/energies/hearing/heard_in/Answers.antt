use Rattle.std.proofs.Common.{sym, ap, ◌∙◌, Option}
use Rattle.fix_interval.specs.Interval.{Interval}
use Rattle.path_calc.specs.inner.Hearing.{downwind_energy, long_term_energy, sum_after}
use Rattle.path_calc.proofs.energies.hearing.heard_in.Goals as goal

pub returns-in-Some-clause-energy : goal.returns-in-Some-clause-energy
returns-in-Some-clause-energy c =
    c.heard_of.ensures.energy
    ∙ ap (λ (emission : Option Interval). sum_after downwind_energy c.args.paths.now c.args.band emission) (sym c.in-Some.is ∙ c.emission_in.ensures.value)

pub returns-in-Some-clause-long : goal.returns-in-Some-clause-long
returns-in-Some-clause-long c =
    c.heard_of.ensures.long
    ∙ ap (λ (emission : Option Interval). sum_after (long_term_energy c.args.band) c.args.paths.now c.args.band emission) (sym c.in-Some.is ∙ c.emission_in.ensures.value)
