use Rattle.std.proofs.Common.{sym, ap, ◌∙◌, arith}
use Rattle.std.proofs.lemmas.Int.{ints}
use Rattle.path_calc.specs.inner.BarrierAttenuations.{attenuations_in}
use Rattle.path_calc.proofs.Bounds.{wider}
use Rattle.path_calc.proofs.Losing.{nothing-screened}
use Rattle.path_calc.proofs.direct.screening.BarrierAttenuations.off.Goals as goal

pub returns-in-None-clause-value : goal.returns-in-None-clause-value
returns-in-None-clause-value c = λ default.
    nothing-screened c.args.self.now c.args.level default c.args.band c.requires (sym c.self.view_is ∙ ap attenuations_in c.in-None.is)

pub returns-in-None-clause-range : goal.returns-in-None-clause-range
returns-in-None-clause-range c = wider _ _ _ _ c.args.level (omega (arith, ints)) (omega (arith, ints)) c.requires
