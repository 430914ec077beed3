use Rattle.std.proofs.Common.{◌≡◌, sym, ap, ◌∙◌, subst, arith}
use Rattle.std.proofs.lemmas.Int.{ints}
use Rattle.fix_interval.specs.Values.{sub_of}
use Rattle.term_foliage.specs.Foliage.{attenuations_over}
use Rattle.path_calc.specs.inner.Losses.{IsFoliageLoss, AreLosses, loss_in}
use Rattle.path_calc.proofs.Bounds.{past-within, wider}
use Rattle.path_calc.proofs.Losing.{loss-over, loss-between, nothing-lost}
use Rattle.path_calc.proofs.direct.foliage.Losses.off.Goals as goal

pub minus-requires-clause-second : goal.minus-requires-clause-second
minus-requires-clause-second c =
    let lost : c.a_fol_over.result ≡ loss_in c.args.self.now c.args.band =
    c.a_fol_over.ensures.value ∙ loss-over c.args.self.now c.self.inside.through c.in-Some.through c.args.band (sym c.self.view_is) c.in-Some.is in
    wider _ _ _ _ c.a_fol_over.result (omega (arith, ints)) (omega (arith, ints)) (subst IsFoliageLoss (sym lost) (loss-between c.args.self.now c.args.band (subst AreLosses c.self.view_is c.self.invariant)))

pub returns-in-Some-clause-value : goal.returns-in-Some-clause-value
returns-in-Some-clause-value c =
    c.minus.ensures
    ∙ ap (sub_of c.args.level) (c.a_fol_over.ensures.value ∙ loss-over c.args.self.now c.self.inside.through c.in-Some.through c.args.band (sym c.self.view_is) c.in-Some.is)

pub returns-in-Some-clause-range : goal.returns-in-Some-clause-range
returns-in-Some-clause-range c =
    rw (returns-in-Some-clause-value c)
    (past-within c.args.level _ c.requires (loss-between c.args.self.now c.args.band (subst AreLosses c.self.view_is c.self.invariant)))

pub returns-in-None-clause-value : goal.returns-in-None-clause-value
returns-in-None-clause-value c = nothing-lost c.args.self.now c.args.level c.args.band c.requires (sym c.self.view_is ∙ ap attenuations_over c.in-None.is)
