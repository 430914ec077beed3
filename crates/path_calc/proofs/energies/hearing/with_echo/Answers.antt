use Rattle.std.proofs.Common.{◌≡◌, pos, ap, refl, sym, ◌∙◌, arith}
use Rattle.fix_interval.specs.Interval.{Interval}
use Rattle.fix_interval.specs.declared.truth.Truth.TheVariants.{Never}
use Rattle.fix_interval.specs.Values.{add_of, pick_of}
use Rattle.fix_interval.specs.Tree.{Tree, Const, enc}
use Rattle.scene_geom.specs.declared.band.Band.{Band}
use Rattle.path_calc.specs.declared.reflected.Echo.{Echo}
use Rattle.path_calc.specs.declared.reflected.Echo.TheVariants.{Audible}
use Rattle.path_calc.specs.declared.reflected.Sound.{Sound}
use Rattle.path_calc.specs.inner.Propagations.{counts_at}
use Rattle.path_calc.specs.inner.Hearing.{downwind_energy, long_term_energy, echo_energy}
use Rattle.path_calc.proofs.Sums.{sums-added, nothing-more}
use Rattle.path_calc.proofs.energies.hearing.with_echo.Goals as goal

-- no energy comes by way of a wall that is too small in the band
too-small : (energy : Tree → Tree → Tree) (band : Band) (emission : Interval) (sound : Sound) → counts_at sound band ≡ Never
    → echo_energy energy band emission (Audible sound) ≡ enc (Const (pos 0) 1)
unfolding pick_of
too-small energy band emission sound never = rw never refl

pub returns-in-Silent-clause-energy : goal.returns-in-Silent-clause-energy
returns-in-Silent-clause-energy c =
    nothing-more c.args.heard.energy c.requires.energy
    ∙ ap (λ (e : Echo). add_of c.args.heard.energy (echo_energy downwind_energy c.args.band c.args.emission e)) (sym c.in-Silent.is)

pub returns-in-Silent-clause-long : goal.returns-in-Silent-clause-long
returns-in-Silent-clause-long c =
    nothing-more c.args.heard.long c.requires.long
    ∙ ap (λ (e : Echo). add_of c.args.heard.long (echo_energy (long_term_energy c.args.band) c.args.band c.args.emission e)) (sym c.in-Silent.is)

pub returns-in-Never-clause-energy : goal.returns-in-Never-clause-energy
returns-in-Never-clause-energy c =
    let none = too-small downwind_energy c.args.band c.args.emission c.in-Audible.sound (sym c.counts_in.ensures ∙ c.in-Never.is) in
    nothing-more c.args.heard.energy c.requires.energy
    ∙ ap (add_of c.args.heard.energy) (sym (ap (echo_energy downwind_energy c.args.band c.args.emission) c.in-Audible.is ∙ none))

pub returns-in-Never-clause-long : goal.returns-in-Never-clause-long
returns-in-Never-clause-long c =
    let none = too-small (long_term_energy c.args.band) c.args.band c.args.emission c.in-Audible.sound (sym c.counts_in.ensures ∙ c.in-Never.is) in
    nothing-more c.args.heard.long c.requires.long
    ∙ ap (add_of c.args.heard.long) (sym (ap (echo_energy (long_term_energy c.args.band) c.args.band c.args.emission) c.in-Audible.is ∙ none))

pub returns-in-Sure : goal.returns-in-Sure
returns-in-Sure c =
    let band = c.args.band in
    let emission = c.args.emission in
    record {
      energy = c.both.ensures.energy ∙ ap (add_of c.args.heard.energy) (c.heard_by_way.ensures.energy ∙ ap (echo_energy downwind_energy band emission) (sym c.in-Audible.is));
      long = c.both.ensures.long ∙ ap (add_of c.args.heard.long) (c.heard_by_way.ensures.long ∙ ap (echo_energy (long_term_energy band) band emission) (sym c.in-Audible.is));
      energy_bounds = λ n few bounds. rw c.both.ensures.energy (sums-added c.args.heard.energy c.heard_by_way.result.energy n 1 (omega (arith, few)) bounds c.heard_by_way.ensures.energy_bounds);
      long_bounds = λ n few bounds. rw c.both.ensures.long (sums-added c.args.heard.long c.heard_by_way.result.long n 1 (omega (arith, few)) bounds c.heard_by_way.ensures.long_bounds);
    }
