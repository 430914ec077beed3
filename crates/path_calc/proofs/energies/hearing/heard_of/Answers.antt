use Rattle.std.proofs.Common.{List, [], refl, sym, ap}
use Rattle.path_calc.specs.declared.lateral.LateralScreening.{LateralScreening}
use Rattle.path_calc.specs.inner.Hearing.{downwind_energy, long_term_energy, screening_at}
use Rattle.path_calc.specs.inner.Strings.{no_lateral, both_of, lateral_of}
use Rattle.path_calc.proofs.AllSounds.{all-sounds}
use Rattle.path_calc.proofs.Bounds.{sent}
use Rattle.path_calc.proofs.energies.hearing.heard_of.Goals as goal

pub level_before-level-requires-clause-power : goal.level_before-level-requires-clause-power
level_before-level-requires-clause-power c = sent c.args.paths.now.direct.omega c.power_of.result c.power_of.ensures.bounds

-- of the direct path alone nothing is added
pub returns-then-has_direct_alone-clause-energy : goal.returns-then-has_direct_alone-clause-energy
returns-then-has_direct_alone-clause-energy c =
    let alone = c.has_direct_alone.ensures c.if-has_direct_alone.true in
    let over = c.heard_over-over.result.energy in
    all-sounds downwind_energy c.args.paths.now c.args.band c.args.emission c.level_before-level.result (screening_at c.args.paths.now.direct c.args.band) no_lateral [] over over over over
    (rw c.power_of.ensures.value at c.level_before-level.ensures.value) refl
    (sym (ap (λ (ls : List LateralScreening). both_of (lateral_of ls c.args.band)) alone.0)) (sym alone.1)
    c.heard_over-over.ensures.energy c.heard_over-over.ensures.energy_bounds refl refl refl

pub returns-then-has_direct_alone-clause-long : goal.returns-then-has_direct_alone-clause-long
returns-then-has_direct_alone-clause-long c =
    let alone = c.has_direct_alone.ensures c.if-has_direct_alone.true in
    let over = c.heard_over-over.result.long in
    all-sounds (long_term_energy c.args.band) c.args.paths.now c.args.band c.args.emission c.level_before-level.result (screening_at c.args.paths.now.direct c.args.band) no_lateral [] over over over over
    (rw c.power_of.ensures.value at c.level_before-level.ensures.value) refl
    (sym (ap (λ (ls : List LateralScreening). both_of (lateral_of ls c.args.band)) alone.0)) (sym alone.1)
    c.heard_over-over.ensures.long c.heard_over-over.ensures.long_bounds refl refl refl

pub with_other_paths-requires-clause-level : goal.with_other_paths-requires-clause-level
with_other_paths-requires-clause-level c = rw c.power_of.ensures.value at c.level_before-level.ensures.value
