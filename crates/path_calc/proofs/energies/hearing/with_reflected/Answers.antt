use Rattle.std.proofs.Common.{◌<◌, ◌≤◌, ◌^◌, ◌+◌, ℕ, List, length, map, subst, ap, ◌∙◌, arith}
use Rattle.std.specs.Prelude.{fold}
use Rattle.std.proofs.lemmas.List.{take_all}
use Rattle.fix_interval.specs.Values.{add_of}
use Rattle.fix_interval.specs.Tree.{Known, Add, enc}
use Rattle.path_calc.specs.declared.reflected.Echo.{Echo}
use Rattle.path_calc.specs.inner.Propagations.{Reflected}
use Rattle.path_calc.specs.inner.Ranges.{IsSumOf}
use Rattle.path_calc.specs.inner.Hearing.{downwind_energy, long_term_energy, echo_energy, reflected_energy}
use Rattle.path_calc.proofs.Bounds.{small-energies}
use Rattle.path_calc.proofs.Sums.{next-from, up-to}
use Rattle.path_calc.proofs.energies.hearing.with_reflected.Goals as goal

-- so few sounds are heard so far that their energy is small
few-sounds : (i n : ℕ) → i < n → n ≤ 16384 → 3 + i < 2 ^ 18
few-sounds i n below few = omega arith

pub with_echo-all-requires-clause-energy : goal.with_echo-all-requires-clause-energy
with_echo-all-requires-clause-energy c =
    small-energies (3 + c.loop-path.path-index) c.loop-path.all.energy (few-sounds c.loop-path.path-index (length c.args.reflected.now) c.loop-path-test.true c.requires.few) c.loop-path.invariant.energy_bounds

pub with_echo-all-requires-clause-long : goal.with_echo-all-requires-clause-long
with_echo-all-requires-clause-long c =
    small-energies (3 + c.loop-path.path-index) c.loop-path.all.long (few-sounds c.loop-path.path-index (length c.args.reflected.now) c.loop-path-test.true c.requires.few) c.loop-path.invariant.long_bounds

pub loop-path-preserved : goal.loop-path-preserved
loop-path-preserved c =
    let xs = c.args.reflected.now in
    let i = c.loop-path.path-index in
    let x = c.path-item.result in
    let before = c.loop-path.all in
    let below : i < length xs = c.loop-path-test.true in
    let few : 3 + i < 131072 = omega (arith, below, c.requires.few) in
    record {
      energy = next-from (reflected_energy downwind_energy c.args.band c.args.emission) (Known c.args.heard.energy) xs i x before.energy c.with_echo-all.result.energy below c.path-item.is c.loop-path.invariant.energy
          (c.with_echo-all.ensures.energy ∙ ap (λ (e : Echo). add_of before.energy (echo_energy downwind_energy c.args.band c.args.emission e)) c.echo.ensures.value);
      long = next-from (reflected_energy (long_term_energy c.args.band) c.args.band c.args.emission) (Known c.args.heard.long) xs i x before.long c.with_echo-all.result.long below c.path-item.is c.loop-path.invariant.long
          (c.with_echo-all.ensures.long ∙ ap (λ (e : Echo). add_of before.long (echo_energy (long_term_energy c.args.band) c.args.band c.args.emission e)) c.echo.ensures.value);
      energy_bounds = subst (λ (k : ℕ). IsSumOf k c.with_echo-all.result.energy) (omega arith) (c.with_echo-all.ensures.energy_bounds (3 + i) few c.loop-path.invariant.energy_bounds);
      long_bounds = subst (λ (k : ℕ). IsSumOf k c.with_echo-all.result.long) (omega arith) (c.with_echo-all.ensures.long_bounds (3 + i) few c.loop-path.invariant.long_bounds);
    }

pub returns-clause-energy : goal.returns-clause-energy
returns-clause-energy c =
    c.loop-path.invariant.energy
    ∙ ap (λ (xs : List Reflected). enc (fold Add (Known c.args.heard.energy) (map (reflected_energy downwind_energy c.args.band c.args.emission) xs))) (take_all c.loop-path.path-index c.args.reflected.now c.loop-path-test.false)

pub returns-clause-long : goal.returns-clause-long
returns-clause-long c =
    c.loop-path.invariant.long
    ∙ ap (λ (xs : List Reflected). enc (fold Add (Known c.args.heard.long) (map (reflected_energy (long_term_energy c.args.band) c.args.band c.args.emission) xs))) (take_all c.loop-path.path-index c.args.reflected.now c.loop-path-test.false)

pub returns-clause-energy_bounds : goal.returns-clause-energy_bounds
returns-clause-energy_bounds c = up-to (3 + c.loop-path.path-index) 16387 c.loop-path.all.energy (omega (arith, c.requires.few)) c.loop-path.invariant.energy_bounds

pub returns-clause-long_bounds : goal.returns-clause-long_bounds
returns-clause-long_bounds c = up-to (3 + c.loop-path.path-index) 16387 c.loop-path.all.long (omega (arith, c.requires.few)) c.loop-path.invariant.long_bounds
