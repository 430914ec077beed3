use Rattle.std.proofs.Common.{◌≡◌, ◌∙◌, sym, arith, length-set, w32, to_z, of_z}
use Rattle.std.proofs.lemmas.Int.{ints}
use Rattle.std.specs.Prelude.{None, Ok}
use Rattle.scene_parts.specs.Answers.{each}
use Rattle.scene_parts.specs.Checking.{power_within}
use Rattle.scene_parts.proofs.BandLemmas.{level-kept, all-kept, levels-within}
use Rattle.scene_parts.proofs.checks.powers.powers.Goals as goal

pub loop-band-preserved : goal.loop-band-preserved
loop-band-preserved c =
    let bands = c.loop-band.invariant.bands in
    record {
      so_far = c.loop-band.invariant.so_far
          ∙ level-kept (power_within (to_z w32 (of_z w32 c.args.low)) (to_z w32 (of_z w32 c.args.high))) c.args.lw c.loop-band.powers c.loop-band.band None c.in_ok-powers.field-0 (omega arith) (omega (arith, bands)) c.in_ok-powers.ensures;
      bands = length-set c.loop-band.powers c.loop-band.band c.in_ok-powers.field-0 ∙ bands;
    }

pub returns-clause-value : goal.returns-clause-value
returns-clause-value c =
    let low : to_z w32 (of_z w32 c.args.low) ≡ c.args.low = omega (arith, ints) in
    let high : to_z w32 (of_z w32 c.args.high) ≡ c.args.high = omega (arith, ints) in
    sym ((rw (low, high) at c.loop-band.invariant.so_far) ∙ all-kept (power_within c.args.low c.args.high) c.args.lw c.loop-band.powers c.loop-band.band (omega arith) (omega (arith, c.loop-band.invariant.bands)))

pub returns-clause-range : goal.returns-clause-range
returns-clause-range c =
    let low : to_z w32 (of_z w32 c.args.low) ≡ c.args.low = omega (arith, ints) in
    let high : to_z w32 (of_z w32 c.args.high) ≡ c.args.high = omega (arith, ints) in
    let passed : each (power_within c.args.low c.args.high) c.args.lw ≡ Ok c.loop-band.powers =
    (rw (low, high) at c.loop-band.invariant.so_far) ∙ all-kept (power_within c.args.low c.args.high) c.args.lw c.loop-band.powers c.loop-band.band (omega arith) (omega (arith, c.loop-band.invariant.bands)) in
    levels-within c.args.low c.args.high c.args.lw c.loop-band.powers passed
