use Rattle.std.proofs.Common.{◌≡◌, ◌∙◌, ◌^◌, sym, ap, arith, ℕ, pos, ◌*ℤ◌, to_z, of_z, w32}
use mir.Syntax.{w128}
use Rattle.std.proofs.lemmas.Int.{ints}
use Rattle.fix_interval.specs.Units.{unit-is}
use Rattle.fix_interval.specs.Round.{floor_of}
use Rattle.line_sources.proofs.Middles.{floor_of-bounds}
use Rattle.line_sources.proofs.gains.in_hundredths.Goals as goal

pub returns : goal.returns
returns c =
    let one : to_z w128 (of_z w128 c.args.units) ≡ c.args.units = omega (arith, ints) in
    let thousand : to_z w128 (of_z w128 (pos 1000 *ℤ c.args.units)) ≡ pos 1000 *ℤ c.args.units = omega (arith, ints) in
    let quotient : c.div_euclid.result ≡ floor_of (pos 1000 *ℤ c.args.units) (2 ^ 32) = rw (one, thousand) at c.div_euclid.ensures in
    let bounds = floor_of-bounds (pos 1000 *ℤ c.args.units) (2 ^ 32) 10000 29000 (omega arith) (omega (arith, ints)) (omega (arith, ints)) in
    let same : to_z w32 (of_z w32 (to_z w128 (of_z w128 c.div_euclid.result))) ≡ c.div_euclid.result = rw quotient (omega (arith, ints, bounds.0, bounds.1)) in
    same ∙ quotient ∙ ap (λ (d : ℕ). floor_of (pos 1000 *ℤ c.args.units) d) (sym unit-is)
