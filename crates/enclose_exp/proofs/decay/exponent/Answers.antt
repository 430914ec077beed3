use Rattle.std.proofs.Common.{◌∙◌, ◌*◌, ◌^◌, ◌≤ℤ◌, ap, arith, rules, pos, unsigned_abs}
use Rattle.std.proofs.lemmas.Int.{ints, clamps, to_z-of_z}
use mir.Syntax.{w128}
use mir.Val.{SFits}
use Rattle.enclose_exp.proofs.Exponents.{kept-is, min-made, cast-kept}
use Rattle.enclose_exp.proofs.decay.exponent.Goals as goal

pub overflow_cast-result : goal.overflow_cast-result
overflow_cast-result c =
    let z = c.in-Some.exponent in
    let m = c.min.result in
    let fits : SFits w128 z = search rules in
    let fits_m : SFits w128 m = search rules in
    let e = kept-is z m c.from.result fits c.from.ensures c.min.ensures.value in
    let made = min-made z m (c.requires z c.in-Some.is) e in
    let high : m ≤ℤ pos (23 * 2 ^ 32) = omega (arith, ints, clamps, e) in
    cast-kept m fits_m made.1 high

pub returns-in-Some-clause-value : goal.returns-in-Some-clause-value
returns-in-Some-clause-value c =
    let z = c.in-Some.exponent in
    let m = c.min.result in
    let fits : SFits w128 z = search rules in
    let fits_m : SFits w128 m = search rules in
    let e = kept-is z m c.from.result fits c.from.ensures c.min.ensures.value in
    let made = min-made z m (c.requires z c.in-Some.is) e in
    rw (c.in-Some.is) (ap unsigned_abs (to_z-of_z w128 m fits_m) ∙ made.0)

pub returns-in-Some-clause-bound : goal.returns-in-Some-clause-bound
returns-in-Some-clause-bound c =
    let z = c.in-Some.exponent in
    let m = c.min.result in
    let fits : SFits w128 z = search rules in
    let fits_m : SFits w128 m = search rules in
    let e = kept-is z m c.from.result fits c.from.ensures c.min.ensures.value in
    let made = min-made z m (c.requires z c.in-Some.is) e in
    omega (arith, ap unsigned_abs (to_z-of_z w128 m fits_m) ∙ made.0)
