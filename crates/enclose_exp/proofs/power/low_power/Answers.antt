use Rattle.std.proofs.Common.{◌≡◌, ◌∙◌, ap, sym, arith, Some, pos}
use Rattle.std.proofs.lemmas.Int.{ints}
use mir.Syntax.{w128}
use mir.Val.{to_z}
use Rattle.enclose_exp.proofs.Exponents.{low_value-greatest, low_value-least, low_value-within}
use Rattle.enclose_exp.proofs.power.low_power.Goals as goal

pub returns-then-exponent-ge-GREATEST_COUNTED : goal.returns-then-exponent-ge-GREATEST_COUNTED
returns-then-exponent-ge-GREATEST_COUNTED c =
    ap (λ n. Some (pos n)) (sym (low_value-greatest c.args.exponent c.if-exponent-ge-GREATEST_COUNTED.true))

pub returns-then-exponent-lt-LEAST_COUNTED : goal.returns-then-exponent-lt-LEAST_COUNTED
returns-then-exponent-lt-LEAST_COUNTED c =
    ap (λ n. Some (pos n)) (sym (low_value-least c.args.exponent c.if-exponent-lt-LEAST_COUNTED.true))

pub returns-else-exponent-lt-LEAST_COUNTED : goal.returns-else-exponent-lt-LEAST_COUNTED
returns-else-exponent-lt-LEAST_COUNTED c =
    let r = c.power_down.result in
    let value = c.power_down.ensures.value
    ∙ sym (low_value-within c.args.exponent c.if-exponent-lt-LEAST_COUNTED.false c.if-exponent-ge-GREATEST_COUNTED.false) in
    let small = c.power_down.ensures.bound in
    let whole : to_z w128 r ≡ pos r = omega (arith, ints, small) in
    ap Some (whole ∙ ap pos value)
