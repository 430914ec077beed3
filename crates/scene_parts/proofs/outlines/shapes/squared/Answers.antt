use Rattle.std.proofs.Common.{◌≡◌, ◌∙◌, ap, refl, arith}
use Rattle.std.specs.Prelude.{ℤ, ◌+ℤ◌, ◌-ℤ◌, ◌*ℤ◌, unsigned_abs}
use Rattle.std.proofs.lemmas.Int.{ints}
use Rattle.scene_parts.proofs.outlines.shapes.squared.Goals as goal
use mir.Syntax.{w64}
use mir.Val.{to_z, of_z}

pub overflow_add-result : goal.overflow_add-result
overflow_add-result c =
    omega (arith, ints, c.square-across.ensures.low, c.square-across.ensures.high, c.square-up.ensures.low, c.square-up.ensures.high)

pub overflow_cast-result : goal.overflow_cast-result
overflow_cast-result c = (omega (arith, ints), omega (arith, ints))

pub returns-clause-value : goal.returns-clause-value
returns-clause-value c =
    let x : to_z w64 (of_z w64 c.way.result) ≡ c.way.result = omega (arith, ints) in
    let y : to_z w64 (of_z w64 c.way-2.result) ≡ c.way-2.result = omega (arith, ints) in
    let across : c.way.result ≡ c.args.side.to.x -ℤ c.args.side.from.x = omega (arith, ints, c.way.ensures.value) in
    let up : c.way-2.result ≡ c.args.side.to.y -ℤ c.args.side.from.y = omega (arith, ints, c.way-2.ensures.value) in
    let far = (rw x at c.square-across.ensures.value) ∙ ap (λ (z : ℤ). z *ℤ z) across in
    let high = (rw y at c.square-up.ensures.value) ∙ ap (λ (z : ℤ). z *ℤ z) up in
    let total : to_z w64 (of_z w64 (to_z w64 (of_z w64 c.square-across.result) +ℤ to_z w64 (of_z w64 c.square-up.result))) ≡ c.square-across.result +ℤ c.square-up.result =
    omega (arith, ints, c.square-across.ensures.low, c.square-across.ensures.high, c.square-up.ensures.low, c.square-up.ensures.high) in
    let sum : c.square-across.result +ℤ c.square-up.result
    ≡ (c.args.side.to.x -ℤ c.args.side.from.x) *ℤ (c.args.side.to.x -ℤ c.args.side.from.x)
    +ℤ (c.args.side.to.y -ℤ c.args.side.from.y) *ℤ (c.args.side.to.y -ℤ c.args.side.from.y) = rw (far, high) refl in
    ap unsigned_abs (total ∙ sum)

pub returns-clause-within : goal.returns-clause-within
returns-clause-within c =
    omega (arith, ints, c.square-across.ensures.low, c.square-across.ensures.high, c.square-up.ensures.low, c.square-up.ensures.high)
