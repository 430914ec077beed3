use Rattle.std.proofs.Common.{◌≡◌, ◌≤◌, arith, ap, ◌∙◌, sym}
use Rattle.std.specs.Prelude.{ℤ, ◌+ℤ◌, ◌*ℤ◌, unsigned_abs}
use Rattle.std.proofs.lemmas.Int.{ints}
use Rattle.scene_geom.proofs.Whole.{abs-mul}
use Rattle.part_grid.proofs.Reading.{product-some, sum-kept, far, divisor, floor-same}
use Rattle.part_grid.proofs.cells.way.end_at.Goals as goal

pub floor-requires-clause-divides : goal.floor-requires-clause-divides
floor-requires-clause-divides c = λ none. product-some c.args.end.d c.args.divisor c.args.end.positive c.requires.some (sym (divisor c.args.end.d c.args.divisor c.requires.end.below c.requires.divisor) ∙ none)

pub floor-requires-clause-n : goal.floor-requires-clause-n
floor-requires-clause-n c = rw (far c.args.end.n c.args.component c.requires.end.above c.requires.component) (omega (arith, abs-mul c.args.end.n c.args.component 2970000000000 2110000000000000000 c.requires.end.above c.requires.component))

pub floor-requires-clause-d : goal.floor-requires-clause-d
floor-requires-clause-d c = rw (divisor c.args.end.d c.args.divisor c.requires.end.below c.requires.divisor) (omega (arith, abs-mul c.args.end.d c.args.divisor 5940000000000 68718952449 c.requires.end.below c.requires.divisor))

pub returns-clause-value : goal.returns-clause-value
returns-clause-value c =
    let from : c.from.result ≡ c.args.start = omega (arith, ints, c.from.ensures, c.requires.start.low, c.requires.start.high) in
    sum-kept c.from.result c.floor.result (omega (arith, ints, from, c.requires.start.low, c.requires.start.high)) c.floor.ensures.within
    ∙ ap (λ (z : ℤ). z +ℤ c.floor.result) from
    ∙ ap (λ (z : ℤ). c.args.start +ℤ z)
    (c.floor.ensures.value
    ∙ floor-same _ (c.args.end.n *ℤ c.args.component) _ (c.args.end.d *ℤ c.args.divisor) (far c.args.end.n c.args.component c.requires.end.above c.requires.component) (divisor c.args.end.d c.args.divisor c.requires.end.below c.requires.divisor))

pub returns-clause-within : goal.returns-clause-within
returns-clause-within c =
    let from : c.from.result ≡ c.args.start = omega (arith, ints, c.from.ensures, c.requires.start.low, c.requires.start.high) in
    let within : unsigned_abs c.from.result ≤ 4000000 = omega (arith, ints, from, c.requires.start.low, c.requires.start.high) in
    rw (sum-kept c.from.result c.floor.result (omega (arith, ints, within)) c.floor.ensures.within) (omega (arith, ints, within, c.floor.ensures.within))
