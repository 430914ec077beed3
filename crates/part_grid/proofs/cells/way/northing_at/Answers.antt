use Rattle.std.proofs.Common.{◌≡◌, ◌≤◌, arith, ap, ◌∙◌}
use Rattle.std.specs.Prelude.{ℤ, ◌+ℤ◌, ◌-ℤ◌, ◌*ℤ◌, unsigned_abs}
use Rattle.std.proofs.lemmas.Int.{ints}
use Rattle.scene_geom.proofs.Whole.{kept}
use Rattle.part_grid.proofs.Reading.{sum-kept, ahead, floor-same}
use Rattle.part_grid.proofs.cells.way.northing_at.Goals as goal

pub overflow_mul-ahead : goal.overflow_mul-ahead
overflow_mul-ahead c =
    let p = c.args.from in
    (ahead c.from.result c.from-2.result c.args.dir.y c.args.x p.x c.requires.x (omega (arith, ints, p.x_in_plan.low, p.x_in_plan.high)) c.requires.dir.y_within
    (omega (arith, ints, c.from.ensures, c.requires.x)) (omega (arith, ints, c.from-2.ensures, p.x_in_plan.low, p.x_in_plan.high))).fits

pub floor-requires-clause-n : goal.floor-requires-clause-n
floor-requires-clause-n c =
    let p = c.args.from in
    let way = ahead c.from.result c.from-2.result c.args.dir.y c.args.x p.x c.requires.x (omega (arith, ints, p.x_in_plan.low, p.x_in_plan.high)) c.requires.dir.y_within
    (omega (arith, ints, c.from.ensures, c.requires.x)) (omega (arith, ints, c.from-2.ensures, p.x_in_plan.low, p.x_in_plan.high)) in
    rw way.is way.within

pub returns-clause-value : goal.returns-clause-value
returns-clause-value c =
    let p = c.args.from in
    let way = ahead c.from.result c.from-2.result c.args.dir.y c.args.x p.x c.requires.x (omega (arith, ints, p.x_in_plan.low, p.x_in_plan.high)) c.requires.dir.y_within
    (omega (arith, ints, c.from.ensures, c.requires.x)) (omega (arith, ints, c.from-2.ensures, p.x_in_plan.low, p.x_in_plan.high)) in
    let from : c.from-3.result ≡ p.y = omega (arith, ints, c.from-3.ensures, p.y_in_plan.low, p.y_in_plan.high) in
    sum-kept c.from-3.result c.floor.result (omega (arith, ints, from, p.y_in_plan.low, p.y_in_plan.high)) c.floor.ensures.within
    ∙ ap (λ (z : ℤ). z +ℤ c.floor.result) from
    ∙ ap (λ (z : ℤ). p.y +ℤ z)
    (c.floor.ensures.value
    ∙ floor-same _ ((c.args.x -ℤ p.x) *ℤ c.args.dir.y) _ c.args.dir.x way.is (kept c.args.dir.x 2110000000000000000 c.requires.dir.x_within (omega arith)))

pub returns-clause-within : goal.returns-clause-within
returns-clause-within c =
    let p = c.args.from in
    let from : c.from-3.result ≡ p.y = omega (arith, ints, c.from-3.ensures, p.y_in_plan.low, p.y_in_plan.high) in
    let within : unsigned_abs c.from-3.result ≤ 4000000 = omega (arith, ints, from, p.y_in_plan.low, p.y_in_plan.high) in
    rw (sum-kept c.from-3.result c.floor.result (omega (arith, ints, within)) c.floor.ensures.within) (omega (arith, ints, within, c.floor.ensures.within))
