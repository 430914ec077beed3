use Rattle.std.proofs.Common.{◌∙◌, ap, arith}
use Rattle.std.specs.Prelude.{ℤ, ◌-ℤ◌, ◌*ℤ◌}
use Rattle.scene_geom.proofs.Whole.{FitsCross, cross_fits, cross_left, cross_right, cross_all, cross_is, abs-cross}
use Rattle.image_source.proofs.Even.{way-is}
use Rattle.image_source.proofs.placing.off_line.Goals as goal
use mir.Syntax.{w64}

fits : (c : goal.After-way-4) → FitsCross w64 c.way.result c.way-2.result c.way-3.result c.way-4.result
fits c = cross_fits w64 c.way.result c.way-2.result c.way-3.result c.way-4.result 8000000 8000000 c.way.ensures.within c.way-2.ensures.within c.way-3.ensures.within c.way-4.ensures.within (omega arith) (omega arith) (omega arith)

pub overflow_mul-result : goal.overflow_mul-result
overflow_mul-result c =
    let a = c.way.result in
    let b = c.way-2.result in
    cross_left w64 a b a b (cross_fits w64 a b a b 8000000 8000000 c.way.ensures.within c.way-2.ensures.within c.way.ensures.within c.way-2.ensures.within (omega arith) (omega arith) (omega arith))

pub overflow_mul-result-2 : goal.overflow_mul-result-2
overflow_mul-result-2 c = cross_right w64 _ _ _ _ (fits c)

pub overflow_sub-result : goal.overflow_sub-result
overflow_sub-result c = cross_all w64 _ _ _ _ (fits c)

pub returns-clause-value : goal.returns-clause-value
returns-clause-value c =
    let side = c.args.side in
    let p = c.args.p in
    cross_is w64 _ _ _ _ (fits c)
    ∙ ap (λ (z : ℤ). z *ℤ c.way-2.result -ℤ c.way-3.result *ℤ c.way-4.result) (way-is c.way.result side.from.x side.to.x side.from.x_in_plan side.to.x_in_plan c.way.ensures.value)
    ∙ ap (λ (z : ℤ). (side.to.x -ℤ side.from.x) *ℤ z -ℤ c.way-3.result *ℤ c.way-4.result) (way-is c.way-2.result side.from.y p.y side.from.y_in_plan p.y_in_plan c.way-2.ensures.value)
    ∙ ap (λ (z : ℤ). (side.to.x -ℤ side.from.x) *ℤ (p.y -ℤ side.from.y) -ℤ z *ℤ c.way-4.result) (way-is c.way-3.result side.from.y side.to.y side.from.y_in_plan side.to.y_in_plan c.way-3.ensures.value)
    ∙ ap (λ (z : ℤ). (side.to.x -ℤ side.from.x) *ℤ (p.y -ℤ side.from.y) -ℤ (side.to.y -ℤ side.from.y) *ℤ z) (way-is c.way-4.result side.from.x p.x side.from.x_in_plan p.x_in_plan c.way-4.ensures.value)

pub returns-clause-within : goal.returns-clause-within
returns-clause-within c =
    rw (cross_is w64 _ _ _ _ (fits c)) (abs-cross c.way.result c.way-2.result c.way-3.result c.way-4.result 8000000 8000000 c.way.ensures.within c.way-2.ensures.within c.way-3.ensures.within c.way-4.ensures.within)
