use Rattle.std.proofs.Common.{arith}
use Rattle.scene_geom.proofs.Whole.{FitsCross, cross_fits, cross_all, cross_is, abs-cross}
use Rattle.scene_geom.proofs.directions.step.Step.cross.Goals as goal
use Rattle.scene_geom.specs.declared.directions.step.Step.{Step}
use mir.Syntax.{w64}

fits : (a b : Step) → FitsCross w64 a.x b.y a.y b.x
fits a b = cross_fits w64 a.x b.y a.y b.x 8000000 8000000 a.x_within b.y_within a.y_within b.x_within (omega arith) (omega arith) (omega arith)

pub overflow_sub-result : goal.overflow_sub-result
overflow_sub-result c = cross_all w64 _ _ _ _ (fits c.args.self c.args.other)

pub returns-clause-value : goal.returns-clause-value
returns-clause-value c = cross_is w64 _ _ _ _ (fits c.args.self c.args.other)

pub returns-clause-within : goal.returns-clause-within
returns-clause-within c =
    let a = c.args.self in let b = c.args.other in
    rw (cross_is w64 a.x b.y a.y b.x (fits a b)) (abs-cross a.x b.y a.y b.x 8000000 8000000 a.x_within b.y_within a.y_within b.x_within)
