use Rattle.std.proofs.Common.{◌∙◌, length-append, arith}
use Rattle.std.specs.Prelude.{pos}
use Rattle.std.proofs.lemmas.Result.{err_from_is_err_and}
use Rattle.scene_parts.specs.Answers.{lacks_memory}
use Rattle.scene_parts.specs.Checking.{corner_of}
use Rattle.scene_parts.specs.declared.outlines.RawPt.{RawPt}
use Rattle.scene_parts.proofs.AnswerLemmas.{unless, after-step, after-stop, corners-stop}
use Rattle.scene_parts.proofs.outlines.shapes.corners.Goals as goal

nowhere : RawPt
nowhere = record { x = pos 0; y = pos 0 }

pub returns-in_err-corner-clause-value : goal.returns-in_err-corner-clause-value
unfolding nowhere
returns-in_err-corner-clause-value c =
    let p = err_from_is_err_and c.from_residual.result c.from_residual.ensures.1 in
    rw (p.1, p.2)
    (unless (lacks_memory c.in_err-corner.field-0.0)
    (corners-stop c.args.points.now c.in_err-corner.field-0.0
    (c.loop-point.invariant.so_far
    ∙ after-stop corner_of c.loop-point.corners.items c.args.points.now c.loop-point.point-index nowhere c.in_err-corner.field-0.0 (omega arith) c.in_err-corner.ensures)))

pub loop-point-preserved : goal.loop-point-preserved
unfolding nowhere
loop-point-preserved c = record {
  so_far = rw c.in_ok-add_corner.ensures
      (c.loop-point.invariant.so_far
      ∙ after-step corner_of c.loop-point.corners.items c.args.points.now c.loop-point.point-index nowhere c.in_ok-corner.corner (omega arith) c.in_ok-corner.ensures);
  count = rw (c.in_ok-add_corner.ensures, length-append) (omega (arith, c.loop-point.invariant.count));
}
