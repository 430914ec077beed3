use Rattle.std.proofs.Common.{◌≡◌, drop, length}
use Rattle.scene_parts.specs.Checking.{corner_of}
use Rattle.scene_parts.specs.Answers.{each}
use Rattle.scene_parts.proofs.AnswerLemmas.{after}
use Rattle.scene_parts.proofs.outlines.shapes.corners.Given as goal

abbrev pub invariant-loop-point : goal.invariant-loop-point
invariant-loop-point l = record {
  so_far : each corner_of l.points ≡ after corner_of l.corners.items (drop l.point-index l.points);
  count : length l.corners.items ≡ l.point-index;
}
