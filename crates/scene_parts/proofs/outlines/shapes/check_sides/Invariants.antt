use Rattle.std.proofs.Common.{◌≡◌, drop}
use Rattle.scene_parts.specs.Sides.{sides_in}
use Rattle.scene_parts.specs.Checking.{check_sides_from}
use Rattle.scene_parts.proofs.outlines.shapes.check_sides.Given as goal

abbrev pub invariant-loop-i : goal.invariant-loop-i
invariant-loop-i l =
    check_sides_from 0 (sides_in l.shape l.corners) ≡ check_sides_from l.i (drop l.i (sides_in l.shape l.corners))
