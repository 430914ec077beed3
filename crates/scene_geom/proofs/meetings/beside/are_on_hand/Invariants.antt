use Rattle.std.proofs.Common.{◌≡◌, drop}
use Rattle.std.specs.Bool.{beq}
use Rattle.std.specs.List.{list_all}
use Rattle.scene_geom.specs.Crossing.{is_left}
use Rattle.scene_geom.specs.inner.Step.{vector}
use Rattle.scene_geom.proofs.meetings.beside.are_on_hand.Given as goal

abbrev pub invariant-loop-corner : goal.invariant-loop-corner
invariant-loop-corner l =
    list_all (λ corner. beq (is_left l.from (vector l.along) corner) l.left) (drop l.corner-index l.corners)
    ≡ list_all (λ corner. beq (is_left l.from (vector l.along) corner) l.left) l.corners
