use Rattle.std.proofs.Common.{◌≡◌, drop}
use Rattle.std.specs.Bool.{beq}
use Rattle.std.specs.List.{list_all}
use Rattle.scene_geom.specs.Crossing.{is_left}
use Rattle.scene_geom.specs.Direction.{way}
use Rattle.term_ground.proofs.coverage.beside.are_on_hand.Given as goal

abbrev pub invariant-loop-corner : goal.invariant-loop-corner
invariant-loop-corner l =
    list_all (λ c. beq (is_left l.leg.start (way l.leg.dir) c) l.left) (drop l.corner-index l.corners)
    ≡ list_all (λ c. beq (is_left l.leg.start (way l.leg.dir) c) l.left) l.corners
