use Rattle.std.proofs.Common.{◌≡◌, [], ◌∷◌, ◌++◌, drop}
use Rattle.std.specs.List.{FoldsTo}
use Rattle.scene_geom.specs.Crossing.{is_left}
use Rattle.scene_geom.specs.Direction.{direct}
use Rattle.scene_geom.specs.Outline.{sides_along, passages_of}
use Rattle.scene_geom.specs.Point.{from_to}
use Rattle.term_ground.specs.declared.coverage.crossed.Crossed.{Crossed}
use Rattle.term_ground.specs.inner.Lines.{Adds, IsWalk}
use Rattle.term_ground.proofs.coverage.walk.walk.Given as goal

abbrev pub invariant-loop-next : goal.invariant-loop-next
invariant-loop-next l =
    (l.left ≡ is_left l.line.s (from_to l.line.s l.line.r) l.corner)
    × ((last : Crossed)
    → FoldsTo (λ a passage b. Adds l.line a passage b) l.crossed (passages_of (sides_along (l.corner ∷ (drop l.next-index l.rest ++ l.first ∷ []))) l.line.s (direct l.line.s l.line.r)) last
    → IsWalk l.line l.outline last)
