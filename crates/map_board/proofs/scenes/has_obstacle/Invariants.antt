-- None of the obstacles so far has the name.
use Rattle.std.proofs.Common.{◌≡◌, drop}
use Rattle.std.specs.Prelude.{bytes_eq}
use Rattle.std.specs.List.{list_any}
use Rattle.scene_parts.specs.Parts.{Obstacle}
use Rattle.map_board.proofs.scenes.has_obstacle.Given as goal

abbrev pub invariant-loop-obstacle : goal.invariant-loop-obstacle
invariant-loop-obstacle l =
    list_any (λ (s : Obstacle). bytes_eq l.name s.name) l.obstacles ≡ list_any (λ (s : Obstacle). bytes_eq l.name s.name) (drop l.obstacle-index l.obstacles)
