use Rattle.std.proofs.Common.{◌≡◌, ◌∙◌, ap, sym, subst, refl, true, false, Bool}
use Rattle.std.specs.Prelude.{not, bytes_eq}
use Rattle.std.specs.List.{list_any}
use Rattle.scene_parts.specs.Parts.{Obstacle}
use Rattle.scene_book.specs.declared.edits.Edit.{Edit}
use Rattle.map_board.specs.inner.Sources.{LeavesObstacles}
use Rattle.map_board.proofs.LeftObstacles.{put-leaves, removal-leaves, grid-leaves, set-leaves}
use Rattle.map_board.proofs.scenes.leaves_obstacles.Goals as goal

fails : (b : Bool) → not b ≡ true → b ≡ false
fails true h = absurd (cc h)
fails false h = refl

pub returns-in-Put : goal.returns-in-Put
returns-in-Put c passes =
    subst (λ (e : Edit). LeavesObstacles e c.args.scene.now) (sym c.in-Put.is)
    (put-leaves c.in-Put.part c.args.scene.now (sym c.is_obstacle.ensures ∙ fails c.is_obstacle.result passes))

pub returns-in-Remove : goal.returns-in-Remove
returns-in-Remove c passes =
    let name = c.in-Remove.name in
    let none : list_any (λ (s : Obstacle). bytes_eq name s.name) c.args.scene.now.obstacles ≡ false =
    ap (λ n. list_any (λ (s : Obstacle). bytes_eq n s.name) c.args.scene.now.obstacles) (sym c.items.ensures.value)
    ∙ (sym c.has_obstacle.ensures ∙ fails c.has_obstacle.result passes) in
    subst (λ (e : Edit). LeavesObstacles e c.args.scene.now) (sym c.in-Remove.is) (removal-leaves name c.args.scene.now none)

pub returns-in-Grid : goal.returns-in-Grid
returns-in-Grid c passes =
    subst (λ (e : Edit). LeavesObstacles e c.args.scene.now) (sym c.in-Grid.is) (grid-leaves _ c.args.scene.now)

pub returns-in-Set : goal.returns-in-Set
returns-in-Set c passes =
    subst (λ (e : Edit). LeavesObstacles e c.args.scene.now) (sym c.in-Set.is) (set-leaves _ c.args.scene.now)
