use Rattle.std.proofs.Common.{◌∙◌, ap, sym}
use Rattle.std.specs.Prelude.{bytes_eq}
use Rattle.std.specs.List.{list_any}
use Rattle.scene_parts.specs.Parts.{Obstacle}
use Rattle.map_board.proofs.Scanning.{found-one, past-one, none-left}
use Rattle.map_board.proofs.scenes.has_obstacle.Goals as goal

pub returns : goal.returns
returns c =
    sym (ap (list_any (λ (s : Obstacle). bytes_eq c.args.name.now s.name)) (sym c.obstacles-obstacles.ensures.value)
    ∙ none-left (λ (s : Obstacle). bytes_eq c.args.name.now s.name) c.obstacles-obstacles.result.now c.loop-obstacle.obstacle-index c.loop-obstacle-test.false c.loop-obstacle.invariant)

pub returns-then-eq : goal.returns-then-eq
returns-then-eq c =
    found-one (λ (s : Obstacle). bytes_eq c.args.name.now s.name) c.obstacles-obstacles.result.now c.loop-obstacle.obstacle-index c.obstacle-item.result c.loop-obstacle-test.true c.obstacle-item.is
    (ap (bytes_eq c.args.name.now) (sym (c.items.ensures.value ∙ ap (λ (s : Obstacle). s.name) c.obstacle.view_is)) ∙ sym c.if-eq.ensures) c.loop-obstacle.invariant
    ∙ ap (list_any (λ (s : Obstacle). bytes_eq c.args.name.now s.name)) c.obstacles-obstacles.ensures.value

pub loop-obstacle-preserved : goal.loop-obstacle-preserved
loop-obstacle-preserved c =
    past-one (λ (s : Obstacle). bytes_eq c.args.name.now s.name) c.obstacles-obstacles.result.now c.loop-obstacle.obstacle-index c.obstacle-item.result c.loop-obstacle-test.true c.obstacle-item.is
    (ap (bytes_eq c.args.name.now) (sym (c.items.ensures.value ∙ ap (λ (s : Obstacle). s.name) c.obstacle.view_is)) ∙ sym c.if-eq.ensures) c.loop-obstacle.invariant
