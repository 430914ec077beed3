use Rattle.std.proofs.Common.{◌∙◌, ap, List}
use Rattle.std.specs.List.{list_any}
use Rattle.std.proofs.lemmas.List.{take_all}
use Rattle.scene_parts.specs.Parts.{Obstacle}
use Rattle.path_calc.specs.LateralPaths.{is_in_the_way}
use Rattle.path_calc.specs.inner.Strings.{is_within}
use Rattle.path_calc.proofs.Barred.{breadth-counts}
use Rattle.path_calc.proofs.Pushed.{way-found, way-clear}
use Rattle.path_calc.proofs.lateral.blocked.find_blocking.Goals.{then-obstructs+in_ok-push, else-obstructs}
use Rattle.path_calc.proofs.lateral.blocked.find_blocking.Goals as goal

pub loop-obstacle-preserved : goal.loop-obstacle-preserved
loop-obstacle-preserved c = λ band.
    let o = c.obstacle-item.result in
    elim c.if-obstructs.branch [
      | then-obstructs+in_ok-push w ↦
          ap (λ xs. list_any (is_within band) xs.items) w.blocking-is
          ∙ way-found band c.args.ends c.args.corners.now c.args.obstacles.now c.loop-obstacle.obstacle-index o _ _ w.of.result c.obstructs.result
          c.loop-obstacle-test.true c.obstacle-item.is c.obstructs.ensures w.if-obstructs.true w.in_ok-push.ensures.items
          (breadth-counts band c.args.ends o w.of.result w.of.ensures.extent w.of.ensures.square) (c.loop-obstacle.invariant band)
      | else-obstructs w ↦
          ap (λ xs. list_any (is_within band) xs.items) w.blocking-is
          ∙ way-clear band c.args.ends c.args.corners.now c.args.obstacles.now c.loop-obstacle.obstacle-index o _ c.obstructs.result
          c.loop-obstacle-test.true c.obstacle-item.is c.obstructs.ensures w.if-obstructs.false (c.loop-obstacle.invariant band)
    ]

pub returns : goal.returns
returns c = λ band.
    c.loop-obstacle.invariant band
    ∙ ap (λ (os : List Obstacle). list_any (is_in_the_way band c.args.ends c.args.corners.now) os)
    (take_all c.loop-obstacle.obstacle-index c.args.obstacles.now c.loop-obstacle-test.false)
