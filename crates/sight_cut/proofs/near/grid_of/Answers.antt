use Rattle.std.proofs.Common.{◌++◌, ◌∙◌, ap, arith}
use Rattle.scene_parts.specs.Parts.{sides_of}
use Rattle.part_grid.specs.Numbered.{numbered_sides}
use Rattle.sight_cut.proofs.Nearby.{obstacle-numbered}
use Rattle.sight_cut.proofs.near.grid_of.Goals as goal

pub loop-obstacle-preserved : goal.loop-obstacle-preserved
loop-obstacle-preserved c =
    let o = c.obstacle-item.result in
    let numbered = ap (λ n. c.loop-obstacle.owned.items ++ numbered_sides (n, sides_of o)) c.loop-obstacle.invariant.1 in (
      obstacle-numbered c.args.obstacles.now c.loop-obstacle.obstacle-index o _ _ _ c.loop-obstacle-test.true c.obstacle-item.is
          (c.in_ok-add_sides.ensures ∙ numbered) c.loop-obstacle.invariant.0,
      omega (arith, c.loop-obstacle.invariant.1),
    )

pub overflow_add-number : goal.overflow_add-number
overflow_add-number c = omega (arith, c.loop-obstacle.invariant.1, c.loop-obstacle-test.true, c.requires.few)
