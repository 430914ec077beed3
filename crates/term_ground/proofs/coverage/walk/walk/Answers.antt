use Rattle.std.proofs.Common.{◌≡◌, arith, rules, ◌∷◌}
use Rattle.scene_geom.proofs.OutlineLemmas.{sides-step, sides-last}
use Rattle.scene_geom.specs.Direction.{direct}
use Rattle.path_shape.proofs.Folding.{folds-next}
use Rattle.term_ground.proofs.Windings.{walk-is, last-added}
use Rattle.term_ground.proofs.coverage.walk.walk.Goals as goal

pub loop-next-init : goal.loop-next-init
loop-next-init c =
    let none = c.none-crossed in
    let outline : c.args.outline.now ≡ c.in-Some.first.now ∷ c.in-Some.rest.now = search rules in (
      c.leaves_left-first_left.ensures,
      λ last folds.
          walk-is c.args.line.now c.args.outline.now none.result last none.ensures.between none.ensures.winding none.ensures.lengths (rw outline folds),
    )

pub loop-next-preserved : goal.loop-next-preserved
loop-next-preserved c =
    let line = c.args.line.now in
    let step = sides-step c.in-Some.first.now c.loop-next.corner c.next-item.result c.in-Some.rest.now c.loop-next.next-index c.next-item.is (omega arith) in
    (c.leaves_left-next_left.ensures, λ last h. c.loop-next.invariant.1 last (folds-next _ _ _ _ line.s (direct line.s line.r) _ _ last step c.in_ok-crossed.ensures h))

pub returns : goal.returns
returns c =
    let last = sides-last c.in-Some.first.now c.loop-next.corner c.in-Some.rest.now c.loop-next.next-index c.loop-next-test.false in
    last-added c.args.line.now c.args.outline.now c.loop-next.crossed _ _ c.at_side-2.result last c.at_side-2.ensures c.loop-next.invariant.1
