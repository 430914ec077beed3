use Rattle.std.proofs.Common.{arith, refl}
use Rattle.scene_geom.proofs.OutlineLemmas.{sides-step, sides-last}
use Rattle.path_shape.proofs.Folding.{folds-next}
use Rattle.path_shape.proofs.outline.fold_passages.Goals as goal

pub loop-next-preserved : goal.loop-next-preserved
loop-next-preserved g c =
    let step = sides-step c.in-Some.first.now c.loop-next.corner c.next-item.result c.in-Some.rest.now c.loop-next.next-index c.next-item.is (omega arith) in
    (c.loop-next.invariant.0, λ last h. c.loop-next.invariant.1 last (folds-next _ _ _ _ c.args.from c.args.dir _ _ last step c.at_side-value.ensures h))

pub returns : goal.returns
returns g c =
    let last = sides-last c.in-Some.first.now c.loop-next.corner c.in-Some.rest.now c.loop-next.next-index c.loop-next-test.false in
    c.loop-next.invariant.1 c.at_side.result (folds-next _ _ _ _ c.args.from c.args.dir _ _ _ last c.at_side.ensures refl)
