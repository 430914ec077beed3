use Rattle.std.proofs.Common.{ap}
use Rattle.term_barrier.specs.Screening.{is_above}
use Rattle.term_barrier.specs.inner.Prepared.{max_with_of, single_value}
use Rattle.term_barrier.proofs.Loops.{drop-item, kept-step, left-step}
use Rattle.term_barrier.proofs.Marked.{single-known}
use Rattle.term_barrier.proofs.top.best_alone.Goals.{then-edge, else-edge}
use Rattle.term_barrier.proofs.top.best_alone.Goals as goal

pub loop-edge-preserved : goal.loop-edge-preserved
loop-edge-preserved c =
    let edge = c.edge-item.result in
    let value = single_value c.args.path.now c.args.d c.args.band in
    let here = drop-item c.args.edges.now c.loop-edge.edge-index edge c.loop-edge-test.true c.edge-item.is in
    elim c.if-edge.branch [
      | then-edge w ↦ kept-step value is_above edge _ _ c.loop-edge.best _ _ here w.if-edge.true
          (rw (w.best-is, w.max_with-best.ensures, w.single_attenuation.ensures, w.argument-b.ensures, w.of.ensures)
          (ap (max_with_of c.loop-edge.best) (single-known c.args.path.now c.args.d c.args.band edge)))
          c.loop-edge.invariant
      | else-edge w ↦ left-step value is_above edge _ _ c.loop-edge.best _ _ here w.if-edge.false w.best-is c.loop-edge.invariant
    ]
