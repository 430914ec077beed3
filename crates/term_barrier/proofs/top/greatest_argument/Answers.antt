use Rattle.std.proofs.Common.{ap}
use Rattle.term_barrier.specs.inner.Prepared.{max_with_of, argument_value}
use Rattle.term_barrier.proofs.Loops.{drop-item, every-step}
use Rattle.term_barrier.proofs.Marked.{argument-known}
use Rattle.term_barrier.proofs.top.greatest_argument.Goals as goal

pub loop-edge-preserved : goal.loop-edge-preserved
loop-edge-preserved c =
    let edge = c.edge-item.result in
    let here = drop-item c.args.edges.now c.loop-edge.edge-index edge c.loop-edge-test.true c.edge-item.is in
    every-step (argument_value c.args.path.now c.args.d c.args.band) edge _ _ c.loop-edge.best _ _ here
    (rw (c.max_with-best.ensures, c.argument.ensures, c.of.ensures) (ap (max_with_of c.loop-edge.best) (argument-known c.args.path.now c.args.d c.args.band edge)))
    c.loop-edge.invariant
