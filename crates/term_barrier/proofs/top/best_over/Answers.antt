use Rattle.std.proofs.Common.{refl}
use Rattle.std.proofs.lemmas.List.Elements.{All-rest}
use Rattle.term_barrier.specs.Edges.{FitsEdge}
use Rattle.term_barrier.specs.Screening.{is_above}
use Rattle.term_barrier.specs.inner.Prepared.{both_value}
use Rattle.term_barrier.proofs.Loops.{kept-pairs, left-pairs}
use Rattle.term_barrier.proofs.top.best_over.Goals as goal

pub loop-first-preserved-then-first : goal.loop-first-preserved-then-first
loop-first-preserved-then-first c =
    let first = c.in-Some.first.now in (
      kept-pairs (both_value c.args.path.now c.args.d c.args.band) is_above first _ _ c.loop-first.best _ _ c.in-Some.ensures.cases.0 c.if-first.true
          (rw c.of.ensures at c.best_with-best.ensures) c.loop-first.invariant.0,
      All-rest FitsEdge first _ _ c.in-Some.ensures.cases.0 c.loop-first.invariant.1,
    )

pub loop-first-preserved : goal.loop-first-preserved
loop-first-preserved c =
    let first = c.in-Some.first.now in (
      left-pairs (both_value c.args.path.now c.args.d c.args.band) is_above first _ _ c.loop-first.best _ _ c.in-Some.ensures.cases.0 c.if-first.false
          refl c.loop-first.invariant.0,
      All-rest FitsEdge first _ _ c.in-Some.ensures.cases.0 c.loop-first.invariant.1,
    )
