use Rattle.std.proofs.Common.{◌≡◌, ◌∙◌, sym, arith, rules, true, false, Some}
use Rattle.std.specs.Prelude.{◌&&◌}
use Rattle.fix_interval.specs.Interval.{IsInterval}
use Rattle.term_barrier.specs.Diffraction.{double_limit}
use Rattle.term_barrier.specs.inner.Prepared.{is_marked, edge_pair_value, Passes}
use Rattle.term_barrier.proofs.Loops.{drop-item}
use Rattle.term_barrier.proofs.Deciding.{deciding-more, deciding-passed}
use Rattle.term_barrier.proofs.screens.edges.greatest_with_pairs.Goals.{then-not-is_passed+then-are_marked, else-not-is_passed, else-not-is_passed-via-then-not-is_passed+else-are_marked, else-not-is_passed-via-else-not-is_passed}
use Rattle.term_barrier.proofs.screens.edges.greatest_with_pairs.Goals as goal

pub loop-pair-preserved : goal.loop-pair-preserved
loop-pair-preserved c =
    let marks = c.args.marks.now in
    let pair = c.pair-item.result in
    let here = drop-item c.args.pairs.now c.loop-pair.pair-index pair c.loop-pair-test.true c.pair-item.is in
    elim c.if-not-is_passed.branch [
      | then-not-is_passed+then-are_marked w ↦
          let both : (is_marked marks pair.first && is_marked marks pair.second) ≡ true = sym w.are_marked.ensures ∙ w.if-are_marked.true in
          let interval : IsInterval w.argument.result = search rules in
          rw (w.best-is, w.max-best.ensures)
          (deciding-more double_limit w.argument.result _ (Some c.loop-pair.best) _ (omega arith) interval
          (rw (here, both, w.argument.ensures) at c.loop-pair.invariant))
      | else-not-is_passed w ↦
          elim w.else-not-is_passed.branch [
            | else-not-is_passed-via-then-not-is_passed+else-are_marked v ↦
                let one : (is_marked marks pair.first && is_marked marks pair.second) ≡ false = sym v.are_marked.ensures ∙ v.if-are_marked.false in
                rw w.best-is (rw (here, one) at c.loop-pair.invariant)
            | else-not-is_passed-via-else-not-is_passed v ↦
                let passes : Passes c.loop-pair.best c.args.band pair.diffraction = search rules in
                rw w.best-is
                (deciding-passed marks (edge_pair_value c.args.band pair) _ c.loop-pair.best passes.number _ passes.interval passes.decides passes.lesser
                (rw here at c.loop-pair.invariant))
          ]
    ]
