use Rattle.std.proofs.Common.{ap, sym, ◌∙◌, arith, List, map}
use Rattle.std.specs.Prelude.{filter}
use Rattle.term_barrier.specs.declared.single.SingleDiffraction.{SingleDiffraction}
use Rattle.term_barrier.specs.Screening.{pairs_of}
use Rattle.term_barrier.specs.inner.Prepared.{greatest_from, joint_value, single_is_above}
use Rattle.term_barrier.proofs.Loops.{drop-item, kept-pairs, left-pairs, same-step, marked-kept, marked-left, marked-end}
use Rattle.term_barrier.proofs.screens.edges.best_pair.Goals.{then-is_marked+then-single, else-is_marked, else-is_marked-via-then-is_marked+else-single, else-is_marked-via-else-is_marked}
use Rattle.term_barrier.proofs.screens.edges.best_pair.Goals as goal

pub loop-i-preserved : goal.loop-i-preserved
loop-i-preserved c =
    let marks = c.args.marks.now in
    let singles = c.args.singles.now in
    let i = c.loop-i.i in
    let single = c.index-singles-i.result in
    let value = joint_value c.args.path.now c.args.d c.args.band in
    let here = drop-item singles i single c.loop-i-test.true c.index-singles-i.is in
    elim c.if-is_marked.branch [
      | then-is_marked+then-single w ↦
          kept-pairs value single_is_above single _ _ c.loop-i.best _ _
          (marked-kept marks singles i single here (sym c.is_marked.ensures ∙ w.if-is_marked.true)) w.if-single.true
          (rw w.best-is w.best_with-best.ensures) c.loop-i.invariant
      | else-is_marked w ↦
          elim w.else-is_marked.branch [
            | else-is_marked-via-then-is_marked+else-single v ↦
                left-pairs value single_is_above single _ _ c.loop-i.best _ _
                (marked-kept marks singles i single here (sym c.is_marked.ensures ∙ v.if-is_marked.true)) v.if-single.false w.best-is c.loop-i.invariant
            | else-is_marked-via-else-is_marked v ↦
                same-step (λ (singles : List SingleDiffraction). map value (pairs_of (filter single_is_above singles))) _ _ c.loop-i.best _ _
                (marked-left marks singles i single here (sym c.is_marked.ensures ∙ v.if-is_marked.false)) w.best-is c.loop-i.invariant
          ]
    ]

pub returns : goal.returns
returns c =
    let value = joint_value c.args.path.now c.args.d c.args.band in
    sym (ap (λ (singles : List SingleDiffraction). greatest_from c.loop-i.best (map value (pairs_of (filter single_is_above singles))))
    (marked-end c.args.marks.now c.args.singles.now c.loop-i.i (omega (arith, c.loop-i-test.false))))
    ∙ c.loop-i.invariant
