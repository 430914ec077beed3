use Rattle.std.proofs.Common.{ap, sym, refl, ◌∙◌, arith, List, map}
use Rattle.std.specs.Prelude.{filter, flat_map}
use Rattle.term_barrier.specs.declared.single.SingleDiffraction.{SingleDiffraction}
use Rattle.term_barrier.specs.Screening.{both_ways}
use Rattle.term_barrier.specs.inner.Prepared.{greatest_from, joint_value, single_is_above}
use Rattle.term_barrier.proofs.Loops.{drop-item, kept-both, left-both, same-step, marked-kept, marked-left, marked-end}
use Rattle.term_barrier.proofs.screens.edges.best_with.Goals.{then-is_marked+then-second, else-is_marked, else-is_marked-via-then-is_marked+else-second, else-is_marked-via-else-is_marked}
use Rattle.term_barrier.proofs.screens.edges.best_with.Goals as goal

pub loop-j-preserved : goal.loop-j-preserved
loop-j-preserved c =
    let marks = c.args.marks.now in
    let singles = c.args.singles.now in
    let j = c.loop-j.j in
    let first = c.args.first.now in
    let second = c.index-singles-j.result in
    let value = joint_value c.args.path.now c.args.d c.args.band in
    let here = drop-item singles j second c.loop-j-test.true c.index-singles-j.is in
    elim c.if-is_marked.branch [
      | then-is_marked+then-second w ↦
          kept-both value single_is_above first second _ _ c.loop-j.best _ _
          (marked-kept marks singles j second here (sym c.is_marked.ensures ∙ w.if-is_marked.true)) w.if-second.true
          (rw (w.best-is, w.max_with-best.ensures, w.max_with.ensures, w.attenuation_of-there.ensures, w.attenuation_of-back.ensures) refl) c.loop-j.invariant
      | else-is_marked w ↦
          elim w.else-is_marked.branch [
            | else-is_marked-via-then-is_marked+else-second v ↦
                left-both value single_is_above first second _ _ c.loop-j.best _ _
                (marked-kept marks singles j second here (sym c.is_marked.ensures ∙ v.if-is_marked.true)) v.if-second.false w.best-is c.loop-j.invariant
            | else-is_marked-via-else-is_marked v ↦
                same-step (λ (singles : List SingleDiffraction). map value (flat_map (both_ways first) (filter single_is_above singles))) _ _ c.loop-j.best _ _
                (marked-left marks singles j second here (sym c.is_marked.ensures ∙ v.if-is_marked.false)) w.best-is c.loop-j.invariant
          ]
    ]

pub returns : goal.returns
returns c =
    let value = joint_value c.args.path.now c.args.d c.args.band in
    sym (ap (λ (singles : List SingleDiffraction). greatest_from c.loop-j.best (map value (flat_map (both_ways c.args.first.now) (filter single_is_above singles))))
    (marked-end c.args.marks.now c.args.singles.now c.loop-j.j (omega (arith, c.loop-j-test.false))))
    ∙ c.loop-j.invariant
