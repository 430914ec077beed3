use Rattle.std.proofs.Common.{ap, sym, refl, ◌∙◌, arith, List, map}
use Rattle.std.specs.Prelude.{filter}
use Rattle.term_barrier.specs.declared.single.SingleDiffraction.{SingleDiffraction}
use Rattle.term_barrier.specs.inner.Prepared.{greatest_from, known_single, single_is_above}
use Rattle.term_barrier.proofs.Loops.{drop-item, kept-step, left-step, same-step, marked-kept, marked-left, marked-end}
use Rattle.term_barrier.proofs.screens.edges.best_alone.Goals.{then-is_marked+then-single, else-is_marked, else-is_marked-via-then-is_marked+else-single, else-is_marked-via-else-is_marked}
use Rattle.term_barrier.proofs.screens.edges.best_alone.Goals as goal

pub loop-i-preserved : goal.loop-i-preserved
loop-i-preserved c =
    let marks = c.args.marks.now in
    let singles = c.args.singles.now in
    let i = c.loop-i.i in
    let single = c.index-singles-i.result in
    let band = c.args.band in
    let here = drop-item singles i single c.loop-i-test.true c.index-singles-i.is in
    elim c.if-is_marked.branch [
      | then-is_marked+then-single w ↦
          kept-step (known_single band) single_is_above single _ _ c.loop-i.best _ _
          (marked-kept marks singles i single here (sym c.is_marked.ensures ∙ w.if-is_marked.true)) w.if-single.true
          (rw (w.best-is, w.max_with-best.ensures, w.single_attenuation.ensures, w.argument.ensures) refl) c.loop-i.invariant
      | else-is_marked w ↦
          elim w.else-is_marked.branch [
            | else-is_marked-via-then-is_marked+else-single v ↦
                left-step (known_single band) single_is_above single _ _ c.loop-i.best _ _
                (marked-kept marks singles i single here (sym c.is_marked.ensures ∙ v.if-is_marked.true)) v.if-single.false w.best-is c.loop-i.invariant
            | else-is_marked-via-else-is_marked v ↦
                same-step (λ (singles : List SingleDiffraction). map (known_single band) (filter single_is_above singles)) _ _ c.loop-i.best _ _
                (marked-left marks singles i single here (sym c.is_marked.ensures ∙ v.if-is_marked.false)) w.best-is c.loop-i.invariant
          ]
    ]

pub returns : goal.returns
returns c =
    sym (ap (λ (singles : List SingleDiffraction). greatest_from c.loop-i.best (map (known_single c.args.band) (filter single_is_above singles)))
    (marked-end c.args.marks.now c.args.singles.now c.loop-i.i (omega (arith, c.loop-i-test.false))))
    ∙ c.loop-i.invariant
