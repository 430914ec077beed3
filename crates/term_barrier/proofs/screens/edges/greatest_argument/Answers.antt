use Rattle.std.proofs.Common.{ap, sym, refl, ◌∙◌, arith, List, map}
use Rattle.term_barrier.specs.declared.single.SingleDiffraction.{SingleDiffraction}
use Rattle.term_barrier.specs.inner.Prepared.{greatest_from, known_argument}
use Rattle.term_barrier.proofs.Loops.{drop-item, every-step, same-step, marked-kept, marked-left, marked-end}
use Rattle.term_barrier.proofs.screens.edges.greatest_argument.Goals.{then-is_marked, else-is_marked}
use Rattle.term_barrier.proofs.screens.edges.greatest_argument.Goals as goal

pub loop-i-preserved : goal.loop-i-preserved
loop-i-preserved c =
    let marks = c.args.marks.now in
    let singles = c.args.singles.now in
    let i = c.loop-i.i in
    let single = c.index-singles-i.result in
    let band = c.args.band in
    let here = drop-item singles i single c.loop-i-test.true c.index-singles-i.is in
    elim c.if-is_marked.branch [
      | then-is_marked w ↦
          every-step (known_argument band) single _ _ c.loop-i.best _ _
          (marked-kept marks singles i single here (sym c.is_marked.ensures ∙ w.if-is_marked.true))
          (rw (w.best-is, w.max_with-best.ensures, w.argument.ensures) refl) c.loop-i.invariant
      | else-is_marked w ↦
          same-step (map (known_argument band)) _ _ c.loop-i.best _ _
          (marked-left marks singles i single here (sym c.is_marked.ensures ∙ w.if-is_marked.false)) w.best-is c.loop-i.invariant
    ]

pub returns : goal.returns
returns c =
    sym (ap (λ (singles : List SingleDiffraction). greatest_from c.loop-i.best (map (known_argument c.args.band) singles))
    (marked-end c.args.marks.now c.args.singles.now c.loop-i.i (omega (arith, c.loop-i-test.false))))
    ∙ c.loop-i.invariant
