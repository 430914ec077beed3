use Rattle.std.proofs.Common.{sym, refl, ◌∙◌, arith, rules}
use Rattle.fix_interval.specs.Interval.{IsInterval}
use Rattle.term_barrier.specs.Diffraction.{single_limit}
use Rattle.term_barrier.specs.inner.Prepared.{known_single, single_is_above}
use Rattle.term_barrier.proofs.Loops.{drop-item, marked-kept, marked-left, marked-end}
use Rattle.term_barrier.proofs.Deciding.{deciding-kept, deciding-left, decided}
use Rattle.term_barrier.proofs.screens.edges.greatest_above.Goals.{then-is_marked+then-single, else-is_marked, else-is_marked-via-then-is_marked+else-single, else-is_marked-via-else-is_marked}
use Rattle.term_barrier.proofs.screens.edges.greatest_above.Goals as goal

pub loop-i-preserved : goal.loop-i-preserved
loop-i-preserved c =
    let marks = c.args.marks.now in
    let singles = c.args.singles.now in
    let i = c.loop-i.i in
    let single = c.index-singles-i.result in
    let band = c.args.band in
    let here = drop-item singles i single c.loop-i-test.true c.index-singles-i.is in
    elim c.if-is_marked.branch [
      | then-is_marked+then-single w ↦
          let interval : IsInterval w.argument.result = search rules in
          deciding-kept single_limit (known_single band) single_is_above single w.argument.result _ _ c.loop-i.best _ _ (omega arith)
          (marked-kept marks singles i single here (sym c.is_marked.ensures ∙ w.if-is_marked.true)) w.if-single.true
          (rw w.argument.ensures refl) interval (rw (w.best-is, w.max_with-best.ensures) refl) c.loop-i.invariant
      | else-is_marked w ↦
          elim w.else-is_marked.branch [
            | else-is_marked-via-then-is_marked+else-single v ↦
                deciding-left single_limit (known_single band) single_is_above single _ _ c.loop-i.best _ _
                (marked-kept marks singles i single here (sym c.is_marked.ensures ∙ v.if-is_marked.true)) v.if-single.false w.best-is c.loop-i.invariant
            | else-is_marked-via-else-is_marked v ↦
                rw (w.best-is, ← marked-left marks singles i single here (sym c.is_marked.ensures ∙ v.if-is_marked.false)) c.loop-i.invariant
          ]
    ]

pub returns : goal.returns
returns c =
    decided single_limit c.loop-i.best _
    (rw (marked-end c.args.marks.now c.args.singles.now c.loop-i.i (omega (arith, c.loop-i-test.false))) at c.loop-i.invariant)
