-- The greatest so far and of the edges behind is that of all.
use Rattle.std.proofs.Common.{◌≡◌, map, drop}
use Rattle.std.specs.Prelude.{None, filter}
use Rattle.term_barrier.specs.Screening.{marked}
use Rattle.term_barrier.specs.inner.Prepared.{greatest_from, known_single, single_is_above}
use Rattle.term_barrier.proofs.screens.edges.best_alone.Given as goal

abbrev pub invariant-loop-i : goal.invariant-loop-i
invariant-loop-i l =
    greatest_from l.best (map (known_single l.band) (filter single_is_above (marked (drop l.i l.marks) (drop l.i l.singles))))
    ≡ greatest_from None (map (known_single l.band) (filter single_is_above (marked l.marks l.singles)))
