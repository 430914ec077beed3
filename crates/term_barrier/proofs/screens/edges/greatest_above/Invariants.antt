-- The greatest so far decides, with the edges behind.
use Rattle.std.proofs.Common.{map, drop}
use Rattle.std.specs.Prelude.{filter}
use Rattle.term_barrier.specs.Diffraction.{single_limit}
use Rattle.term_barrier.specs.Screening.{marked}
use Rattle.term_barrier.specs.inner.Prepared.{best_alone, known_single, single_is_above}
use Rattle.term_barrier.proofs.Deciding.{Deciding}
use Rattle.term_barrier.proofs.screens.edges.greatest_above.Given as goal

abbrev pub invariant-loop-i : goal.invariant-loop-i
invariant-loop-i l =
    Deciding single_limit l.best (map (known_single l.band) (filter single_is_above (marked (drop l.i l.marks) (drop l.i l.singles))))
    (best_alone l.band l.marks l.singles)
