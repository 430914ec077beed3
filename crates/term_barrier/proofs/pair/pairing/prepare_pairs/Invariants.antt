-- What was added and the pairs behind are all pairs.
use Rattle.std.proofs.Common.{[], drop}
use Rattle.term_barrier.specs.Screening.{pairs_of, edges_in}
use Rattle.term_barrier.specs.inner.Prepared.{risen}
use Rattle.term_barrier.proofs.Joining.{Remains}
use Rattle.term_barrier.proofs.pair.pairing.prepare_pairs.Given as goal

abbrev pub invariant-loop-i : goal.invariant-loop-i
invariant-loop-i l =
    Remains l.path l.d l.pairs.items (pairs_of (risen l.i (edges_in (drop l.i l.singles)))) [] (pairs_of (risen 0 (edges_in l.singles)))
