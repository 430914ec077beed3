-- What was added and the pairs behind are all that is to be added.
use Rattle.std.proofs.Common.{◌+◌, drop}
use Rattle.std.specs.Prelude.{flat_map}
use Rattle.term_barrier.specs.Screening.{both_ways, edges_in}
use Rattle.term_barrier.specs.inner.Prepared.{risen}
use Rattle.term_barrier.proofs.Joining.{Remains}
use Rattle.term_barrier.proofs.pair.pairing.add_pairs.Given as goal

abbrev pub invariant-loop-j : goal.invariant-loop-j
invariant-loop-j l =
    Remains l.path l.d
    l.pairs.items
    (flat_map (both_ways (l.i, l.first.edge)) (risen l.j (edges_in (drop l.j l.singles))))
    l.initial.pairs.items
    (flat_map (both_ways (l.i, l.first.edge)) (risen (l.i + 1) (edges_in (drop (l.i + 1) l.singles))))
