-- The greatest so far and of the pairs behind is that of all.
use Rattle.std.proofs.Common.{◌≡◌, map}
use Rattle.term_barrier.specs.Screening.{pairs_of}
use Rattle.term_barrier.specs.inner.Prepared.{greatest_from, joint_value, rising_from}
use Rattle.term_barrier.proofs.screens.edges.best_pair.Given as goal

abbrev pub invariant-loop-i : goal.invariant-loop-i
invariant-loop-i l =
    greatest_from l.best (map (joint_value l.path l.d l.band) (pairs_of (rising_from l.i l.marks l.singles)))
    ≡ greatest_from l.initial.best (map (joint_value l.path l.d l.band) (pairs_of (rising_from 0 l.marks l.singles)))
