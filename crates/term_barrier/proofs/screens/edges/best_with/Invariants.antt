-- The greatest so far and of the pairs behind is that of all.
use Rattle.std.proofs.Common.{◌≡◌, ◌+◌, map}
use Rattle.std.specs.Prelude.{flat_map}
use Rattle.term_barrier.specs.Screening.{both_ways}
use Rattle.term_barrier.specs.inner.Prepared.{greatest_from, joint_value, rising_from}
use Rattle.term_barrier.proofs.screens.edges.best_with.Given as goal

abbrev pub invariant-loop-j : goal.invariant-loop-j
invariant-loop-j l =
    greatest_from l.best (map (joint_value l.path l.d l.band) (flat_map (both_ways l.first) (rising_from l.j l.marks l.singles)))
    ≡ greatest_from l.initial.best (map (joint_value l.path l.d l.band) (flat_map (both_ways l.first) (rising_from (l.i + 1) l.marks l.singles)))
