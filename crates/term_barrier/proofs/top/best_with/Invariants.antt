-- The greatest so far and of the edges behind is that of all.
use Rattle.std.proofs.Common.{◌≡◌, map, drop}
use Rattle.std.specs.Prelude.{flat_map}
use Rattle.term_barrier.specs.Screening.{edges_above, both_ways}
use Rattle.term_barrier.specs.inner.Prepared.{greatest_from, both_value}
use Rattle.term_barrier.proofs.top.best_with.Given as goal

abbrev pub invariant-loop-other : goal.invariant-loop-other
invariant-loop-other l =
    greatest_from l.best (map (both_value l.path l.d l.band) (flat_map (both_ways l.edge.edge) (edges_above (drop l.other-index l.others))))
    ≡ greatest_from l.initial.best (map (both_value l.path l.d l.band) (flat_map (both_ways l.edge.edge) (edges_above l.others)))
