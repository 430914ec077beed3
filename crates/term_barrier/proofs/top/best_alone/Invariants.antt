-- The greatest so far and of the edges behind is that of all.
use Rattle.std.proofs.Common.{◌≡◌, map, drop}
use Rattle.std.specs.Prelude.{None}
use Rattle.term_barrier.specs.Screening.{edges_above}
use Rattle.term_barrier.specs.inner.Prepared.{greatest_from, single_value}
use Rattle.term_barrier.proofs.top.best_alone.Given as goal

abbrev pub invariant-loop-edge : goal.invariant-loop-edge
invariant-loop-edge l =
    greatest_from l.best (map (single_value l.path l.d l.band) (edges_above (drop l.edge-index l.edges)))
    ≡ greatest_from None (map (single_value l.path l.d l.band) (edges_above l.edges))
