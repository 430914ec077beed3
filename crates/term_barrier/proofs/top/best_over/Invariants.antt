-- The greatest so far and of the pairs among the edges behind is that of all.
use Rattle.std.proofs.Common.{◌≡◌, map, length}
use Rattle.std.specs.List.{All}
use Rattle.std.specs.Prelude.{None}
use Rattle.term_barrier.specs.Edges.{FitsEdge}
use Rattle.term_barrier.specs.Screening.{edges_above, pairs_of}
use Rattle.term_barrier.specs.inner.Prepared.{greatest_from, single_value, both_value}
use Rattle.term_barrier.proofs.top.best_over.Given as goal

abbrev pub invariant-loop-first : goal.invariant-loop-first
invariant-loop-first l =
    (greatest_from l.best (map (both_value l.path l.d l.band) (pairs_of (edges_above l.edges)))
    ≡ greatest_from
    (greatest_from None (map (single_value l.path l.d l.band) (edges_above l.fn.edges)))
    (map (both_value l.path l.d l.band) (pairs_of (edges_above l.fn.edges))))
    × All FitsEdge l.edges

abbrev pub decreases-loop-first : goal.decreases-loop-first
decreases-loop-first l = length l.edges
