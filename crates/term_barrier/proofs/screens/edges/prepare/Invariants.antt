-- The edges so far.
use Rattle.std.proofs.Common.{◌≡◌, take}
use Rattle.std.specs.List.{All}
use Rattle.term_barrier.specs.Screening.{edges_in}
use Rattle.term_barrier.specs.inner.Prepared.{IsSingle}
use Rattle.term_barrier.proofs.screens.edges.prepare.Given as goal

abbrev pub invariant-loop-edge : goal.invariant-loop-edge
invariant-loop-edge l =
    (edges_in l.singles.items ≡ take l.edge-index l.edges) × All (IsSingle l.path l.d) l.singles.items
