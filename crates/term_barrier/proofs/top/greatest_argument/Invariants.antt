-- The greatest so far and of the edges behind is that of all.
use Rattle.std.proofs.Common.{◌≡◌, map, drop}
use Rattle.std.specs.Prelude.{None}
use Rattle.term_barrier.specs.inner.Prepared.{greatest_from, argument_value}
use Rattle.term_barrier.proofs.top.greatest_argument.Given as goal

abbrev pub invariant-loop-edge : goal.invariant-loop-edge
invariant-loop-edge l =
    greatest_from l.best (map (argument_value l.path l.d l.band) (drop l.edge-index l.edges))
    ≡ greatest_from None (map (argument_value l.path l.d l.band) l.edges)
