-- The edges so far fit.
use Rattle.std.specs.List.{All}
use Rattle.term_barrier.specs.Edges.{FitsEdge}
use Rattle.term_tests.proofs.screening_terms.edges.Given as goal

abbrev pub invariant-loop-wall : goal.invariant-loop-wall
invariant-loop-wall l = All FitsEdge l.edges.items
