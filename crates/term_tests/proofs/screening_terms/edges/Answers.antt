use Rattle.std.proofs.lemmas.List.Elements.{All-push, All-same}
use Rattle.term_barrier.specs.Edges.{FitsEdge}
use Rattle.term_tests.proofs.screening_terms.edges.Goals.{in-Some+in_ok-push, in_default}
use Rattle.term_tests.proofs.screening_terms.edges.Goals as goal

pub loop-wall-preserved : goal.loop-wall-preserved
loop-wall-preserved c =
    elim c.match-edge.branch [
      | in-Some+in_ok-push w ↦
          rw w.edges-is (All-same FitsEdge _ _ w.in_ok-push.ensures.items (All-push FitsEdge c.loop-wall.edges.items w.in-Some.edge c.loop-wall.invariant w.in-Some.ensures))
      | in_default w ↦ rw w.edges-is c.loop-wall.invariant
    ]
