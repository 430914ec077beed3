-- The edges of the crossings so far.
use Rattle.std.proofs.Common.{◌≡◌, map, take}
use Rattle.scene_parts.specs.declared.screening.crossing.Crossing.{Crossing}
use Rattle.path_calc.proofs.direct.screening.list_edges.Given as goal

abbrev pub invariant-loop-crossing : goal.invariant-loop-crossing
invariant-loop-crossing l = l.edges.items ≡ map (λ (c : Crossing). c.edge) (take l.crossing-index l.crossings)
