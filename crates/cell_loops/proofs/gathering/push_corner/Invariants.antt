-- The edges among the steps so far are added.
use Rattle.std.proofs.Common.{◌≡◌, ◌++◌, take, filter}
use Rattle.cell_loops.specs.Boundary.{bounds, steps_at}
use Rattle.cell_loops.proofs.gathering.push_corner.Given as goal

abbrev pub invariant-loop-way : goal.invariant-loop-way
invariant-loop-way l =
    l.edges.items ≡ l.initial.edges.items ++ filter (bounds l.region) (take l.way-index (steps_at l.y l.x))
