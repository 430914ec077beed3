-- The edges of the rows so far are there.
use Rattle.std.proofs.Common.{◌≡◌, ◌+◌, ◌++◌, filter}
use Rattle.std.specs.List.{flat_map, range_with_len}
use Rattle.cell_loops.specs.Boundary.{bounds, steps_along}
use Rattle.cell_loops.proofs.gathering.boundary.Given as goal

abbrev pub invariant-loop-y : goal.invariant-loop-y
invariant-loop-y l =
    (l.edges.items ≡ filter (bounds l.region) (flat_map (steps_along l.region) (range_with_len 0 l.y)))
    × (l.y-end ≡ l.region.rows + 1)
