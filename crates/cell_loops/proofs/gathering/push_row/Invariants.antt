-- The edges of the corners so far are added.
use Rattle.std.proofs.Common.{◌≡◌, ◌+◌, ◌++◌, filter}
use Rattle.std.specs.List.{flat_map, range_with_len}
use Rattle.cell_loops.specs.Boundary.{bounds, steps_at}
use Rattle.cell_loops.proofs.gathering.push_row.Given as goal

abbrev pub invariant-loop-x : goal.invariant-loop-x
invariant-loop-x l =
    (l.edges.items ≡ l.initial.edges.items ++ filter (bounds l.region) (flat_map (steps_at l.y) (range_with_len 0 l.x)))
    × (l.x-end ≡ l.region.columns + 1)
