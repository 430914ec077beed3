-- What is found so far, and the marked ones of the sides that are left, are all; the next of these is marked.
use Rattle.std.proofs.Common.{◌≡◌, ◌++◌, ◌-◌, ◌≤◌, ◌<◌, true, false, drop, length, get_or}
use Rattle.std.specs.List.{items_where_true}
use Rattle.part_grid.proofs.found.gather.Given as goal

abbrev pub invariant-loop-number : goal.invariant-loop-number
invariant-loop-number l = record {
  within : l.number ≤ length l.sides;
  marked : l.number < length l.sides → get_or l.marks l.number false ≡ true;
  found : l.found.items ++ items_where_true (drop l.number l.marks) (drop l.number l.sides)
      ≡ l.initial.found.items ++ items_where_true l.marks l.sides;
}

abbrev pub decreases-loop-number : goal.decreases-loop-number
decreases-loop-number l = length l.sides - l.number
