-- What is marked, and the numbers that are left, are what was marked and all numbers.
use Rattle.std.proofs.Common.{◌≡◌, ℕ, ◌<◌, ◌≤◌, ◌||◌, ◌==◌, false, length, get_or}
use Rattle.std.specs.List.{list_any}
use Rattle.part_grid.specs.inner.Register.{numbers_from}
use Rattle.part_grid.proofs.numbers.register.Register.mark.Given as goal

abbrev pub invariant-loop-place : goal.invariant-loop-place
invariant-loop-place l = record {
  within : l.place ≤ length l.self-inside.entries.items;
  count : length l.marks ≡ length l.initial.marks;
  marks : (i : ℕ) → i < length l.initial.marks
      → (get_or l.marks i false || list_any (λ n. n == i) (numbers_from (length l.self-inside.entries.items) l.self-inside.entries.items l.place))
      ≡ (get_or l.initial.marks i false || list_any (λ n. n == i) (numbers_from (length l.self-inside.entries.items) l.self-inside.entries.items l.initial.place));
}

abbrev pub decreases-loop-place : goal.decreases-loop-place
decreases-loop-place l = l.place
