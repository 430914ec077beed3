-- What is entered in the cells so far is marked.
use Rattle.std.proofs.Common.{◌≡◌, ℕ, ◌-◌, ◌≤◌, ◌<◌, false, length, get_or}
use Rattle.std.specs.Prelude.{◌||◌}
use Rattle.std.specs.List.{list_any, range_with_len}
use Rattle.part_grid.specs.inner.Index.{entered}
use Rattle.part_grid.proofs.numbers.marking.mark_column.Given as goal

abbrev pub invariant-loop-row : goal.invariant-loop-row
invariant-loop-row l = record {
  count : l.row - l.initial.row ≤ l.row-end - l.initial.row;
  size : length l.marks ≡ length l.initial.marks;
  marks : (i : ℕ) → i < length l.initial.marks
      → get_or l.marks i false
      ≡ (get_or l.initial.marks i false || list_any (λ row. entered l.register l.frame l.column row i) (range_with_len l.initial.row (l.row - l.initial.row)));
}
