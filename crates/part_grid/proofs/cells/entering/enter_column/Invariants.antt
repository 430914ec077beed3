-- The number is entered in the rows so far.
use Rattle.std.proofs.Common.{◌≡◌, ℕ, ◌-◌, ◌≤◌, true, length}
use Rattle.std.specs.Prelude.{◌||◌, ◌&&◌, ◌==◌}
use Rattle.part_grid.specs.Span.{has}
use Rattle.part_grid.specs.inner.Index.{cells_of, entered}
use Rattle.part_grid.proofs.Entries.{is_done}
use Rattle.part_grid.proofs.cells.entering.enter_column.Given as goal

abbrev pub invariant-loop-row : goal.invariant-loop-row
invariant-loop-row l = record {
  count : l.row - l.initial.row ≤ l.row-end - l.initial.row;
  cells : length l.register ≡ cells_of l.frame;
  numbers : (other row k : ℕ) → has l.frame.columns other ≡ true → has l.frame.rows row ≡ true
      → entered l.register l.frame other row k
      ≡ (entered l.initial.register l.frame other row k || ((l.number == k) && ((other == l.column) && is_done l.initial.row l.row row)));
}
