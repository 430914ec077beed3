-- The number is entered in the columns so far.
use Rattle.std.proofs.Common.{◌≡◌, ℕ, ◌-◌, ◌≤◌, true, length}
use Rattle.std.specs.Prelude.{◌||◌, ◌&&◌, ◌==◌}
use Rattle.part_grid.specs.Span.{has}
use Rattle.part_grid.specs.inner.Index.{cells_of, entered}
use Rattle.part_grid.proofs.Entries.{is_done}
use Rattle.part_grid.proofs.cells.entering.enter_side.Given as goal

abbrev pub invariant-loop-column : goal.invariant-loop-column
invariant-loop-column l = record {
  count : l.column - l.initial.column ≤ l.column-end - l.initial.column;
  cells : length l.register ≡ cells_of l.frame;
  numbers : (column row k : ℕ) → has l.frame.columns column ≡ true → has l.frame.rows row ≡ true
      → entered l.register l.frame column row k
      ≡ (entered l.initial.register l.frame column row k || ((l.number == k) && (is_done l.initial.column l.column column && has l.rows row)));
}
