-- The numbers of the sides so far are entered in their cells.
use Rattle.std.proofs.Common.{◌≡◌, ℕ, ◌<◌, true, length, get_or}
use Rattle.std.specs.Prelude.{◌&&◌, nat_lt}
use Rattle.part_grid.specs.declared.owned.Owned.{Owned}
use Rattle.part_grid.specs.Span.{has}
use Rattle.part_grid.specs.inner.Index.{cells_of, entered, has_cell}
use Rattle.part_grid.proofs.cells.entering.entered.Given as goal

abbrev pub invariant-loop-number : goal.invariant-loop-number
invariant-loop-number l = record {
  cells : length l.register ≡ cells_of l.frame;
  numbers : (column row k : ℕ) (d : Owned) → has l.frame.columns column ≡ true → has l.frame.rows row ≡ true → k < length l.sides
      → entered l.register l.frame column row k ≡ (nat_lt k l.number && has_cell (get_or l.sides k d).side column row);
}
