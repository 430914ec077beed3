use Rattle.std.proofs.Common.{◌≡◌, ◌-◌, ◌++◌}
use Rattle.scene_book.specs.Grid.{columns_from}
use Rattle.scene_book.proofs.grids.add_row.Given as goal

abbrev pub invariant-loop-column : goal.invariant-loop-column
invariant-loop-column l = record {
  so_far : l.receivers.items ++ columns_from l.grid l.row l.column (l.grid.columns - l.column) ≡ l.initial.receivers.items ++ columns_from l.grid l.row 0 l.grid.columns;
  all : l.column-end ≡ l.grid.columns;
}
