use Rattle.std.proofs.Common.{◌≡◌, ◌-◌, ◌++◌}
use Rattle.scene_book.specs.Grid.{rows_from}
use Rattle.scene_book.proofs.grids.receivers.Given as goal

abbrev pub invariant-loop-row : goal.invariant-loop-row
invariant-loop-row l = record {
  so_far : l.receivers.items ++ rows_from l.grid l.row (l.grid.rows - l.row) ≡ rows_from l.grid 0 l.grid.rows;
  all : l.row-end ≡ l.grid.rows;
}
