-- In no column so far do they share a row.
use Rattle.std.proofs.Common.{◌≡◌, ◌-◌, ◌≤◌, false}
use Rattle.std.specs.List.{list_any, range_with_len}
use Rattle.part_grid.specs.Cells.{covers, walk_rows}
use Rattle.part_grid.proofs.cells.walk.cells_meet.Given as goal

abbrev pub invariant-loop-column : goal.invariant-loop-column
invariant-loop-column l = record {
  count : l.column - l.initial.column ≤ l.column-end - l.initial.column;
  none : list_any (λ column. covers l.fn.side column (walk_rows l.p l.q column)) (range_with_len l.initial.column (l.column - l.initial.column)) ≡ false;
}
