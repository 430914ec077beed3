-- The sides that the way meets in the columns so far are marked, and the row is that in which the way left the last one.
use Rattle.std.proofs.Common.{◌≡◌, ℕ, ◌-◌, ◌≤◌, ◌<◌, false, length, get_or}
use Rattle.std.specs.Prelude.{IfSome}
use Rattle.std.specs.List.{list_any, range_with_len}
use Rattle.part_grid.specs.declared.owned.Owned.{Owned}
use Rattle.part_grid.specs.Cells.{covers}
use Rattle.part_grid.specs.Ways.{rows_in, row_into}
use Rattle.part_grid.proofs.grid.Grid.mark_way.Given as goal

abbrev pub invariant-loop-column : goal.invariant-loop-column
invariant-loop-column l = record {
  count : l.column - l.initial.column ≤ l.column-end - l.initial.column;
  entered : IfSome l.entered (λ row. row ≡ row_into l.from l.dir l.all l.column);
  size : length l.marks ≡ length l.self-inside.sides.items;
  marks : (k : ℕ) (d : Owned) → k < length l.self-inside.sides.items
      → get_or l.marks k false ≡ list_any (λ column. covers (get_or l.self-inside.sides.items k d).side column (rows_in l.from l.dir l.all column)) (range_with_len l.initial.column (l.column - l.initial.column));
}
