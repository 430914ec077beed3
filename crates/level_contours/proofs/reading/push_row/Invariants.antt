-- The cells so far, and those behind, are all cells of the row.
use Rattle.std.proofs.Common.{◌≡◌, ◌-◌, ◌++◌, map}
use Rattle.level_contours.specs.GridNames.{names_along}
use Rattle.level_contours.specs.inner.Filing.{cell_found}
use Rattle.level_contours.proofs.reading.push_row.Given as goal

abbrev pub invariant-loop-column : goal.invariant-loop-column
invariant-loop-column l = record {
  so_far : l.cells.items ++ map (cell_found l.known.entries l.spec.level) (names_along l.spec.name l.row l.column (l.spec.columns - l.column))
      ≡ l.initial.cells.items ++ map (cell_found l.known.entries l.spec.level) (names_along l.spec.name l.row 0 l.spec.columns);
  all : l.column-end ≡ l.spec.columns;
}
