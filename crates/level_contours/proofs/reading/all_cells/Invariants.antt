-- The cells so far, and those of the rows behind, are all cells.
use Rattle.std.proofs.Common.{◌≡◌, ◌-◌, ◌++◌, map}
use Rattle.level_contours.specs.GridNames.{names_from, names_of}
use Rattle.level_contours.specs.inner.Filing.{cell_found}
use Rattle.level_contours.proofs.reading.all_cells.Given as goal

abbrev pub invariant-loop-row : goal.invariant-loop-row
invariant-loop-row l = record {
  so_far : l.cells.items ++ map (cell_found l.known.entries l.spec.level) (names_from l.spec l.row (l.spec.rows - l.row))
      ≡ map (cell_found l.known.entries l.spec.level) (names_of l.spec);
  all : l.row-end ≡ l.spec.rows;
}
