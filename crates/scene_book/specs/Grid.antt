-- Grids of receivers.
use Rattle.std.specs.Prelude.{ℕ, zero, suc, ◌*◌, pos, ◌+ℤ◌, List, [], ◌∷◌, ◌++◌}
use Rattle.std.specs.Fmt.{decimal}
use Rattle.scene_geom.specs.Point.{point_at}
use Rattle.scene_parts.specs.Parts.{Receiver, Grid}

-- a name, a column and a row, with `/` between them
abbrev pub name_in : List ℕ → ℕ → ℕ → List ℕ
name_in name row column = name ++ 47 ∷ [] ++ decimal column ++ 47 ∷ [] ++ decimal row

-- the receiver of a row and a column, both from 0
abbrev pub receiver_at : Grid → ℕ → ℕ → Receiver
receiver_at grid row column = record {
  name = name_in grid.name row column;
  at = point_at (grid.at.x +ℤ pos (grid.step * column)) (grid.at.y +ℤ pos (grid.step * row));
  h = grid.h;
}

-- the receivers of a row in so many columns from one on
abbrev pub columns_from : Grid → ℕ → ℕ → ℕ → List Receiver
columns_from grid row column zero = []
columns_from grid row column (suc count) = receiver_at grid row column ∷ columns_from grid row (suc column) count

-- the receivers of so many rows from one on, row by row
abbrev pub rows_from : Grid → ℕ → ℕ → List Receiver
rows_from grid row zero = []
rows_from grid row (suc count) = columns_from grid row 0 grid.columns ++ rows_from grid (suc row) count

-- the receivers of a grid
abbrev pub receivers_of : Grid → List Receiver
receivers_of grid = rows_from grid 0 grid.rows
