-- Sets of cells of a grid. Cell (c, r) has the corners (c, r) to (c + 1, r + 1). East is where x grows, north where y
-- does.
use Rattle.std.specs.Prelude.{ℕ, ◌+◌, ◌-◌, ◌*◌, Bool, true, false, ◌&&◌, nat_lt, nat_le, List, map, slice_index_or}
use Rattle.cell_loops.specs.declared.kinds.Cell.{Cell}
use Rattle.cell_loops.specs.declared.kinds.Cell.TheVariants.{Above, Below, Unsure}
use Rattle.cell_loops.specs.declared.kinds.Family.{Family}
use Rattle.cell_loops.specs.declared.kinds.Family.TheVariants.{Inner, Outer}
use Rattle.cell_loops.specs.declared.corners.Corner.{Corner}
use Rattle.cell_loops.specs.declared.corners.Around.{Around}

-- whether a cell is in the set that a family bounds: that of the cells above, or that of the cells that aren't below
abbrev pub is_in : Family → Cell → Bool
is_in Inner Above = true
is_in Inner Below = false
is_in Inner Unsure = false
is_in Outer Above = true
is_in Outer Below = false
is_in Outer Unsure = true

-- a set of cells: for each cell, row by row, whether it is in the set
pub record Plane : Type 0 where
  pub columns : ℕ
  pub rows : ℕ
  pub cells : List Bool

abbrev pub plane_of : ℕ → ℕ → List Cell → Family → Plane
plane_of columns rows kinds family =
    record { columns = columns; rows = rows; cells = map (is_in family) kinds }

-- the place of the cell whose northeast corner is (x, y), so of cell (x - 1, y - 1)
abbrev pub cell_place : ℕ → ℕ → ℕ → ℕ
cell_place columns x y = (y - 1) * columns + (x - 1)

-- whether (x, y) is the northeast corner of a cell of the grid
abbrev pub is_cell : ℕ → ℕ → ℕ → ℕ → Bool
is_cell columns rows x y = (nat_lt 0 x && nat_le x columns) && (nat_lt 0 y && nat_le y rows)

-- whether the cell whose northeast corner is (x, y) is in the set; outside the grid there is none
unfoldable pub holds : Plane → ℕ → ℕ → Bool
holds s x y = is_cell s.columns s.rows x y && slice_index_or s.cells (cell_place s.columns x y) false

-- the four cells round a corner
unfoldable pub around : Plane → Corner → Around
around s c = record {
  northeast = holds s (c.x + 1) (c.y + 1);
  northwest = holds s c.x (c.y + 1);
  southwest = holds s c.x c.y;
  southeast = holds s (c.x + 1) c.y;
}
