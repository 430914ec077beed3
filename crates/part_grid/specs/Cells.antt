-- The cells of the plan: squares of 65,536 mm.
--
-- Columns and rows are lines of cells. They are counted from the lowest of the plan: a coordinate z lies in the line
-- floor(z / 65536) + 62, which is 0 to 123.
use Rattle.std.specs.Prelude.{ℕ, suc, ℤ, pos, ◌+ℤ◌, ◌+◌, ◌*◌, ◌/◌, min, max, ◌==◌, if◌then◌else◌, Bool, ◌&&◌, unsigned_abs}
use Rattle.std.specs.List.{list_any}
use Rattle.std.specs.Int.{abs_diff}
use Rattle.scene_geom.specs.declared.plan.Pt.{Pt}
use Rattle.scene_geom.specs.declared.plan.Side.{Side}
use Rattle.part_grid.specs.declared.cells.span.Span.{Span}
use Rattle.part_grid.specs.Span.{between, has, overlap, lines}

-- the width of a cell, in mm
abbrev pub cell : ℕ
cell = 65536

-- how far a coordinate lies beyond the outer edge of line 0, in mm
abbrev pub from_edge : ℤ → ℕ
from_edge z = unsigned_abs (z +ℤ pos 4063232)

-- the line of cells in which a coordinate lies
abbrev pub line_of : ℤ → ℕ
line_of z = from_edge z / cell

-- the columns and the rows from one point to another: those of the cells of the box with these corners
abbrev pub columns_between : Pt → Pt → Span
columns_between p q = between (line_of p.x) (line_of q.x)

abbrev pub rows_between : Pt → Pt → Span
rows_between p q = between (line_of p.y) (line_of q.y)

-- the cells of a side are those of its bounding box
abbrev pub columns_of : Side → Span
columns_of side = columns_between side.from side.to

abbrev pub rows_of : Side → Span
rows_of side = rows_between side.from side.to

-- ---- the walk of a segment through the cells

-- the row in which the line from p to q, which isn't vertical, lies at an easting x between them: the northings of both
-- ends, each weighted by how far the other end is
abbrev pub row_at : Pt → Pt → ℕ → ℕ
row_at p q x =
    (from_edge p.y * abs_diff x (from_edge q.x) + from_edge q.y * abs_diff x (from_edge p.x))
    / (abs_diff (from_edge p.x) (from_edge q.x) * cell)

-- the rows of the segment while it is in a column, taken closed: those between its rows where it comes into the column
-- and where it leaves it. A vertical segment has one column, and all its rows there
abbrev pub walk_rows : Pt → Pt → ℕ → Span
walk_rows p q column =
    if from_edge p.x == from_edge q.x then rows_between p q
    else between
    (row_at p q (max (min (from_edge p.x) (from_edge q.x)) (column * cell)))
    (row_at p q (min (max (from_edge p.x) (from_edge q.x)) (suc column * cell)))

-- ---- what meets

-- a side has a cell in a column within some rows
abbrev pub covers : Side → ℕ → Span → Bool
covers side column rows = has (columns_of side) column && overlap (rows_of side) rows

-- the cells of a side meet the walk from p to q: in some column of the walk they share a row
abbrev pub cells_meet_of : Side → Pt → Pt → Bool
cells_meet_of side p q = list_any (λ column. covers side column (walk_rows p q column)) (lines (columns_between p q))

-- the cells of a side meet those of a box
abbrev pub boxes_meet : Side → Pt → Pt → Bool
boxes_meet side low high =
    overlap (columns_of side) (columns_between low high) && overlap (rows_of side) (rows_between low high)
