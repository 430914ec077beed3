-- The cells that a way meets which isn't between two points of the plan, as a leg of a path by way of a wall: it leads
-- from a point along a direction up to an end, in units of the direction. Between whole millimetres a place of it has
-- the cells of the one to its south-west, so that no cell is left out.
use Rattle.std.specs.Prelude.{ℕ, suc, ℤ, pos, ◌+ℤ◌, ◌-ℤ◌, ◌*ℤ◌, ◌*◌, max, min, ◌==◌, if◌then◌else◌, Bool, List, filter, unsigned_abs}
use Rattle.std.specs.List.{list_any}
use Rattle.std.specs.Int.{int_div_euclid}
use Rattle.scene_geom.specs.declared.plan.Pt.{Pt}
use Rattle.scene_geom.specs.declared.plan.Side.{Side}
use Rattle.scene_geom.specs.declared.fractions.fraction.Frac.{Frac}
use Rattle.scene_geom.specs.declared.directions.direction.Dir.{Dir}
use Rattle.scene_geom.specs.Fraction.{over}
use Rattle.scene_geom.specs.Plan.{nearest}
use Rattle.part_grid.specs.declared.cells.span.Span.{Span}
use Rattle.part_grid.specs.declared.owned.Owned.{Owned}
use Rattle.part_grid.specs.Span.{between, lines}
use Rattle.part_grid.specs.Cells.{cell, line_of, covers}

-- ---- where a way leads

-- the greatest whole number that isn't above a fraction
abbrev pub floor_of : Frac → ℤ
floor_of fraction = int_div_euclid fraction.n fraction.d

-- one coordinate of the end of a way, from that of its start and the same component of its direction
abbrev pub end_at : ℤ → ℤ → ℤ → Frac → ℤ
end_at start component divisor end = start +ℤ floor_of (over (end.n *ℤ component) (end.d *ℤ divisor))

-- the northing of the line of a way that isn't vertical, at an easting
abbrev pub northing_at : Pt → Dir → ℤ → ℤ
northing_at from dir x = from.y +ℤ floor_of (over ((x -ℤ from.x) *ℤ dir.y) dir.x)

-- ---- its columns and rows

-- the line of cells of a coordinate, or of the edge of the plan that is nearest to it
abbrev pub nearest_line : ℤ → ℕ
nearest_line z = line_of (nearest z)

-- all columns of a way, and all its rows
abbrev pub way_columns : Pt → Dir → Frac → Span
way_columns from dir end = between (line_of from.x) (nearest_line (end_at from.x dir.x dir.w end))

abbrev pub way_rows : Pt → Dir → Frac → Span
way_rows from dir end = between (line_of from.y) (nearest_line (end_at from.y dir.y dir.w end))

-- the easting at which a column begins, in mm
abbrev pub west_of : ℕ → ℤ
west_of column = pos (column * cell) -ℤ pos 4063232

-- the row of a way that has these rows where its line comes into a column from the west. Where that is beyond an end of
-- the way, it is the row of the end
abbrev pub row_into : Pt → Dir → Span → ℕ → ℕ
row_into from dir rows column = max rows.low (min rows.high (nearest_line (northing_at from dir (west_of column))))

-- those of its rows that it has while it is in a column, taken closed
abbrev pub rows_in : Pt → Dir → Span → ℕ → Span
rows_in from dir rows column =
    if unsigned_abs dir.x == 0 then rows
    else between (row_into from dir rows column) (row_into from dir rows (suc column))

-- ---- what meets

-- the cells of a side meet a way: in some column of the way they share a row
abbrev pub cells_meet_way : Side → Pt → Dir → Frac → Bool
cells_meet_way side from dir end =
    list_any
    (λ column. covers side column (rows_in from dir (way_rows from dir end) column))
    (lines (way_columns from dir end))

-- the sides whose cells meet a way, in their order
abbrev pub sides_near_way : Pt → Dir → Frac → List Owned → List Owned
sides_near_way from dir end sides = filter (λ owned. cells_meet_way owned.side from dir end) sides
