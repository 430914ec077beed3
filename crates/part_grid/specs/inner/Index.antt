-- What the index keeps: for each cell of a frame the numbers of the sides that have it.
use Rattle.std.specs.Prelude.{◌≡◌, ℕ, ◌+◌, ◌-◌, ◌*◌, ◌<◌, ◌≤◌, min, max, Bool, true, ◌&&◌, ◌||◌, ◌==◌, List, [], length, slice_index_or}
use Rattle.std.specs.List.{fold, list_any}
use Rattle.scene_geom.specs.declared.plan.Side.{Side}
use Rattle.part_grid.specs.declared.cells.span.Span.{Span}
use Rattle.part_grid.specs.declared.cells.frame.Frame.{Frame}
use Rattle.part_grid.specs.declared.owned.Owned.{Owned}
use Rattle.part_grid.specs.Span.{has, width}
use Rattle.part_grid.specs.Cells.{columns_of, rows_of}

-- from the lowest line of two spans to the highest
abbrev pub hull : Span → Span → Span
hull a b = record { low = min a.low b.low; high = max a.high b.high }

-- a frame, and the lines that a side uses, with all between them
abbrev pub framed : Frame → Owned → Frame
framed frame owned = record {
  columns = hull frame.columns (columns_of owned.side);
  rows = hull frame.rows (rows_of owned.side);
}

-- the frame of no sides: no lines of the 124 of the plan
abbrev pub no_frame : Frame
no_frame = record { columns = record { low = 124; high = 0 }; rows = record { low = 124; high = 0 } }

-- the frame of some sides: the lines that they use, with all between them
abbrev pub frame_of : List Owned → Frame
frame_of sides = fold framed no_frame sides

-- all lines of one span are lines of another
pub record IsWithin (inner outer : Span) : Type 0 where
  pub low : outer.low ≤ inner.low
  pub high : inner.high ≤ outer.high

-- all cells of a side are cells of the frame
pub record Holds (frame : Frame) (side : Side) : Type 0 where
  pub columns : IsWithin (columns_of side) frame.columns
  pub rows : IsWithin (rows_of side) frame.rows

-- all cells of some sides are
abbrev pub HoldsAll : Frame → List Owned → Type 0
HoldsAll frame sides = (k : ℕ) (d : Owned) → k < length sides → Holds frame (slice_index_or sides k d).side

-- the number of cells
abbrev pub cells_of : Frame → ℕ
cells_of frame = width frame.columns * width frame.rows

-- the number of a cell
abbrev pub cell_at : Frame → ℕ → ℕ → ℕ
cell_at frame column row = (column - frame.columns.low) * width frame.rows + (row - frame.rows.low)

-- a number is entered in a cell
abbrev pub entered : List (List ℕ) → Frame → ℕ → ℕ → ℕ → Bool
entered lists frame column row number = list_any (λ n. n == number) (slice_index_or lists (cell_at frame column row) [])

-- a cell is one of a side
abbrev pub has_cell : Side → ℕ → ℕ → Bool
has_cell side column row = has (columns_of side) column && has (rows_of side) row

-- from one register to the next a number is entered in the cells of a frame that are in a column within some rows
abbrev pub EntersColumn : Frame → ℕ → Span → ℕ → List (List ℕ) → List (List ℕ) → Type 0
EntersColumn frame column rows number old new = (other row k : ℕ)
    → has frame.columns other ≡ true → has frame.rows row ≡ true
    → entered new frame other row k
    ≡ (entered old frame other row k || (number == k && (other == column && has rows row)))

-- from one register to the next a number is entered in the cells of a side
abbrev pub EntersSide : Frame → Side → ℕ → List (List ℕ) → List (List ℕ) → Type 0
EntersSide frame side number old new = (column row k : ℕ)
    → has frame.columns column ≡ true → has frame.rows row ≡ true
    → entered new frame column row k ≡ (entered old frame column row k || (number == k && has_cell side column row))

-- each cell has the numbers of the sides that it is a cell of
pub record IsIndex (sides : List Owned) (frame : Frame) (lists : List (List ℕ)) : Type 0 where
  pub columns : frame.columns.high < 124
  pub rows : frame.rows.high < 124
  pub cells : length lists ≡ cells_of frame
  pub holds : HoldsAll frame sides
  pub numbers : (column row k : ℕ) (d : Owned)
      → has frame.columns column ≡ true → has frame.rows row ≡ true → k < length sides
      → entered lists frame column row k ≡ has_cell (slice_index_or sides k d).side column row
