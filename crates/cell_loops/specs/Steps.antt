-- Grids of cells of which loops are found.
use Rattle.std.specs.Prelude.{◌≡◌, ℕ, ◌*◌, ◌≤◌, List, length}
use Rattle.cell_loops.specs.declared.kinds.Cell.{Cell}

-- the most columns or rows of a grid
abbrev pub most_side : ℕ
most_side = 4096

-- a grid of cells: its sides are short, and it has as many cells as they say
pub record IsGrid (columns rows : ℕ) (cells : List Cell) : Type 0 where
  pub few_columns : columns ≤ most_side
  pub few_rows : rows ≤ most_side
  pub whole : length cells ≡ columns * rows
