-- Steps and their places, and what a walk along a loop leaves marked.
use Rattle.std.specs.Prelude.{◌≡◌, ℕ, ◌+◌, ◌*◌, ◌≤◌, Bool, true, false, ◌||◌, List, slice_index_or}
use Rattle.std.specs.List.{list_any}
use Rattle.cell_loops.specs.declared.corners.Corner.{Corner}
use Rattle.cell_loops.specs.declared.corners.Edge.{Edge}
use Rattle.cell_loops.specs.Turning.{way_number}
use Rattle.cell_loops.specs.Plane.{Plane}
use Rattle.cell_loops.specs.Boundary.{same, loop_from}
use Rattle.cell_loops.specs.Steps.{most_side}

-- the same of a set of cells
pub record IsSmall (s : Plane) : Type 0 where
  pub few_columns : s.columns ≤ most_side
  pub few_rows : s.rows ≤ most_side

-- a corner of the grid
pub record IsOn (s : Plane) (c : Corner) : Type 0 where
  pub x : c.x ≤ s.columns
  pub y : c.y ≤ s.rows

-- the place of a step in the order of steps
abbrev pub place_of : Plane → Edge → ℕ
place_of s e = 4 * (e.from.y * (s.columns + 1) + e.from.x) + way_number e.way

-- whether a step is marked
abbrev pub is_marked : Plane → List Bool → Edge → Bool
is_marked s marks e = slice_index_or marks (place_of s e) false

-- whether an edge stands in a list
abbrev pub is_listed : Edge → List Edge → Bool
is_listed e edges = list_any (same e) edges

-- no edge of a loop is marked
abbrev pub IsUnwalked : Plane → List Bool → Edge → Type 0
IsUnwalked s marks begin =
    (e : Edge) → is_listed e (loop_from s begin) ≡ true → is_marked s marks e ≡ false

-- beside what was marked, the edges of a loop are
abbrev pub IsWalked : Plane → Edge → List Bool → List Bool → Type 0
IsWalked s begin before after =
    (e : Edge) → IsOn s e.from → is_marked s after e ≡ (is_marked s before e || is_listed e (loop_from s begin))
