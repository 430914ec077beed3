-- What holds of the loops of a set of cells: that they part it from what is outside.
use Rattle.std.specs.Prelude.{◌≡◌, ◌≢◌, ℕ, ◌+◌, ◌<◌, Bool, true, false, List, [], ◌∷◌, Option, Some, None, slice_get, if◌then◌else◌, count_by, All, AllPairs}
use Rattle.std.specs.List.{sum_by}
use Rattle.cell_loops.specs.declared.kinds.Cell.{Cell}
use Rattle.cell_loops.specs.declared.kinds.Cell.TheVariants.{Above, Below, Unsure}
use Rattle.cell_loops.specs.declared.kinds.Family.TheVariants.{Inner, Outer}
use Rattle.cell_loops.specs.declared.corners.Corner.{Corner}
use Rattle.cell_loops.specs.declared.corners.Edge.{Edge}
use Rattle.cell_loops.specs.declared.corners.Way.{Way}
use Rattle.cell_loops.specs.declared.corners.Way.TheVariants.{East, North, West, South}
use Rattle.cell_loops.specs.Plane.{Plane, plane_of, is_cell, cell_place, holds}
use Rattle.cell_loops.specs.Boundary.{bounds, same, precedes, next_of, came_by, turns_at, loops_of}

-- ---- each edge in one loop, once

-- how often an edge stands in some loops
abbrev pub times : Edge → List (List Edge) → ℕ
times e loops = sum_by (count_by (same e)) loops

-- edges of which each is followed by the next by the rule of turns, and the last by a first one
abbrev pub Follow : Plane → Edge → List Edge → Type 0
Follow s first [] = Unit {0}
Follow s first (e ∷ []) = next_of s e ≡ first
Follow s first (e ∷ f ∷ edges) = (next_of s e ≡ f) × Follow s first (f ∷ edges)

-- edges that follow one another, round to the first
abbrev pub IsClosed : Plane → List Edge → Type 0
IsClosed s [] = ⊥
IsClosed s (e ∷ edges) = Follow s e (e ∷ edges)

-- whether cell (c, r) is in the set, and whether its neighbour to a side is
abbrev pub has_cell : Plane → ℕ → ℕ → Bool
has_cell s c r = holds s (c + 1) (r + 1)

abbrev pub has_neighbour : Plane → ℕ → ℕ → Way → Bool
has_neighbour s c r East = holds s (c + 1 + 1) (r + 1)
has_neighbour s c r North = holds s (c + 1) (r + 1 + 1)
has_neighbour s c r West = holds s c (r + 1)
has_neighbour s c r South = holds s (c + 1) r

-- the step between cell (c, r), on its left, and its neighbour to a side
abbrev pub side_of : ℕ → ℕ → Way → Edge
side_of c r East = record { from = record { x = c + 1; y = r }; way = North }
side_of c r North = record { from = record { x = c + 1; y = r + 1 }; way = West }
side_of c r West = record { from = record { x = c; y = r + 1 }; way = South }
side_of c r South = record { from = record { x = c; y = r }; way = East }

-- Each edge of the boundary stands in one loop, once, and the loops have no other edges. The loops are closed, and the
-- way by which one comes to an edge is that of the edge before. Who steps from a cell of the set to a neighbour outside
-- crosses a loop, once.
pub record Separates (s : Plane) : Type 0 where
  pub once : (e : Edge) → times e (loops_of s) ≡ (if bounds s e then 1 else 0)
  pub closed : All (IsClosed s) (loops_of s)
  pub came : (e : Edge) → bounds s e ≡ true → came_by s (next_of s e) ≡ e.way
  pub crossed : (c r : ℕ) (side : Way) → has_cell s c r ≡ true → has_neighbour s c r side ≡ false
      → times (side_of c r side) (loops_of s) ≡ 1

-- ---- order

-- a loop that begins with its least edge, and turns there
abbrev pub BeginsLeast : Plane → List Edge → Type 0
BeginsLeast s [] = ⊥
BeginsLeast s (e ∷ edges) = All (λ f. precedes e f ≡ true) edges × (turns_at s e ≡ true)

-- a loop whose first edge precedes that of another
abbrev pub Before : List Edge → List Edge → Type 0
Before (e ∷ es) (f ∷ fs) = precedes e f ≡ true
Before es fs = ⊥

-- each loop begins with its least edge, and the loops stand in the order of these
pub record IsOrdered (s : Plane) : Type 0 where
  pub least : All (BeginsLeast s) (loops_of s)
  pub ascending : AllPairs Before (loops_of s)

-- ---- what is on either side

-- the northeast corners of the cells on the left and on the right of a step from a corner
abbrev pub left_cell : Corner → Way → Corner
left_cell c East = record { x = c.x + 1; y = c.y + 1 }
left_cell c North = record { x = c.x; y = c.y + 1 }
left_cell c West = record { x = c.x; y = c.y }
left_cell c South = record { x = c.x + 1; y = c.y }

abbrev pub right_cell : Corner → Way → Corner
right_cell c East = record { x = c.x + 1; y = c.y }
right_cell c North = record { x = c.x + 1; y = c.y + 1 }
right_cell c West = record { x = c.x; y = c.y + 1 }
right_cell c South = record { x = c.x; y = c.y }

-- what is known of the cell of a grid with this northeast corner, if there is one
abbrev pub kind_at : ℕ → ℕ → List Cell → Corner → Option Cell
kind_at columns rows kinds c =
    if is_cell columns rows c.x c.y then slice_get kinds (cell_place columns c.x c.y) else None

-- a cell that is surely quieter, or none, beyond the border
abbrev pub IsQuiet : Option Cell → Type 0
IsQuiet None = Unit {0}
IsQuiet (Some Above) = ⊥
IsQuiet (Some Below) = Unit {0}
IsQuiet (Some Unsure) = ⊥

-- on the left of each edge of an inner loop lies a cell that is surely at the limit or above
abbrev pub LouderInside : ℕ → ℕ → List Cell → Type 0
LouderInside columns rows kinds =
    (e : Edge) → 0 < times e (loops_of (plane_of columns rows kinds Inner))
    → kind_at columns rows kinds (left_cell e.from e.way) ≡ Some Above

-- on the right of each edge of an outer loop lies a cell that is surely below the limit, or none
abbrev pub QuieterOutside : ℕ → ℕ → List Cell → Type 0
QuieterOutside columns rows kinds =
    (e : Edge) → 0 < times e (loops_of (plane_of columns rows kinds Outer))
    → IsQuiet (kind_at columns rows kinds (right_cell e.from e.way))

-- where each cell is surely on one side, both families are the same loops
abbrev pub SameWhereSure : ℕ → ℕ → List Cell → Type 0
SameWhereSure columns rows kinds =
    All (λ kind. kind ≢ Unsure) kinds
    → loops_of (plane_of columns rows kinds Inner) ≡ loops_of (plane_of columns rows kinds Outer)
