-- The boundary of a set of cells: its edges, and the loops that they make.
use Rattle.std.specs.Prelude.{ℕ, zero, suc, ◌+◌, ◌-◌, ◌*◌, Bool, ◌&&◌, ◌||◌, ◌==◌, not, nat_lt, List, [], ◌∷◌, map, filter, flat_map, if◌then◌else◌}
use Rattle.std.specs.List.{list_all, range_with_len}
use Rattle.cell_loops.specs.declared.corners.Corner.{Corner}
use Rattle.cell_loops.specs.declared.corners.Edge.{Edge}
use Rattle.cell_loops.specs.declared.corners.Way.{Way}
use Rattle.cell_loops.specs.declared.corners.Way.TheVariants.{East, North, West, South}
use Rattle.cell_loops.specs.Turning.{way_number, same_way, leaves, turn, came}
use Rattle.cell_loops.specs.Plane.{Plane, around}

-- ---- edges

-- where a unit step from a corner ends
abbrev pub step_of : Corner → Way → Corner
step_of c East = record { x = c.x + 1; y = c.y }
step_of c North = record { x = c.x; y = c.y + 1 }
step_of c West = record { x = c.x - 1; y = c.y }
step_of c South = record { x = c.x; y = c.y - 1 }

-- whether a unit step is an edge of the boundary
unfoldable pub bounds : Plane → Edge → Bool
bounds s e = leaves (around s e.from) e.way

-- whether two edges are one
unfoldable pub same : Edge → Edge → Bool
same e f = (e.from.y == f.from.y) && ((e.from.x == f.from.x) && same_way e.way f.way)

-- the order of edges: by the second coordinate of where they begin, then the first, then east, north, west, south
unfoldable pub precedes : Edge → Edge → Bool
precedes e f =
    nat_lt e.from.y f.from.y || ((e.from.y == f.from.y)
    && (nat_lt e.from.x f.from.x || ((e.from.x == f.from.x)
    && nat_lt (way_number e.way) (way_number f.way))))

-- the unit steps from a corner, from the corners of a row, and from all corners of the grid, in their order
abbrev pub steps_at : ℕ → ℕ → List Edge
steps_at y x =
    let corner : Corner = record { x = x; y = y } in
    record { from = corner; way = East } ∷ record { from = corner; way = North }
    ∷ record { from = corner; way = West } ∷ record { from = corner; way = South } ∷ []

abbrev pub steps_along : Plane → ℕ → List Edge
steps_along s y = flat_map (steps_at y) (range_with_len 0 (s.columns + 1))

abbrev pub steps_of : Plane → List Edge
steps_of s = flat_map (steps_along s) (range_with_len 0 (s.rows + 1))

-- all edges of the set, in their order
unfoldable pub boundary_of : Plane → List Edge
boundary_of s = filter (bounds s) (steps_of s)

-- ---- loops

-- the edge after an edge: it begins where that one ends, by the rule of turns
unfoldable pub next_of : Plane → Edge → Edge
next_of s e =
    let end = step_of e.from e.way in
    record { from = end; way = turn (around s end) e.way }

-- an edge and the n - 1 edges after it
abbrev pub run_of : ℕ → Plane → Edge → List Edge
run_of zero s e = []
run_of (suc n) s e = e ∷ run_of n s (next_of s e)

-- the edges of a list before an edge
abbrev pub until : Edge → List Edge → List Edge
until e [] = []
until e (f ∷ fs) = if same e f then [] else f ∷ until e fs

-- how many unit steps there are
abbrev pub step_count : Plane → ℕ
step_count s = 4 * ((s.columns + 1) * (s.rows + 1))

-- the loop that begins with an edge: the edges after it, until it comes again
unfoldable pub loop_from : Plane → Edge → List Edge
loop_from s e = e ∷ until e (run_of (step_count s) s (next_of s e))

-- whether an edge is the least of its loop, with which that loop begins
unfoldable pub begins : Plane → Edge → Bool
begins s e = list_all (λ f. not (precedes f e)) (loop_from s e)

-- the loops of a set, in the order of the edges with which they begin
unfoldable pub loops_of : Plane → List (List Edge)
loops_of s = map (loop_from s) (filter (begins s) (boundary_of s))

-- ---- points

-- the way by which a loop comes to where an edge of it begins
unfoldable pub came_by : Plane → Edge → Way
came_by s e = came (around s e.from) e.way

-- whether a loop turns where an edge of it begins
abbrev pub turns_at : Plane → Edge → Bool
turns_at s e = not (same_way (came_by s e) e.way)

-- the corners at which a loop turns
abbrev pub points_of : Plane → List Edge → List Corner
points_of s edges = map (λ e. e.from) (filter (turns_at s) edges)
