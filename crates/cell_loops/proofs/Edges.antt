-- Edges of the boundary: each lies on the grid, has one edge after it, and is told by that one.
use Rattle.std.proofs.Common.{◌≡◌, ℕ, suc, ◌+◌, ◌-◌, ◌<◌, ◌≤◌, Bool, true, false, not, ◌&&◌, ◌==◌, nat_lt, arith, refl, sym, ap, ◌∙◌}
use Rattle.std.proofs.lemmas.Bool.{and_parts, ltb-true, leb-true}
use Rattle.std.proofs.lemmas.Bool.Decides.{nat_tests}
use Rattle.cell_loops.specs.declared.corners.Around.{Around}
use Rattle.cell_loops.specs.declared.corners.Corner.{Corner}
use Rattle.cell_loops.specs.declared.corners.Edge.{Edge}
use Rattle.cell_loops.specs.declared.corners.Way.{Way}
use Rattle.cell_loops.specs.declared.corners.Way.TheVariants.{East, North, West, South}
use Rattle.cell_loops.specs.Turning.{leaves, reaches, turn, came, way_number, same_way}
use Rattle.cell_loops.specs.Plane.{Plane, holds, around, is_cell}
use Rattle.cell_loops.specs.Boundary.{step_of, bounds, same, next_of, came_by}
use Rattle.cell_loops.specs.inner.Steps.{IsOn}
use Rattle.cell_loops.proofs.Turns.{leaves-turn, came-turn}

-- ---- on the grid

-- a cell of the set lies on the grid
pub record IsWithin (s : Plane) (x y : ℕ) : Type 0 where
  pub west : 1 ≤ x
  pub east : x ≤ s.columns
  pub south : 1 ≤ y
  pub north : y ≤ s.rows

pub holds-within : (s : Plane) (x y : ℕ) → holds s x y ≡ true → IsWithin s x y
unfolding holds
holds-within s x y h =
    let cell = (and_parts _ _ h).0 in
    let xs = and_parts _ _ (and_parts _ _ cell).0 in
    let ys = and_parts _ _ (and_parts _ _ cell).1 in
    record {
      west = ltb-true 0 x xs.0;
      east = leb-true x s.columns xs.1;
      south = ltb-true 0 y ys.0;
      north = leb-true y s.rows ys.1;
    }

first_of_two : (x y : Bool) → (x && y) ≡ true → x ≡ true
first_of_two x y h = (and_parts x y h).0

-- so does where an edge begins, and where it ends
pub record LiesOn (s : Plane) (c : Corner) (w : Way) : Type 0 where
  pub from : IsOn s c
  pub to : IsOn s (step_of c w)

lies_at : (s : Plane) (c : Corner) (w : Way) → leaves (around s c) w ≡ true → LiesOn s c w
unfolding around
lies_at s c East h =
    let i = holds-within s (c.x + 1) (c.y + 1) (first_of_two _ _ h) in
    record {
      from = record { x = omega (arith, i.east); y = omega (arith, i.north) };
      to = record { x = omega (arith, i.east); y = omega (arith, i.north) };
    }
lies_at s c North h =
    let i = holds-within s c.x (c.y + 1) (first_of_two _ _ h) in
    record {
      from = record { x = omega (arith, i.east); y = omega (arith, i.north) };
      to = record { x = omega (arith, i.east); y = omega (arith, i.north) };
    }
lies_at s c West h =
    let i = holds-within s c.x c.y (first_of_two _ _ h) in
    record {
      from = record { x = omega (arith, i.east); y = omega (arith, i.north) };
      to = record { x = omega (arith, i.east); y = omega (arith, i.north) };
    }
lies_at s c South h =
    let i = holds-within s (c.x + 1) c.y (first_of_two _ _ h) in
    record {
      from = record { x = omega (arith, i.east); y = omega (arith, i.north) };
      to = record { x = omega (arith, i.east); y = omega (arith, i.north) };
    }

pub bounds-on : (s : Plane) (e : Edge) → bounds s e ≡ true → IsOn s e.from
unfolding bounds
bounds-on s e h = (lies_at s e.from e.way h).from

pub bounds-end_on : (s : Plane) (e : Edge) → bounds s e ≡ true → IsOn s (step_of e.from e.way)
unfolding bounds
bounds-end_on s e h = (lies_at s e.from e.way h).to

-- ---- the edge after an edge

back_again : (x : ℕ) → 1 ≤ x → x - 1 + 1 ≡ x
back_again x h = omega arith

-- an edge that leaves a corner reaches the next
reaches-end : (s : Plane) (c : Corner) (w : Way) → leaves (around s c) w ≡ true → reaches (around s (step_of c w)) w ≡ true
unfolding around
reaches-end s c East h = h
reaches-end s c North h = h
reaches-end s c West h =
    let i = holds-within s c.x c.y (first_of_two _ _ h) in
    rw (back_again c.x i.west) h
reaches-end s c South h =
    let i = holds-within s (c.x + 1) c.y (first_of_two _ _ h) in
    rw (back_again c.y i.south) h

pub bounds-next : (s : Plane) (e : Edge) → bounds s e ≡ true → bounds s (next_of s e) ≡ true
unfolding bounds next_of
bounds-next s e h = leaves-turn (around s (step_of e.from e.way)) e.way (reaches-end s e.from e.way h)

pub came_by-next : (s : Plane) (e : Edge) → bounds s e ≡ true → came_by s (next_of s e) ≡ e.way
unfolding bounds next_of came_by
came_by-next s e h = came-turn (around s (step_of e.from e.way)) e.way (reaches-end s e.from e.way h)

-- ---- and the edge before it

step_back : Corner → Way → Corner
step_back c East = record { x = c.x - 1; y = c.y }
step_back c North = record { x = c.x; y = c.y - 1 }
step_back c West = record { x = c.x + 1; y = c.y }
step_back c South = record { x = c.x; y = c.y + 1 }

edge_before : Plane → Edge → Edge
edge_before s e = record { from = step_back e.from (came_by s e); way = came_by s e }

back-step : (s : Plane) (c : Corner) (w : Way) → leaves (around s c) w ≡ true → step_back (step_of c w) w ≡ c
unfolding around step_back
back-step s c East h = let e : c.x + 1 - 1 ≡ c.x = omega arith in rw e refl
back-step s c North h = let e : c.y + 1 - 1 ≡ c.y = omega arith in rw e refl
back-step s c West h =
    let i = holds-within s c.x c.y (first_of_two _ _ h) in
    rw (back_again c.x i.west) refl
back-step s c South h =
    let i = holds-within s (c.x + 1) c.y (first_of_two _ _ h) in
    rw (back_again c.y i.south) refl

before-next : (s : Plane) (e : Edge) → bounds s e ≡ true → edge_before s (next_of s e) ≡ e
unfolding bounds edge_before next_of
before-next s e h =
    let came = came_by-next s e h in
    let from : step_back (step_of e.from e.way) e.way ≡ e.from = back-step s e.from e.way h in
    rw (came, from) refl

-- ---- one edge or two

pub same_is : (e f : Edge) → same e f ≡ true → e ≡ f
unfolding same
same_is e f h = grind (arith, nat_tests)

pub same_refl : (e : Edge) → same e e ≡ true
unfolding same
same_refl e = grind (arith, nat_tests)

pub same_at : (e f : Edge) → e ≡ f → same e f ≡ true
same_at e f h = rw h (same_refl f)

-- edges with one edge after them are one
pub next-same : (s : Plane) (e f : Edge) → bounds s e ≡ true → bounds s f ≡ true → same (next_of s e) (next_of s f) ≡ same e f
next-same s e f he hf = by_test (same (next_of s e) (next_of s f)) (same e f) one other where
  one : same (next_of s e) (next_of s f) ≡ true → same e f ≡ true
  one h = same_at e f (sym (before-next s e he) ∙ ap (edge_before s) (same_is (next_of s e) (next_of s f) h) ∙ before-next s f hf)

  other : same e f ≡ true → same (next_of s e) (next_of s f) ≡ true
  other h = same_at (next_of s e) (next_of s f) (ap (next_of s) (same_is e f h))

  by_test : (a b : Bool) → (a ≡ true → b ≡ true) → (b ≡ true → a ≡ true) → a ≡ b
  by_test true b f g = sym (f refl)
  by_test false true f g = g refl
  by_test false false f g = refl
