-- What lies on either side of an edge.
use Rattle.std.proofs.Common.{◌≡◌, ℕ, zero, suc, ◌+◌, ◌-◌, ◌*◌, ◌<◌, Bool, true, false, not, ◌&&◌, List, [], ◌∷◌, length, get_or, map, arith, refl, sym, ap, ◌∙◌, ◌⊎◌, inl, inr}
use Rattle.std.specs.Prelude.{if◌then◌else◌, Option, Some, None, slice_get, ◌≢◌}
use Rattle.std.specs.List.{All}
use Rattle.std.proofs.lemmas.Bool.{false≢true, and_parts, not-true}
use Rattle.std.proofs.lemmas.List.Elements.{All-head, All-tail}
use Rattle.cell_loops.specs.declared.kinds.Cell.{Cell}
use Rattle.cell_loops.specs.declared.kinds.Cell.TheVariants.{Above, Below, Unsure}
use Rattle.cell_loops.specs.declared.kinds.Family.{Family}
use Rattle.cell_loops.specs.declared.kinds.Family.TheVariants.{Inner, Outer}
use Rattle.cell_loops.specs.declared.corners.Corner.{Corner}
use Rattle.cell_loops.specs.declared.corners.Edge.{Edge}
use Rattle.cell_loops.specs.declared.corners.Way.{Way}
use Rattle.cell_loops.specs.declared.corners.Way.TheVariants.{East, North, West, South}
use Rattle.cell_loops.specs.Turning.{leaves}
use Rattle.cell_loops.specs.Plane.{Plane, plane_of, is_in, is_cell, cell_place, holds, around}
use Rattle.cell_loops.specs.Boundary.{bounds, loops_of}
use Rattle.cell_loops.specs.Separation.{times, left_cell, right_cell, kind_at, IsQuiet, LouderInside, QuieterOutside, SameWhereSure}
use Rattle.cell_loops.proofs.Once.{once}

-- an edge that stands in a loop bounds the set
bounds-times : (s : Plane) (e : Edge) → 0 < times e (loops_of s) → bounds s e ≡ true
bounds-times s e h = by_test (bounds s e) refl where
  by_test : (t : Bool) → bounds s e ≡ t → bounds s e ≡ true
  by_test true is = is
  by_test false is = let none : times e (loops_of s) ≡ 0 = once s e ∙ rw is refl in absurd (omega (arith, none, h))

on-left : (s : Plane) (c : Corner) (w : Way) → leaves (around s c) w ≡ true → holds s (left_cell c w).x (left_cell c w).y ≡ true
unfolding around
on-left s c East h = (and_parts _ _ h).0
on-left s c North h = (and_parts _ _ h).0
on-left s c West h = (and_parts _ _ h).0
on-left s c South h = (and_parts _ _ h).0

on-right : (s : Plane) (c : Corner) (w : Way) → leaves (around s c) w ≡ true → holds s (right_cell c w).x (right_cell c w).y ≡ false
unfolding around
on-right s c East h = not-true _ (and_parts _ _ h).1
on-right s c North h = not-true _ (and_parts _ _ h).1
on-right s c West h = not-true _ (and_parts _ _ h).1
on-right s c South h = not-true _ (and_parts _ _ h).1

-- ---- cells

above-in : (kinds : List Cell) (n : ℕ) → get_or (map (is_in Inner) kinds) n false ≡ true → slice_get kinds n ≡ Some Above
above-in [] n h = absurd (false≢true h)
above-in (Above ∷ kinds) zero h = refl
above-in (Below ∷ kinds) zero h = absurd (false≢true h)
above-in (Unsure ∷ kinds) zero h = absurd (false≢true h)
above-in (kind ∷ kinds) (suc n) h = above-in kinds n h

quiet-out : (kinds : List Cell) (n : ℕ) → get_or (map (is_in Outer) kinds) n false ≡ false → IsQuiet (slice_get kinds n)
quiet-out [] n h = tt
quiet-out (Above ∷ kinds) zero h = absurd (false≢true (sym h))
quiet-out (Below ∷ kinds) zero h = tt
quiet-out (Unsure ∷ kinds) zero h = absurd (false≢true (sym h))
quiet-out (kind ∷ kinds) (suc n) h = quiet-out kinds n h

kind-inside : (columns rows : ℕ) (kinds : List Cell) (c : Corner) → holds (plane_of columns rows kinds Inner) c.x c.y ≡ true → kind_at columns rows kinds c ≡ Some Above
unfolding holds
kind-inside columns rows kinds c h =
    let parts = and_parts (is_cell columns rows c.x c.y) _ h in
    rw parts.0 (above-in kinds (cell_place columns c.x c.y) parts.1)

kind-outside : (columns rows : ℕ) (kinds : List Cell) (c : Corner) → holds (plane_of columns rows kinds Outer) c.x c.y ≡ false → IsQuiet (kind_at columns rows kinds c)
unfolding holds
kind-outside columns rows kinds c h = by_test (is_cell columns rows c.x c.y) refl where
  by_test : (t : Bool) → is_cell columns rows c.x c.y ≡ t → IsQuiet (kind_at columns rows kinds c)
  by_test false is = rw is tt
  by_test true is = rw is (quiet-out kinds (cell_place columns c.x c.y) (rw is at h))

pub louder_inside : (columns rows : ℕ) (kinds : List Cell) → LouderInside columns rows kinds
unfolding bounds
louder_inside columns rows kinds e h =
    let s = plane_of columns rows kinds Inner in
    kind-inside columns rows kinds (left_cell e.from e.way) (on-left s e.from e.way (bounds-times s e h))

pub quieter_outside : (columns rows : ℕ) (kinds : List Cell) → QuieterOutside columns rows kinds
unfolding bounds
quieter_outside columns rows kinds e h =
    let s = plane_of columns rows kinds Outer in
    kind-outside columns rows kinds (right_cell e.from e.way) (on-right s e.from e.way (bounds-times s e h))

-- ---- where all cells are sure

same_cells : (kinds : List Cell) → All (λ kind. kind ≢ Unsure) kinds → map (is_in Inner) kinds ≡ map (is_in Outer) kinds
same_cells [] sure = refl
same_cells (Above ∷ kinds) sure = ap (λ cells. true ∷ cells) (same_cells kinds (All-tail (λ kind. kind ≢ Unsure) Above kinds sure))
same_cells (Below ∷ kinds) sure = ap (λ cells. false ∷ cells) (same_cells kinds (All-tail (λ kind. kind ≢ Unsure) Below kinds sure))
same_cells (Unsure ∷ kinds) sure = absurd (All-head (λ kind. kind ≢ Unsure) Unsure kinds sure refl)

pub same_where_sure : (columns rows : ℕ) (kinds : List Cell) → SameWhereSure columns rows kinds
same_where_sure columns rows kinds sure =
    ap (λ (cells : List Bool). loops_of (record { columns = columns; rows = rows; cells = cells })) (same_cells kinds sure)
