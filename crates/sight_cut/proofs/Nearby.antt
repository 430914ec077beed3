-- The index of obstacles, and the crossings among the sides near a line.
use Rattle.std.proofs.Common.{◌≡◌, ℕ, suc, ◌+◌, ◌<◌, false, List, [], ◌∷◌, ◌++◌, length, drop, take, map, filter, flat_map, ap, sym, ◌∙◌, refl, arith, append_assoc, get_or}
use Rattle.std.specs.Prelude.{Option, Some, None, slice_get}
use Rattle.std.specs.Option.{option_and_then}
use Rattle.std.specs.List.{filter_map, enumerate_from, cons_option}
use Rattle.std.proofs.lemmas.List.{drop_more}
use Rattle.std.proofs.lemmas.Option.{slice_get_within, get_or_from_slice_get}
use Rattle.scene_geom.specs.declared.plan.Side.{Side}
use Rattle.scene_parts.specs.Parts.{Obstacle, sides_of}
use Rattle.scene_parts.specs.declared.screening.ends.Ends.{Ends}
use Rattle.scene_parts.specs.declared.screening.crossing.Crossing.{Crossing}
use Rattle.part_grid.specs.declared.owned.Owned.{Owned}
use Rattle.part_grid.specs.Cells.{cells_meet_of}
use Rattle.part_grid.specs.Numbered.{owned_by, numbered_sides, numbered}
use Rattle.part_grid.proofs.Crossed.{unmet-are-apart}
use Rattle.part_grid.proofs.Numbered.{IsFoundAt, found-at, found-more, looked_up, filter_map-near, found-by-obstacles}
use Rattle.sight_cut.specs.Cuts.{crossing_of, before_all, crossings_along, crossings_from, crossings_of}

-- ---- the index
-- the sides that are there, and those behind, are the same after one more
pub side-numbered : (i k : ℕ) (sides : List Side) (side : Side) (owned new total : List Owned) → slice_get sides k ≡ Some side → new ≡ owned ++ owned_by i (k, side) ∷ []
    → owned ++ map (owned_by i) (enumerate_from k (drop k sides)) ≡ total → new ++ map (owned_by i) (enumerate_from (k + 1) (drop (k + 1) sides)) ≡ total
side-numbered i k sides side owned new total e added h =
    let rest = map (owned_by i) (enumerate_from (k + 1) (drop (k + 1) sides)) in
    let here : drop k sides ≡ side ∷ drop (k + 1) sides =
    drop_more sides k side (slice_get_within sides k side e) ∙ ap (λ x. x ∷ drop (k + 1) sides) (get_or_from_slice_get sides k side side e) in
    ap (λ xs. xs ++ rest) added ∙ append_assoc owned (owned_by i (k, side) ∷ []) rest
    ∙ ap (λ xs. owned ++ map (owned_by i) (enumerate_from k xs)) (sym here) ∙ h

-- and after the sides of an obstacle
pub obstacle-numbered : (obstacles : List Obstacle) (i : ℕ) (o : Obstacle) (owned new total : List Owned) → i < length obstacles → o ≡ get_or obstacles i o
    → new ≡ owned ++ numbered_sides (i, sides_of o) → owned ++ flat_map numbered_sides (enumerate_from i (map sides_of (drop i obstacles))) ≡ total
    → new ++ flat_map numbered_sides (enumerate_from (i + 1) (map sides_of (drop (i + 1) obstacles))) ≡ total
obstacle-numbered obstacles i o owned new total below is added h =
    let rest = flat_map numbered_sides (enumerate_from (i + 1) (map sides_of (drop (i + 1) obstacles))) in
    let here : drop i obstacles ≡ o ∷ drop (i + 1) obstacles = drop_more obstacles i o below ∙ ap (λ x. x ∷ drop (i + 1) obstacles) (sym is) in
    ap (λ xs. xs ++ rest) added ∙ append_assoc owned (numbered_sides (i, sides_of o)) rest
    ∙ ap (λ xs. owned ++ flat_map numbered_sides (enumerate_from i (map sides_of xs))) (sym here) ∙ h

-- ---- crossings among the sides of the index
before-is : (first : Option Crossing) (others : List Crossing) → cons_option first others ≡ before_all first others
before-is None others = refl
before-is (Some x) others = refl

along-is : (ends : Ends) (i k : ℕ) (o : Obstacle) (sides : List Side)
    → filter_map (λ side. crossing_of ends i side.0 o side.1) (enumerate_from k sides) ≡ crossings_along ends i k o sides
along-is ends i k o [] = refl
along-is ends i k o (side ∷ sides) =
    let next : k + 1 ≡ suc k = omega arith in
    ap (cons_option (crossing_of ends i k o side)) (along-is ends i (k + 1) o sides ∙ ap (λ n. crossings_along ends i n o sides) next)
    ∙ before-is (crossing_of ends i k o side) (crossings_along ends i (suc k) o sides)

from-is : (ends : Ends) (i : ℕ) (obstacles : List Obstacle)
    → flat_map (λ o. filter_map (λ side. crossing_of ends o.0 side.0 o.1 side.1) (enumerate_from 0 (sides_of o.1))) (enumerate_from i obstacles) ≡ crossings_from ends i obstacles
from-is ends i [] = refl
from-is ends i (o ∷ obstacles) =
    let next : i + 1 ≡ suc i = omega arith in
    ap (λ xs. xs ++ flat_map (λ o. filter_map (λ side. crossing_of ends o.0 side.0 o.1 side.1) (enumerate_from 0 (sides_of o.1))) (enumerate_from (i + 1) obstacles)) (along-is ends i 0 o (sides_of o))
    ∙ ap (λ xs. crossings_along ends i 0 o (sides_of o) ++ xs) (from-is ends (i + 1) obstacles ∙ ap (λ n. crossings_from ends n obstacles) next)

-- the sides near the line of sight
abbrev pub near_sides : Ends → List Obstacle → List Owned
near_sides ends obstacles = filter (λ owned. cells_meet_of owned.side ends.s ends.r) (numbered (map sides_of obstacles))

-- what such a side gives
abbrev pub near_crossing : Ends → List Obstacle → Owned → Option Crossing
near_crossing ends obstacles owned = looked_up (crossing_of ends) obstacles owned

-- a side that isn't near gives nothing
unmet-none : (ends : Ends) (obstacles : List Obstacle) (owned : Owned) → cells_meet_of owned.side ends.s ends.r ≡ false → near_crossing ends obstacles owned ≡ None
unmet-none ends obstacles owned unmet = by_obstacle (slice_get obstacles owned.obstacle) where
  none : (o : Obstacle) → crossing_of ends owned.obstacle owned.index o owned.side ≡ None
  none o = rw ((unmet-are-apart owned.side ends.s ends.r unmet).uncrossed) refl

  by_obstacle : (found : Option Obstacle) → option_and_then (λ o. crossing_of ends owned.obstacle owned.index o owned.side) found ≡ None
  by_obstacle None = refl
  by_obstacle (Some o) = none o

-- so those that are near give all crossings
pub near-are-all : (ends : Ends) (obstacles : List Obstacle) → filter_map (near_crossing ends obstacles) (near_sides ends obstacles) ≡ crossings_of ends obstacles
near-are-all ends obstacles =
    filter_map-near (λ owned. cells_meet_of owned.side ends.s ends.r) (near_crossing ends obstacles) (numbered (map sides_of obstacles)) (unmet-none ends obstacles)
    ∙ found-by-obstacles sides_of (crossing_of ends) obstacles ∙ from-is ends 0 obstacles

-- what the sides so far give, and one more
pub near-at : (ends : Ends) (obstacles : List Obstacle) (found : List Owned) (i : ℕ) (owned : Owned) → found ≡ near_sides ends obstacles → i < length found → owned ≡ get_or found i owned
    → IsFoundAt sides_of obstacles (near_sides ends obstacles) i owned
near-at ends obstacles found i owned are below is = found-at sides_of obstacles (λ owned. cells_meet_of owned.side ends.s ends.r) found i owned are below is

pub side-added : (ends : Ends) (obstacles : List Obstacle) (found : List Owned) (i : ℕ) (owned : Owned) (o : Obstacle) (crossings new : List Crossing)
    → found ≡ near_sides ends obstacles → i < length found → owned ≡ get_or found i owned → o ≡ get_or obstacles owned.obstacle o
    → new ≡ crossings ++ before_all (crossing_of ends owned.obstacle owned.index o owned.side) []
    → crossings ≡ filter_map (near_crossing ends obstacles) (take i (near_sides ends obstacles)) → new ≡ filter_map (near_crossing ends obstacles) (take (i + 1) (near_sides ends obstacles))
side-added ends obstacles found i owned o crossings new are below is o-is added so-far =
    let one = crossing_of ends owned.obstacle owned.index o owned.side in
    added ∙ ap (λ xs. xs ++ before_all one []) so-far
    ∙ ap (λ xs. filter_map (near_crossing ends obstacles) (take i (near_sides ends obstacles)) ++ xs) (sym (before-is one []))
    ∙ sym (found-more sides_of (crossing_of ends) obstacles (near_sides ends obstacles) i owned o (near-at ends obstacles found i owned are below is) o-is)
