-- Sides with their numbers: where each of them stands, and what a search of those near a line finds.
use Rattle.std.proofs.Common.{subst, ◌≡◌, ℕ, zero, suc, ◌+◌, ◌<◌, Bool, true, false, cond, List, [], ◌∷◌, ◌++◌, length, get_or, take, map, filter, flat_map, arith, ap, ◌∙◌, sym, refl}
use Rattle.std.specs.Prelude.{◌||◌, Option, Some, None, slice_get}
use Rattle.std.specs.Option.{option_and_then}
use Rattle.std.specs.List.{All, enumerate_from, filter_map, cons_option, list_any}
use Rattle.std.proofs.lemmas.List.{take_more}
use Rattle.std.proofs.lemmas.List.Elements.{All-append, All-filter, All-get_or, All-nil, filter_map-append}
use Rattle.std.proofs.lemmas.List.Folds.{list_any-append, list_any_more}
use Rattle.std.proofs.lemmas.Option.{slice_get_within, get_or_from_slice_get}
use Rattle.scene_geom.specs.declared.plan.Side.{Side}
use Rattle.part_grid.specs.declared.owned.Owned.{Owned}
use Rattle.part_grid.specs.Numbered.{owned_by, numbered_sides, numbered}

-- ---- where a side stands
-- the numbers of a side are those of an obstacle, and of the side among its sides
pub record IsAt {O : Type 0} (sides_of : O → List Side) (obstacles : List O) (owned : Owned) : Type 0 where
  pub obstacle : O
  pub at : slice_get obstacles owned.obstacle ≡ Some obstacle
  pub is : slice_get (sides_of obstacle) owned.index ≡ Some owned.side

All-cons : {X : Type 0} (P : X → Type 0) (x : X) (xs : List X) → P x → All P xs → All P (x ∷ xs)
All-cons P x xs first rest zero d h = first
All-cons P x xs first rest (suc k) d h = rest k d (omega arith)

sides-at : {O : Type 0} (sides_of : O → List Side) (obstacles : List O) (i : ℕ) (o : O) → slice_get obstacles i ≡ Some o → (n : ℕ) (rest : List Side)
    → ((k : ℕ) → slice_get (sides_of o) (n + k) ≡ slice_get rest k) → All (IsAt sides_of obstacles) (map (owned_by i) (enumerate_from n rest))
sides-at sides_of obstacles i o at n [] same = All-nil (IsAt sides_of obstacles)
sides-at sides_of obstacles i o at n (side ∷ rest) same =
    All-cons (IsAt sides_of obstacles) (owned_by i (n, side)) (map (owned_by i) (enumerate_from (n + 1) rest))
    (record { obstacle = o; at = at; is = ap (slice_get (sides_of o)) (omega arith) ∙ same 0 })
    (sides-at sides_of obstacles i o at (n + 1) rest (λ k. ap (slice_get (sides_of o)) (omega arith) ∙ same (suc k)))

obstacles-at : {O : Type 0} (sides_of : O → List Side) (obstacles : List O) (n : ℕ) (rest : List O) → ((k : ℕ) → slice_get obstacles (n + k) ≡ slice_get rest k)
    → All (IsAt sides_of obstacles) (flat_map numbered_sides (enumerate_from n (map sides_of rest)))
obstacles-at sides_of obstacles n [] same = All-nil (IsAt sides_of obstacles)
obstacles-at sides_of obstacles n (o ∷ rest) same =
    All-append (IsAt sides_of obstacles) (numbered_sides (n, sides_of o)) (flat_map numbered_sides (enumerate_from (n + 1) (map sides_of rest)))
    (sides-at sides_of obstacles n o (ap (slice_get obstacles) (omega arith) ∙ same 0) 0 (sides_of o) (λ k. ap (slice_get (sides_of o)) (omega arith)))
    (obstacles-at sides_of obstacles (n + 1) rest (λ k. ap (slice_get obstacles) (omega arith) ∙ same (suc k)))

-- each side stands where its numbers say
numbered-at : {O : Type 0} (sides_of : O → List Side) (obstacles : List O) → All (IsAt sides_of obstacles) (numbered (map sides_of obstacles))
numbered-at sides_of obstacles = obstacles-at sides_of obstacles 0 obstacles (λ k. ap (slice_get obstacles) (omega arith))

-- a side that a search found, which stands where its numbers say
pub record IsFoundAt {O : Type 0} (sides_of : O → List Side) (obstacles : List O) (sides : List Owned) (i : ℕ) (owned : Owned) : Type 0 where
  pub within : i < length sides
  pub same : owned ≡ get_or sides i owned
  pub at : IsAt sides_of obstacles owned

pub found-at : {O : Type 0} (sides_of : O → List Side) (obstacles : List O) (test : Owned → Bool) (found : List Owned) (i : ℕ) (owned : Owned)
    → found ≡ filter test (numbered (map sides_of obstacles)) → i < length found → owned ≡ get_or found i owned
    → IsFoundAt sides_of obstacles (filter test (numbered (map sides_of obstacles))) i owned
found-at sides_of obstacles test found i owned are h is =
    let sides = filter test (numbered (map sides_of obstacles)) in
    let below : i < length sides = omega (arith, h, ap length are) in
    let same : owned ≡ get_or sides i owned = is ∙ ap (λ xs. get_or xs i owned) are in
    record {
      within = below;
      same = same;
      at = subst (IsAt sides_of obstacles) (sym same) (All-get_or (IsAt sides_of obstacles) sides i owned below (All-filter test (IsAt sides_of obstacles) (numbered (map sides_of obstacles)) (numbered-at sides_of obstacles)));
    }

-- its number is within the obstacles, and that of its own
pub obstacle-within : {O : Type 0} (sides_of : O → List Side) (obstacles : List O) (sides : List Owned) (i : ℕ) (owned : Owned)
    → IsFoundAt sides_of obstacles sides i owned → owned.obstacle < length obstacles
obstacle-within sides_of obstacles sides i owned found = slice_get_within obstacles owned.obstacle found.at.obstacle found.at.at

obstacle-is : {O : Type 0} (sides_of : O → List Side) (obstacles : List O) (sides : List Owned) (i : ℕ) (owned : Owned) (o : O)
    → IsFoundAt sides_of obstacles sides i owned → o ≡ get_or obstacles owned.obstacle o → slice_get obstacles owned.obstacle ≡ Some o
obstacle-is sides_of obstacles sides i owned o found is =
    found.at.at ∙ ap Some (sym (is ∙ get_or_from_slice_get obstacles owned.obstacle found.at.obstacle o found.at.at))

-- ---- what a search finds
-- a test that fails only where nothing would be found takes nothing away
pub filter_map-near : {X : Type 0} (test : Owned → Bool) (found : Owned → Option X) (sides : List Owned)
    → ((owned : Owned) → test owned ≡ false → found owned ≡ None) → filter_map found (filter test sides) ≡ filter_map found sides
filter_map-near test found [] none = refl
filter_map-near test found (owned ∷ sides) none = by_test (test owned) refl (filter_map-near test found sides none) where
  by_test : (b : Bool) → test owned ≡ b → filter_map found (filter test sides) ≡ filter_map found sides
      → filter_map found (cond b (owned ∷ filter test sides) (filter test sides)) ≡ filter_map found (owned ∷ sides)
  by_test true e h = ap (cons_option (found owned)) h
  by_test false e h = h ∙ ap (λ one. cons_option one (filter_map found sides)) (sym (none owned e))

-- ---- the sides of obstacles, found one obstacle after another
-- what is found of a side, given the obstacle of its number
abbrev pub looked_up : {O X : Type 0} → (ℕ → ℕ → O → Side → Option X) → List O → Owned → Option X
looked_up found obstacles owned = option_and_then (λ o. found owned.obstacle owned.index o owned.side) (slice_get obstacles owned.obstacle)

-- one side more
pub found-more : {O X : Type 0} (sides_of : O → List Side) (found : ℕ → ℕ → O → Side → Option X) (obstacles : List O) (sides : List Owned) (i : ℕ) (owned : Owned) (o : O)
    → IsFoundAt sides_of obstacles sides i owned → o ≡ get_or obstacles owned.obstacle o
    → filter_map (looked_up found obstacles) (take (i + 1) sides)
    ≡ filter_map (looked_up found obstacles) (take i sides) ++ cons_option (found owned.obstacle owned.index o owned.side) []
found-more sides_of found obstacles sides i owned o is o-is =
    let before = filter_map (looked_up found obstacles) (take i sides) in
    ap (filter_map (looked_up found obstacles)) (take_more sides i owned is.within ∙ ap (λ x. take i sides ++ x ∷ []) (sym is.same))
    ∙ filter_map-append (looked_up found obstacles) (take i sides) (owned ∷ [])
    ∙ ap (λ x. before ++ cons_option x []) (ap (option_and_then (λ o. found owned.obstacle owned.index o owned.side)) (obstacle-is sides_of obstacles sides i owned o is o-is))

one-by-one : {O X : Type 0} (found : ℕ → ℕ → O → Side → Option X) (obstacles : List O) (i : ℕ) (o : O) → slice_get obstacles i ≡ Some o → (n : ℕ) (sides : List Side)
    → filter_map (looked_up found obstacles) (map (owned_by i) (enumerate_from n sides)) ≡ filter_map (λ side. found i side.0 o side.1) (enumerate_from n sides)
one-by-one found obstacles i o at n [] = refl
one-by-one found obstacles i o at n (side ∷ sides) =
    ap (λ x. cons_option (option_and_then (λ o. found i n o side) x) (filter_map (looked_up found obstacles) (map (owned_by i) (enumerate_from (n + 1) sides)))) at
    ∙ ap (cons_option (found i n o side)) (one-by-one found obstacles i o at (n + 1) sides)

from-number : {O X : Type 0} (sides_of : O → List Side) (found : ℕ → ℕ → O → Side → Option X) (obstacles : List O) (n : ℕ) (rest : List O)
    → ((k : ℕ) → slice_get obstacles (n + k) ≡ slice_get rest k)
    → filter_map (looked_up found obstacles) (flat_map numbered_sides (enumerate_from n (map sides_of rest)))
    ≡ flat_map (λ o. filter_map (λ side. found o.0 side.0 o.1 side.1) (enumerate_from 0 (sides_of o.1))) (enumerate_from n rest)
from-number sides_of found obstacles n [] same = refl
from-number sides_of found obstacles n (o ∷ rest) same =
    filter_map-append (looked_up found obstacles) (numbered_sides (n, sides_of o)) (flat_map numbered_sides (enumerate_from (n + 1) (map sides_of rest)))
    ∙ ap (λ xs. xs ++ filter_map (looked_up found obstacles) (flat_map numbered_sides (enumerate_from (n + 1) (map sides_of rest))))
    (one-by-one found obstacles n o (ap (slice_get obstacles) (omega arith) ∙ same 0) 0 (sides_of o))
    ∙ ap (λ xs. filter_map (λ side. found n side.0 o side.1) (enumerate_from 0 (sides_of o)) ++ xs)
    (from-number sides_of found obstacles (n + 1) rest (λ k. ap (slice_get obstacles) (omega arith) ∙ same (suc k)))

-- what is found of all sides of an index is what the obstacles give, one after another
pub found-by-obstacles : {O X : Type 0} (sides_of : O → List Side) (found : ℕ → ℕ → O → Side → Option X) (obstacles : List O)
    → filter_map (looked_up found obstacles) (numbered (map sides_of obstacles))
    ≡ flat_map (λ o. filter_map (λ side. found o.0 side.0 o.1 side.1) (enumerate_from 0 (sides_of o.1))) (enumerate_from 0 obstacles)
found-by-obstacles sides_of found obstacles = from-number sides_of found obstacles 0 obstacles (λ k. ap (slice_get obstacles) (omega arith))

-- ---- whether one of the sides passes a test, given the obstacle of its number
abbrev pub or_none : {O : Type 0} → (O → Bool) → Option O → Bool
or_none test None = false
or_none test (Some o) = test o

abbrev pub looked_any : {O : Type 0} → (O → Side → Bool) → List O → Owned → Bool
looked_any hit obstacles owned = or_none (λ o. hit o owned.side) (slice_get obstacles owned.obstacle)

-- those that a search leaves out don't matter where none of them passes
pub any-near : (test f : Owned → Bool) (sides : List Owned) → ((owned : Owned) → test owned ≡ false → f owned ≡ false) → list_any f (filter test sides) ≡ list_any f sides
any-near test f [] none = refl
any-near test f (owned ∷ sides) none = by_test (test owned) refl (any-near test f sides none) where
  by_test : (b : Bool) → test owned ≡ b → list_any f (filter test sides) ≡ list_any f sides → list_any f (cond b (owned ∷ filter test sides) (filter test sides)) ≡ list_any f (owned ∷ sides)
  by_test true e h = ap (λ b. f owned || b) h
  by_test false e h = h ∙ ap (λ b. b || list_any f sides) (sym (none owned e))

any-one : {O : Type 0} (hit : O → Side → Bool) (obstacles : List O) (i : ℕ) (o : O) → slice_get obstacles i ≡ Some o → (n : ℕ) (sides : List Side)
    → list_any (looked_any hit obstacles) (map (owned_by i) (enumerate_from n sides)) ≡ list_any (hit o) sides
any-one hit obstacles i o at n [] = refl
any-one hit obstacles i o at n (side ∷ sides) =
    ap (λ x. or_none (λ o. hit o side) x || list_any (looked_any hit obstacles) (map (owned_by i) (enumerate_from (n + 1) sides))) at
    ∙ ap (λ b. hit o side || b) (any-one hit obstacles i o at (n + 1) sides)

any-from : {O : Type 0} (sides_of : O → List Side) (hit : O → Side → Bool) (obstacles : List O) (n : ℕ) (rest : List O) → ((k : ℕ) → slice_get obstacles (n + k) ≡ slice_get rest k)
    → list_any (looked_any hit obstacles) (flat_map numbered_sides (enumerate_from n (map sides_of rest))) ≡ list_any (λ o. list_any (hit o) (sides_of o)) rest
any-from sides_of hit obstacles n [] same = refl
any-from sides_of hit obstacles n (o ∷ rest) same =
    list_any-append (looked_any hit obstacles) (numbered_sides (n, sides_of o)) (flat_map numbered_sides (enumerate_from (n + 1) (map sides_of rest)))
    ∙ ap (λ b. b || list_any (looked_any hit obstacles) (flat_map numbered_sides (enumerate_from (n + 1) (map sides_of rest))))
    (any-one hit obstacles n o (ap (slice_get obstacles) (omega arith) ∙ same 0) 0 (sides_of o))
    ∙ ap (λ b. list_any (hit o) (sides_of o) || b) (any-from sides_of hit obstacles (n + 1) rest (λ k. ap (slice_get obstacles) (omega arith) ∙ same (suc k)))

-- one of all sides of an index passes where one of some obstacle does
pub any-by-obstacles : {O : Type 0} (sides_of : O → List Side) (hit : O → Side → Bool) (obstacles : List O)
    → list_any (looked_any hit obstacles) (numbered (map sides_of obstacles)) ≡ list_any (λ o. list_any (hit o) (sides_of o)) obstacles
any-by-obstacles sides_of hit obstacles = any-from sides_of hit obstacles 0 obstacles (λ k. ap (slice_get obstacles) (omega arith))

-- one side more
pub any-more : {O : Type 0} (sides_of : O → List Side) (hit : O → Side → Bool) (obstacles : List O) (sides : List Owned) (i : ℕ) (owned : Owned) (o : O)
    → IsFoundAt sides_of obstacles sides i owned → o ≡ get_or obstacles owned.obstacle o
    → list_any (looked_any hit obstacles) (take (i + 1) sides) ≡ (list_any (looked_any hit obstacles) (take i sides) || hit o owned.side)
any-more sides_of hit obstacles sides i owned o is o-is =
    list_any_more (looked_any hit obstacles) sides i owned is.within
    ∙ ap (λ b. list_any (looked_any hit obstacles) (take i sides) || b)
    (ap (looked_any hit obstacles) (sym is.same) ∙ ap (or_none (λ o. hit o owned.side)) (obstacle-is sides_of obstacles sides i owned o is o-is))
