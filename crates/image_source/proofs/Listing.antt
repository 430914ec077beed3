-- The sides that may reflect to a place: what is asked of them by numbers, and how they are listed.
use Rattle.std.proofs.Common.{◌≡◌, ℕ, suc, ◌+◌, ◌<◌, List, [], ◌∷◌, ◌++◌, length, drop, map, get_or, refl, ap, sym, subst, ◌∙◌, arith, append_assoc, append-nil}
use Rattle.std.specs.Prelude.{ℤ, pos, ◌+ℤ◌, ◌-ℤ◌, ◌*ℤ◌, ◌≤ℤ◌, Bool, true, false, not, ◌&&◌, ◌||◌, ◌==◌, int_lt, flat_map, Option, Some, None, slice_get, ◌⊎◌}
use Rattle.std.specs.Bool.{then_some}
use Rattle.std.specs.Option.{option_to_list, option_and_then}
use Rattle.std.specs.Ordering.{int_eq}
use Rattle.std.specs.List.{All, enumerate_from, filter_map, cons_option}
use Rattle.std.proofs.Common.{inl, inr}
use Rattle.std.proofs.Math.IntN.{*ℤ_comm}
use Rattle.std.proofs.lemmas.Int.{ints}
use Rattle.std.proofs.lemmas.Bool.Decides.{Decides-int_eq}
use Rattle.std.proofs.lemmas.List.{drop_more}
use Rattle.std.proofs.lemmas.List.Elements.{All-append, All-cons, All-get_or, All-nil, filter_map-append}
use Rattle.std.proofs.lemmas.Option.{slice_get_within, get_or_from_slice_get}
use Rattle.scene_geom.specs.declared.plan.Pt.{Pt}
use Rattle.scene_geom.specs.declared.plan.Side.{Side}
use Rattle.scene_geom.specs.declared.fractions.fraction.Frac.{Frac}
use Rattle.scene_geom.specs.Point.{orient_of}
use Rattle.scene_geom.specs.Crossing.{are_opposite}
use Rattle.scene_geom.specs.Outline.{area2_of}
use Rattle.scene_geom.specs.Reflection.{are_on_one_side, have_one_sign, squared_length, specular, off_wall}
use Rattle.scene_geom.proofs.Whole.{mul_sub, mul_add}
use Rattle.scene_geom.proofs.Walls.{over-n, over-d}
use Rattle.scene_parts.specs.Parts.{Obstacle, sides_of}
use Rattle.scene_parts.specs.declared.kinds.Shape.{Shape}
use Rattle.scene_parts.specs.declared.kinds.Shape.TheVariants.{Barrier, Building}
use Rattle.scene_parts.specs.declared.screening.ends.Ends.{Ends}
use Rattle.part_grid.specs.declared.owned.Owned.{Owned}
use Rattle.part_grid.specs.Numbered.{owned_by, numbered_sides}
use Rattle.image_source.specs.Mirrors.{at_place, ahead, strikes, stays_below, faces, has_mirror}
use Rattle.image_source.specs.Facing.{FacingSide, may_reflect_to, may_mirror, facing_in, facing_of, facing_sides}
use Rattle.image_source.specs.inner.Facing.{is_outside_left, is_outside_right, is_in_front, strikes_by, reach, least_reach, reach_end, is_among}
use Rattle.image_source.proofs.Walls.{signs-some}
use Rattle.image_source.proofs.Passing.{before-start, behind-end, unstruck}
use Rattle.image_source.proofs.Reaching.{passed-ahead, long-some}

-- ---- whether a side may mirror a source to a place

-- a path of which heights are left out
abbrev low_path : Pt → Pt → Ends
low_path s r = record { s = s; hs = 0; r = r; hr = 0 }

passed-unstruck : (side : Side) (ends : Ends) → ((ahead side ends.s ≤ℤ pos 0) × (ahead side ends.r ≤ℤ pos 0)) ⊎ ((pos (squared_length side) ≤ℤ ahead side ends.s) × (pos (squared_length side) ≤ℤ ahead side ends.r))
    → (p : Frac) → pos 0 ≤ℤ p.n → p.n ≤ℤ p.d → strikes side ends p ≡ false
passed-unstruck side ends (inl h) p above below = before-start side ends p h.0 h.1 above below
passed-unstruck side ends (inr h) p above below = behind-end side ends p h.0 h.1 above below

second-false : (a b : Bool) → b ≡ false → false ≡ (a && b)
second-false true b h = sym h
second-false false b h = refl

-- nothing is mirrored by a side that passes a source and the receiver
passed-beside : (side : Side) (s r : Pt) (first : ℤ) (count : ℕ)
    → first ≡ least_reach (reach side side.from) (reach side r) → first +ℤ pos count ≡ reach_end (reach side side.to) (reach side r) → is_among (reach side s) first count ≡ false
    → are_on_one_side side s r ≡ true → false ≡ may_mirror side s r
passed-beside side s r first count begins ends passed beside =
    second-false (are_on_one_side side s r) (strikes side (low_path s r) (specular side s r))
    (unstruck side (low_path s r) beside (passed-unstruck side (low_path s r) (passed-ahead side s r first count begins ends passed)))

pub passed-none : (side : Side) (s r : Pt) (first : ℤ) (count : ℕ)
    → first ≡ least_reach (reach side side.from) (reach side r) → first +ℤ pos count ≡ reach_end (reach side side.to) (reach side r) → is_among (reach side s) first count ≡ false
    → false ≡ may_mirror side s r
passed-none side s r first count begins ends passed = by (are_on_one_side side s r) refl where
  by : (test : Bool) → are_on_one_side side s r ≡ test → false ≡ may_mirror side s r
  by true e = passed-beside side s r first count begins ends passed e
  by false e = sym (ap (λ (b : Bool). b && strikes side (low_path s r) (specular side s r)) e)

-- where a path strikes the line of a side, of numbers that aren't divided
even-is : (a b : ℤ) (n m : ℕ) → a *ℤ pos (n + m) +ℤ pos n *ℤ (b -ℤ a) ≡ a *ℤ pos m +ℤ b *ℤ pos n
even-is a b n m =
    let whole : pos (n + m) ≡ pos n +ℤ pos m = omega (arith, ints) in
    rw whole (omega (arith, ints, mul_add (pos n) (pos m) a, mul_sub b a (pos n), *ℤ_comm a (pos n), *ℤ_comm b (pos n)))

place-is : (a b : ℤ) (t : Frac) (n m : ℕ) → t.n ≡ pos n → t.d ≡ pos (n + m) → at_place a b t ≡ a *ℤ pos m +ℤ b *ℤ pos n
place-is a b t n m e f = rw (e, f) (even-is a b n m)

-- so these numbers tell
pub struck-is : (side : Side) (s r : Pt) → are_on_one_side side s r ≡ true
    → strikes_by (ahead side s) (pos (off_wall side s)) (ahead side r) (pos (off_wall side r)) (pos (squared_length side)) ≡ may_mirror side s r
struck-is side s r beside =
    let some = signs-some (orient_of side.from side.to s) (orient_of side.from side.to r) beside in
    let n = over-n (pos (off_wall side s)) (off_wall side s + off_wall side r) in
    let d = over-d (pos (off_wall side s)) (off_wall side s + off_wall side r) (omega (arith, some.0)) in
    let place = place-is (ahead side s) (ahead side r) (specular side s r) (off_wall side s) (off_wall side r) n d in
    let whole : pos (off_wall side s + off_wall side r) ≡ pos (off_wall side s) +ℤ pos (off_wall side r) = omega (arith, ints) in
    sym
    (ap (λ (b : Bool). b && strikes side (low_path s r) (specular side s r)) beside
    ∙ ap (λ (z : ℤ). int_lt (pos 0) z && int_lt z (pos (squared_length side) *ℤ (specular side s r).d)) place
    ∙ ap (λ (z : ℤ). int_lt (pos 0) (ahead side s *ℤ pos (off_wall side r) +ℤ ahead side r *ℤ pos (off_wall side s)) && int_lt (ahead side s *ℤ pos (off_wall side r) +ℤ ahead side r *ℤ pos (off_wall side s)) (pos (squared_length side) *ℤ z)) (d ∙ whole))

-- ---- whether a side may reflect to a place

-- what lies off the line of a side is in front of a barrier's, and of a building's where its area is on the other hand
front-of_barrier : (off : ℤ) → is_in_front off true true ≡ (not (int_eq off (pos 0)) && true)
front-of_barrier off = by (int_lt (pos 0) off) (int_lt off (pos 0)) refl refl where
  by : (l r : Bool) → int_lt (pos 0) off ≡ l → int_lt off (pos 0) ≡ r → is_in_front off true true ≡ (not (int_eq off (pos 0)) && true)
  by true true e f = absurd (omega (arith, ints))
  by true false e f = rw (e, f) refl
  by false true e f = rw (e, f) refl
  by false false e f = let on : off ≡ pos 0 = omega (arith, ints) in rw on refl

front-of_building : (off area : ℤ) → is_in_front off (int_lt area (pos 0)) (int_lt (pos 0) area) ≡ (not (int_eq off (pos 0)) && are_opposite off area)
front-of_building off area = by (int_lt (pos 0) off) (int_lt off (pos 0)) refl refl where
  either-way : (a b : Bool) → a ≡ (a && true)
  either-way true b = refl
  either-way false b = refl

  first-way : (a b : Bool) → a ≡ (a || b && false)
  first-way true b = refl
  first-way false true = refl
  first-way false false = refl

  by : (l r : Bool) → int_lt (pos 0) off ≡ l → int_lt off (pos 0) ≡ r → is_in_front off (int_lt area (pos 0)) (int_lt (pos 0) area) ≡ (not (int_eq off (pos 0)) && are_opposite off area)
  by true true e f = absurd (omega (arith, ints))
  by true false e f = rw (e, f) (either-way (int_lt area (pos 0)) true)
  by false true e f = rw (e, f) (first-way (int_lt (pos 0) area) (int_lt area (pos 0)))
  by false false e f = let on : off ≡ pos 0 = omega (arith, ints) in rw on refl

front-is : (shape : Shape) (corners : List Pt) (side : Side) (at : Pt)
    → is_in_front (orient_of side.from side.to at) (is_outside_left shape corners) (is_outside_right shape corners) ≡ (not (int_eq (orient_of side.from side.to at) (pos 0)) && faces shape corners side at)
front-is Barrier corners side at = front-of_barrier (orient_of side.from side.to at)
front-is Building corners side at = front-of_building (orient_of side.from side.to at) (area2_of corners)

-- of an obstacle that reflects its outside tells
pub facing-is : (at : Pt) (o : Obstacle) (owned : Owned) → (o.rho == 0) ≡ false
    → facing_in at o owned ≡ then_some (is_in_front (orient_of owned.side.from owned.side.to at) (is_outside_left o.shape o.points) (is_outside_right o.shape o.points)) (record { owned = owned; at = at })
facing-is at o owned some =
    let off = orient_of owned.side.from owned.side.to at in
    let made : FacingSide = record { owned = owned; at = at } in
    ap (λ (b : Bool). then_some (not b && (not (int_eq off (pos 0)) && faces o.shape o.points owned.side at)) made) some
    ∙ ap (λ (b : Bool). then_some b made) (sym (front-is o.shape o.points owned.side at))

-- a side that a place is in front of is longer than 0
pub in-front-long : (side : Side) (at : Pt) (left right : Bool) → is_in_front (orient_of side.from side.to at) left right ≡ true → 0 < squared_length side
in-front-long side at left right h = long-some side at (λ e. on-line (orient_of side.from side.to at) left right e h) where
  on-line : (off : ℤ) (left right : Bool) → off ≡ pos 0 → is_in_front off left right ≡ true → ⊥
  on-line off left right e h = let none : false ≡ true = rw e at h in absurd (cc)

-- ---- the list

-- what a list gives for a thing before others
filter_map-cons : {X Y : Type 0} (f : X → Option Y) (x : X) (xs : List X) → filter_map f (x ∷ xs) ≡ option_to_list (f x) ++ filter_map f xs
filter_map-cons f x xs = by (f x) refl where
  by : (found : Option _) → f x ≡ found → filter_map f (x ∷ xs) ≡ option_to_list (f x) ++ filter_map f xs
  by None e = rw e refl
  by (Some y) e = rw e refl

-- an obstacle that doesn't reflect has no such side
none-of : (at : Pt) (o : Obstacle) (sides : List Owned) → o.rho ≡ 0 → filter_map (facing_in at o) sides ≡ []
none-of at o [] e = refl
none-of at o (owned ∷ sides) e =
    let none : facing_in at o owned ≡ None = rw e refl in
    rw none (none-of at o sides e)

pub nothing-faces : (at : Pt) (n : ℕ) (o : Obstacle) (found : List FacingSide) → o.rho ≡ 0 → found ≡ found ++ facing_of at (n, o)
nothing-faces at n o found e = sym (append-nil found) ∙ ap (λ xs. found ++ xs) (sym (none-of at o (numbered_sides (n, sides_of o)) e))

-- what is listed, and what the sides behind give, is the same after a side
pub side-listed : (at : Pt) (o : Obstacle) (n k : ℕ) (side : Side) (found new all : List FacingSide) → slice_get (sides_of o) k ≡ Some side
    → new ≡ found ++ option_to_list (facing_in at o (owned_by n (k, side)))
    → found ++ filter_map (facing_in at o) (map (owned_by n) (enumerate_from k (drop k (sides_of o)))) ≡ all
    → new ++ filter_map (facing_in at o) (map (owned_by n) (enumerate_from (k + 1) (drop (k + 1) (sides_of o)))) ≡ all
side-listed at o n k side found new all e added h =
    let rest = filter_map (facing_in at o) (map (owned_by n) (enumerate_from (k + 1) (drop (k + 1) (sides_of o)))) in
    let one = option_to_list (facing_in at o (owned_by n (k, side))) in
    let here : drop k (sides_of o) ≡ side ∷ drop (k + 1) (sides_of o) =
    drop_more (sides_of o) k side (slice_get_within (sides_of o) k side e) ∙ ap (λ x. x ∷ drop (k + 1) (sides_of o)) (get_or_from_slice_get (sides_of o) k side side e) in
    let next : filter_map (facing_in at o) (map (owned_by n) (enumerate_from k (drop k (sides_of o)))) ≡ one ++ rest =
    ap (λ sides. filter_map (facing_in at o) (map (owned_by n) (enumerate_from k sides))) here
    ∙ filter_map-cons (facing_in at o) (owned_by n (k, side)) (map (owned_by n) (enumerate_from (k + 1) (drop (k + 1) (sides_of o)))) in
    ap (λ xs. xs ++ rest) added ∙ append_assoc found one rest ∙ ap (λ xs. found ++ xs) (sym next) ∙ h

-- and after an obstacle
pub obstacle-listed : (at : Pt) (obstacles : List Obstacle) (i : ℕ) (o : Obstacle) (found new all : List FacingSide) → i < length obstacles → o ≡ get_or obstacles i o
    → new ≡ found ++ facing_of at (i, o)
    → found ++ flat_map (facing_of at) (enumerate_from i (drop i obstacles)) ≡ all
    → new ++ flat_map (facing_of at) (enumerate_from (i + 1) (drop (i + 1) obstacles)) ≡ all
obstacle-listed at obstacles i o found new all below is added h =
    let rest = flat_map (facing_of at) (enumerate_from (i + 1) (drop (i + 1) obstacles)) in
    let here : drop i obstacles ≡ o ∷ drop (i + 1) obstacles = drop_more obstacles i o below ∙ ap (λ x. x ∷ drop (i + 1) obstacles) (sym is) in
    ap (λ xs. xs ++ rest) added ∙ append_assoc found (facing_of at (i, o)) rest
    ∙ ap (λ xs. found ++ flat_map (facing_of at) (enumerate_from i xs)) (sym here) ∙ h

-- ---- what a side that isn't listed doesn't do

first-of : (a b c d e : Bool) → (a && b && c && d && e) ≡ true → a ≡ true
first-of true b c d e h = refl
first-of false b c d e h = absurd (cc)

second-of : (a b c d e : Bool) → (a && b && c && d && e) ≡ true → b ≡ true
second-of true true c d e h = refl
second-of true false c d e h = absurd (cc)
second-of false b c d e h = absurd (cc)

third-of : (a b c d e : Bool) → (a && b && c && d && e) ≡ true → c ≡ true
third-of true true true d e h = refl
third-of true true false d e h = absurd (cc)
third-of true false c d e h = absurd (cc)
third-of false b c d e h = absurd (cc)

fifth-of : (a b c d e : Bool) → (a && b && c && d && e) ≡ true → e ≡ true
fifth-of true true true true e h = h
fifth-of true true true false e h = absurd (cc)
fifth-of true true false d e h = absurd (cc)
fifth-of true false c d e h = absurd (cc)
fifth-of false b c d e h = absurd (cc)

-- what isn't so where it would give something that isn't so
unless : (a b : Bool) → (a ≡ true → b ≡ true) → b ≡ false → a ≡ false
unless true b h k = sym (h refl) ∙ k
unless false b h k = refl

-- numbers of one sign are on one side of 0
second-some : (a b : ℤ) → have_one_sign a b ≡ true → int_eq b (pos 0) ≡ false
second-some a b h = by (int_eq b (pos 0)) refl where
  by : (test : Bool) → int_eq b (pos 0) ≡ test → test ≡ false
  by true e = absurd (omega (arith, ints, (signs-some a b h).1, (Decides-int_eq b (pos 0)).0 e))
  by false e = refl

opposite-same : (a b area : ℤ) → have_one_sign a b ≡ true → are_opposite a area ≡ true → are_opposite b area ≡ true
opposite-same a b area h k = grind (arith, ints)

-- source and receiver are in front of a side together
faces-same : (shape : Shape) (corners : List Pt) (side : Side) (s r : Pt) → are_on_one_side side s r ≡ true → faces shape corners side s ≡ true → faces shape corners side r ≡ true
faces-same Barrier corners side s r h k = refl
faces-same Building corners side s r h k = opposite-same (orient_of side.from side.to s) (orient_of side.from side.to r) (area2_of corners) h k

mirrors-face : (o : Obstacle) (side : Side) (ends : Ends) → has_mirror o side ends ≡ true → may_reflect_to ends.r o side ≡ true
mirrors-face o side ends h =
    let a = not (o.rho == 0) in
    let b = are_on_one_side side ends.s ends.r in
    let c = strikes side ends (specular side ends.s ends.r) in
    let d = stays_below ends o.h (specular side ends.s ends.r) in
    let e = faces o.shape o.points side ends.s in
    let beside = second-of a b c d e h in
    let some = second-some (orient_of side.from side.to ends.s) (orient_of side.from side.to ends.r) beside in
    let front = faces-same o.shape o.points side ends.s ends.r beside (fifth-of a b c d e h) in
    rw (first-of a b c d e h, some, front) refl

-- a side that may not reflect to the receiver mirrors nothing to it
pub unfaced : (o : Obstacle) (side : Side) (ends : Ends) → may_reflect_to ends.r o side ≡ false → has_mirror o side ends ≡ false
unfaced o side ends h = unless (has_mirror o side ends) (may_reflect_to ends.r o side) (mirrors-face o side ends) h

mirrors-may : (o : Obstacle) (side : Side) (ends : Ends) → has_mirror o side ends ≡ true → may_mirror side ends.s ends.r ≡ true
mirrors-may o side ends h =
    let a = not (o.rho == 0) in
    let b = are_on_one_side side ends.s ends.r in
    let c = strikes side ends (specular side ends.s ends.r) in
    let d = stays_below ends o.h (specular side ends.s ends.r) in
    let e = faces o.shape o.points side ends.s in
    let struck : strikes side (low_path ends.s ends.r) (specular side ends.s ends.r) ≡ true = third-of a b c d e h in
    rw (second-of a b c d e h, struck) refl

-- nor one that may not mirror the source to it
pub unmirrored : (o : Obstacle) (side : Side) (ends : Ends) → may_mirror side ends.s ends.r ≡ false → has_mirror o side ends ≡ false
unmirrored o side ends h = unless (has_mirror o side ends) (may_mirror side ends.s ends.r) (mirrors-may o side ends) h

-- ---- what is listed

-- a side that stands where its numbers say, of an obstacle that reflects, with the place of the list
pub record IsListed (at : Pt) (obstacles : List Obstacle) (facing : FacingSide) : Type 0 where
  pub obstacle : Obstacle
  pub found : slice_get obstacles facing.owned.obstacle ≡ Some obstacle
  pub is : slice_get (sides_of obstacle) facing.owned.index ≡ Some facing.owned.side
  pub place : facing.at ≡ at
  pub reflects : 0 < obstacle.rho

reflecting : (n : ℕ) (b : Bool) → (not (n == 0) && b) ≡ true → 0 < n
reflecting n b h = by (n == 0) refl h where
  some : (n == 0) ≡ false → 0 < n
  some e = grind arith

  by : (test : Bool) → (n == 0) ≡ test → (not test && b) ≡ true → 0 < n
  by true e h = absurd (cc)
  by false e h = some e

one-listed : (at : Pt) (obstacles : List Obstacle) (i : ℕ) (o : Obstacle) (n : ℕ) (side : Side) (rest : List FacingSide) → slice_get obstacles i ≡ Some o → slice_get (sides_of o) n ≡ Some side
    → All (IsListed at obstacles) rest → All (IsListed at obstacles) (cons_option (facing_in at o (owned_by i (n, side))) rest)
one-listed at obstacles i o n side rest found is h = by (may_reflect_to at o side) refl where
  by : (test : Bool) → may_reflect_to at o side ≡ test → All (IsListed at obstacles) (cons_option (then_some test (record { owned = owned_by i (n, side); at = at })) rest)
  by true e =
      All-cons (IsListed at obstacles) (record { owned = owned_by i (n, side); at = at }) rest
      (record { obstacle = o; found = found; is = is; place = refl; reflects = reflecting o.rho (not (int_eq (orient_of side.from side.to at) (pos 0)) && faces o.shape o.points side at) e })
      h
  by false e = h

sides-are-listed : (at : Pt) (obstacles : List Obstacle) (i : ℕ) (o : Obstacle) → slice_get obstacles i ≡ Some o → (n : ℕ) (rest : List Side)
    → ((k : ℕ) → slice_get (sides_of o) (n + k) ≡ slice_get rest k) → All (IsListed at obstacles) (filter_map (facing_in at o) (map (owned_by i) (enumerate_from n rest)))
sides-are-listed at obstacles i o found n [] same = All-nil (IsListed at obstacles)
sides-are-listed at obstacles i o found n (side ∷ rest) same =
    one-listed at obstacles i o n side (filter_map (facing_in at o) (map (owned_by i) (enumerate_from (n + 1) rest))) found (ap (slice_get (sides_of o)) (omega arith) ∙ same 0)
    (sides-are-listed at obstacles i o found (n + 1) rest (λ k. ap (slice_get (sides_of o)) (omega arith) ∙ same (suc k)))

obstacles-are-listed : (at : Pt) (obstacles : List Obstacle) (n : ℕ) (rest : List Obstacle) → ((k : ℕ) → slice_get obstacles (n + k) ≡ slice_get rest k)
    → All (IsListed at obstacles) (flat_map (facing_of at) (enumerate_from n rest))
obstacles-are-listed at obstacles n [] same = All-nil (IsListed at obstacles)
obstacles-are-listed at obstacles n (o ∷ rest) same =
    All-append (IsListed at obstacles) (facing_of at (n, o)) (flat_map (facing_of at) (enumerate_from (n + 1) rest))
    (sides-are-listed at obstacles n o (ap (slice_get obstacles) (omega arith) ∙ same 0) 0 (sides_of o) (λ k. ap (slice_get (sides_of o)) (omega arith)))
    (obstacles-are-listed at obstacles (n + 1) rest (λ k. ap (slice_get obstacles) (omega arith) ∙ same (suc k)))

-- each side of a list is so
pub listed-at : (at : Pt) (obstacles : List Obstacle) (list : List FacingSide) (i : ℕ) (facing : FacingSide) → list ≡ facing_sides at obstacles → i < length list → facing ≡ get_or list i facing
    → IsListed at obstacles facing
listed-at at obstacles list i facing are below is =
    let all : All (IsListed at obstacles) (facing_sides at obstacles) = obstacles-are-listed at obstacles 0 obstacles (λ k. ap (slice_get obstacles) (omega arith)) in
    let same : facing ≡ get_or (facing_sides at obstacles) i facing = is ∙ ap (λ (fs : List FacingSide). get_or fs i facing) are in
    subst (IsListed at obstacles) (sym same) (All-get_or (IsListed at obstacles) (facing_sides at obstacles) i facing (omega (arith, below, ap length are)) all)

-- what is found of a side, given the obstacle of its number
abbrev pub found_of : {X : Type 0} → (Obstacle → Side → Option X) → List Obstacle → FacingSide → Option X
found_of way obstacles facing = option_and_then (λ o. way o facing.owned.side) (slice_get obstacles facing.owned.obstacle)

sides-give : {X : Type 0} (way : Obstacle → Side → Option X) (at : Pt) (obstacles : List Obstacle) (i : ℕ) (o : Obstacle) → slice_get obstacles i ≡ Some o
    → ((side : Side) → may_reflect_to at o side ≡ false → way o side ≡ None) → (n : ℕ) (sides : List Side)
    → filter_map (found_of way obstacles) (filter_map (facing_in at o) (map (owned_by i) (enumerate_from n sides))) ≡ filter_map (way o) sides
sides-give way at obstacles i o found none n [] = refl
sides-give way at obstacles i o found none n (side ∷ sides) = by_test (may_reflect_to at o side) refl (sides-give way at obstacles i o found none (n + 1) sides) where
  by_test : (test : Bool) → may_reflect_to at o side ≡ test
      → filter_map (found_of way obstacles) (filter_map (facing_in at o) (map (owned_by i) (enumerate_from (n + 1) sides))) ≡ filter_map (way o) sides
      → filter_map (found_of way obstacles) (cons_option (then_some test (record { owned = owned_by i (n, side); at = at })) (filter_map (facing_in at o) (map (owned_by i) (enumerate_from (n + 1) sides))))
      ≡ cons_option (way o side) (filter_map (way o) sides)
  by_test true e h =
      ap (λ x. cons_option (option_and_then (λ o. way o side) x) (filter_map (found_of way obstacles) (filter_map (facing_in at o) (map (owned_by i) (enumerate_from (n + 1) sides))))) found
      ∙ ap (cons_option (way o side)) h
  by_test false e h = h ∙ ap (λ x. cons_option x (filter_map (way o) sides)) (sym (none side e))

obstacles-give : {X : Type 0} (way : Obstacle → Side → Option X) (at : Pt) (obstacles : List Obstacle) → ((o : Obstacle) (side : Side) → may_reflect_to at o side ≡ false → way o side ≡ None)
    → (n : ℕ) (rest : List Obstacle) → ((k : ℕ) → slice_get obstacles (n + k) ≡ slice_get rest k)
    → filter_map (found_of way obstacles) (flat_map (facing_of at) (enumerate_from n rest)) ≡ flat_map (λ o. filter_map (way o) (sides_of o)) rest
obstacles-give way at obstacles none n [] same = refl
obstacles-give way at obstacles none n (o ∷ rest) same =
    filter_map-append (found_of way obstacles) (facing_of at (n, o)) (flat_map (facing_of at) (enumerate_from (n + 1) rest))
    ∙ ap (λ xs. xs ++ filter_map (found_of way obstacles) (flat_map (facing_of at) (enumerate_from (n + 1) rest))) (sides-give way at obstacles n o (ap (slice_get obstacles) (omega arith) ∙ same 0) (none o) 0 (sides_of o))
    ∙ ap (λ xs. filter_map (way o) (sides_of o) ++ xs) (obstacles-give way at obstacles none (n + 1) rest (λ k. ap (slice_get obstacles) (omega arith) ∙ same (suc k)))

-- where a side that may not reflect to the place gives nothing, those that are listed give what all give
pub listed-give-all : {X : Type 0} (way : Obstacle → Side → Option X) (at : Pt) (obstacles : List Obstacle) → ((o : Obstacle) (side : Side) → may_reflect_to at o side ≡ false → way o side ≡ None)
    → filter_map (found_of way obstacles) (facing_sides at obstacles) ≡ flat_map (λ o. filter_map (way o) (sides_of o)) obstacles
listed-give-all way at obstacles none = obstacles-give way at obstacles none 0 obstacles (λ k. ap (slice_get obstacles) (omega arith))
