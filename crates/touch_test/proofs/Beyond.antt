-- Sides and outlines that lie beyond an edge of a box, and the ways that the box holds: none of the sides crosses a way,
-- and no outline is met.
use Rattle.std.proofs.Common.{◌≡◌, ℕ, zero, suc, ◌*◌, arith, ap, subst, ◌∙◌, sym, refl, Bool, true, false, List, [], ◌∷◌, ◌++◌}
use Rattle.std.specs.Prelude.{ℤ, pos, negsuc, ◌+ℤ◌, ◌-ℤ◌, ◌*ℤ◌, ◌<ℤ◌, ◌≤ℤ◌, neg_ℤ, int_lt, ◌&&◌, Option, None, Some, is_some, if◌then◌else◌}
use Rattle.std.specs.Bool.{then_some}
use Rattle.std.specs.Option.{option_map, option_and_then}
use Rattle.std.specs.List.{list_all, list_any, cons_option}
use Rattle.std.proofs.lemmas.Int.{ints}
use Rattle.std.proofs.lemmas.List.Folds.{list_all-append}
use Rattle.std.proofs.Math.IntN.{+ℤ_idl}
use Rattle.scene_geom.specs.declared.plan.Pt.{Pt}
use Rattle.scene_geom.specs.declared.plan.Side.{Side}
use Rattle.scene_geom.specs.declared.fractions.fraction.Frac.{Frac}
use Rattle.scene_geom.specs.declared.directions.direction.Dir.{Dir}
use Rattle.scene_geom.specs.declared.meetings.crossing.Passage.{Passage}
use Rattle.scene_geom.specs.Vector.{Vector, cross}
use Rattle.scene_geom.specs.Point.{from_to, along}
use Rattle.scene_geom.specs.Fraction.{over, is_ahead, is_inside}
use Rattle.scene_geom.specs.Direction.{way}
use Rattle.scene_geom.specs.Crossing.{differ, is_left, is_split, hits_of, passage_of}
use Rattle.scene_geom.specs.Outline.{passages_of, sides_along, ring, turn_of, winding_of, meets_of}
use Rattle.scene_geom.proofs.Whole.{sub_mul, mul_add}
use Rattle.scene_geom.proofs.Vectors.{cross-between}
use Rattle.part_grid.proofs.Shared.{cross-x, cross-y}
use Rattle.part_grid.specs.Laws.{LiesBetween}
use Rattle.part_grid.proofs.Boxed.{mul-neg, above-none, below-none, CrossesWay, crosses-way}

-- ---- on which hand of its start a line is crossed

both-true : (a b : Bool) → (a && b) ≡ true → (a ≡ true) × (b ≡ true)
both-true true b e = (refl, e)
both-true false b e = absurd (cc)

-- the product of both cross products, by the ends of the side
shared-ends : (r v D p q w u t : ℤ) → r *ℤ v ≡ D *ℤ w -ℤ p *ℤ u → D ≡ q -ℤ p → t ≡ w +ℤ u → r *ℤ v ≡ q *ℤ w -ℤ p *ℤ t
shared-ends r v D p q w u t e f g =
    gathered (r *ℤ v) (D *ℤ w) (p *ℤ u) (q *ℤ w) (p *ℤ w) (p *ℤ t) e (ap (λ (z : ℤ). z *ℤ w) f ∙ sub_mul q p w) (ap (λ (z : ℤ). p *ℤ z) g ∙ mul_add w u p)
  where
    gathered : (x a b c d s : ℤ) → x ≡ a -ℤ b → a ≡ c -ℤ d → s ≡ d +ℤ b → x ≡ c -ℤ s
    gathered x a b c d s e f g = omega (arith, ints)

above-zero : (z : ℤ) → pos 0 <ℤ z → int_lt (pos 0) z ≡ true
above-zero z h = sym (omega (arith, ints))

not-above : (z : ℤ) → z ≤ℤ pos 0 → int_lt (pos 0) z ≡ false
not-above z h = sym (omega (arith, ints))

-- a product above 0 has factors of one sign, and one below 0 of two
product-above : (r v w : ℤ) → pos 0 <ℤ (r *ℤ v) → pos 0 <ℤ w → int_lt (pos 0) (r *ℤ w) ≡ int_lt (pos 0) v
product-above (pos zero) v w some h = absurd (omega (arith, ints))
product-above (pos (suc r)) (pos zero) w some h = absurd (omega (arith, ints))
product-above (pos (suc r)) (pos (suc v)) (pos zero) some h = absurd (omega (arith, ints))
product-above (pos (suc r)) (pos (suc v)) (pos (suc w)) some h = above-zero (pos (suc r) *ℤ pos (suc w)) (omega (arith, ints)) ∙ sym (above-zero (pos (suc v)) (omega (arith, ints)))
product-above (pos (suc r)) (pos (suc v)) (negsuc w) some h = absurd (omega (arith, ints))
product-above (pos (suc r)) (negsuc v) w some h = absurd (omega (arith, ints))
product-above (negsuc r) (pos zero) w some h = absurd (omega (arith, ints))
product-above (negsuc r) (pos (suc v)) w some h = absurd (omega (arith, ints))
product-above (negsuc r) (negsuc v) (pos zero) some h = absurd (omega (arith, ints))
product-above (negsuc r) (negsuc v) (pos (suc w)) some h = not-above (negsuc r *ℤ pos (suc w)) (omega (arith, ints)) ∙ sym (not-above (negsuc v) (omega (arith, ints)))
product-above (negsuc r) (negsuc v) (negsuc w) some h = absurd (omega (arith, ints))

product-below : (r v w : ℤ) → (r *ℤ v) <ℤ pos 0 → pos 0 <ℤ w → int_lt (pos 0) (neg_ℤ (r *ℤ w)) ≡ int_lt (pos 0) v
product-below (pos zero) v w some h = absurd (omega (arith, ints))
product-below (pos (suc r)) (pos zero) w some h = absurd (omega (arith, ints))
product-below (pos (suc r)) (pos (suc v)) w some h = absurd (omega (arith, ints))
product-below (pos (suc r)) (negsuc v) (pos zero) some h = absurd (omega (arith, ints))
product-below (pos (suc r)) (negsuc v) (pos (suc w)) some h = not-above (neg_ℤ (pos (suc r) *ℤ pos (suc w))) (omega (arith, ints)) ∙ sym (not-above (negsuc v) (omega (arith, ints)))
product-below (pos (suc r)) (negsuc v) (negsuc w) some h = absurd (omega (arith, ints))
product-below (negsuc r) (pos zero) w some h = absurd (omega (arith, ints))
product-below (negsuc r) (pos (suc v)) (pos zero) some h = absurd (omega (arith, ints))
product-below (negsuc r) (pos (suc v)) (pos (suc w)) some h = above-zero (neg_ℤ (negsuc r *ℤ pos (suc w))) (omega (arith, ints)) ∙ sym (above-zero (pos (suc v)) (omega (arith, ints)))
product-below (negsuc r) (pos (suc v)) (negsuc w) some h = absurd (omega (arith, ints))
product-below (negsuc r) (negsuc v) w some h = absurd (omega (arith, ints))

-- a sum of a product above 0 and one not below 0, by the signs of the factors
sum-above : (p q A B : ℤ) → p ≤ℤ pos 0 → pos 0 <ℤ q → pos 0 <ℤ A → pos 0 <ℤ B → pos 0 <ℤ (q *ℤ A -ℤ p *ℤ B)
sum-above (pos zero) (pos (suc q)) (pos (suc a)) (pos (suc b)) h k ha hb = omega (arith, ints)
sum-above (negsuc p) (pos (suc q)) (pos (suc a)) (pos (suc b)) h k ha hb = omega (arith, ints)
sum-above (pos (suc p)) q A B h k ha hb = absurd (omega (arith, ints))
sum-above p (pos zero) A B h k ha hb = absurd (omega (arith, ints))
sum-above p (negsuc q) A B h k ha hb = absurd (omega (arith, ints))
sum-above p q (pos zero) B h k ha hb = absurd (omega (arith, ints))
sum-above p q (negsuc a) B h k ha hb = absurd (omega (arith, ints))
sum-above p q A (pos zero) h k ha hb = absurd (omega (arith, ints))
sum-above p q A (negsuc b) h k ha hb = absurd (omega (arith, ints))

sum-below : (p q A B : ℤ) → pos 0 <ℤ p → q ≤ℤ pos 0 → pos 0 <ℤ A → pos 0 <ℤ B → (q *ℤ A -ℤ p *ℤ B) <ℤ pos 0
sum-below p q A B h k ha hb =
    turned (q *ℤ A) (p *ℤ B) (sum-above q p B A k h hb ha)
  where
    turned : (x y : ℤ) → pos 0 <ℤ (y -ℤ x) → (x -ℤ y) <ℤ pos 0
    turned x y h = omega (arith, ints)

-- where both ends of a side are ahead of a start in one coordinate, the line crosses the side ahead just where it leads
-- that way
ahead-is : (r v D p q A B w : ℤ) → r *ℤ v ≡ q *ℤ A -ℤ p *ℤ B → D ≡ q -ℤ p → differ (int_lt (pos 0) p) (int_lt (pos 0) q) ≡ true
    → pos 0 <ℤ A → pos 0 <ℤ B → pos 0 <ℤ w → is_ahead (over (r *ℤ w) D) ≡ int_lt (pos 0) v
ahead-is r v D p q A B w e d split ha hb hw = by_side (int_lt (pos 0) p) (int_lt (pos 0) q) refl refl split where
  rising : p ≤ℤ pos 0 → pos 0 <ℤ q → is_ahead (over (r *ℤ w) D) ≡ int_lt (pos 0) v
  rising h k =
      let some : pos 0 <ℤ (r *ℤ v) = subst (λ (z : ℤ). pos 0 <ℤ z) (sym e) (sum-above p q A B h k ha hb) in
      over_above D (omega (arith, ints, d, h, k)) ∙ product-above r v w some hw
    where
      over_above : (D : ℤ) → pos 0 <ℤ D → is_ahead (over (r *ℤ w) D) ≡ int_lt (pos 0) (r *ℤ w)
      over_above (pos zero) some = absurd (omega (arith, ints))
      over_above (pos (suc n)) some = refl
      over_above (negsuc n) some = absurd (omega (arith, ints))

  falling : pos 0 <ℤ p → q ≤ℤ pos 0 → is_ahead (over (r *ℤ w) D) ≡ int_lt (pos 0) v
  falling h k =
      let some : (r *ℤ v) <ℤ pos 0 = subst (λ (z : ℤ). z <ℤ pos 0) (sym e) (sum-below p q A B h k ha hb) in
      over_below D (omega (arith, ints, d, h, k)) ∙ product-below r v w some hw
    where
      over_below : (D : ℤ) → D <ℤ pos 0 → is_ahead (over (r *ℤ w) D) ≡ int_lt (pos 0) (neg_ℤ (r *ℤ w))
      over_below (pos n) some = absurd (omega (arith, ints))
      over_below (negsuc n) some = refl

  by_side : (b a : Bool) → int_lt (pos 0) p ≡ b → int_lt (pos 0) q ≡ a → differ b a ≡ true → is_ahead (over (r *ℤ w) D) ≡ int_lt (pos 0) v
  by_side true true f g h = absurd (cc)
  by_side true false f g h = falling (omega (arith, ints, f)) (omega (arith, ints, g))
  by_side false true f g h = rising (omega (arith, ints, f)) (omega (arith, ints, g))
  by_side false false f g h = absurd (cc)

-- the same of a side and a line, by each coordinate and either hand
abbrev place : Side → Pt → Dir → Frac
place side from dir = over (cross (from_to from side.from) (along side) *ℤ dir.w) (cross (way dir) (along side))

product-x : (side : Side) (from : Pt) (v : Vector)
    → cross (from_to from side.from) (along side) *ℤ v.x
    ≡ cross v (from_to from side.to) *ℤ (side.from.x -ℤ from.x) -ℤ cross v (from_to from side.from) *ℤ (side.to.x -ℤ from.x)
product-x side from v =
    shared-ends (cross (from_to from side.from) (along side)) v.x (cross v (along side)) (cross v (from_to from side.from)) (cross v (from_to from side.to))
    (side.from.x -ℤ from.x) (side.to.x -ℤ side.from.x) (side.to.x -ℤ from.x)
    (cross-x (along side) v (from_to from side.from)) (sym (cross-between v from side.from side.to)) (omega (arith, ints))

product-y : (side : Side) (from : Pt) (v : Vector)
    → cross (from_to from side.from) (along side) *ℤ v.y
    ≡ cross v (from_to from side.to) *ℤ (side.from.y -ℤ from.y) -ℤ cross v (from_to from side.from) *ℤ (side.to.y -ℤ from.y)
product-y side from v =
    shared-ends (cross (from_to from side.from) (along side)) v.y (cross v (along side)) (cross v (from_to from side.from)) (cross v (from_to from side.to))
    (side.from.y -ℤ from.y) (side.to.y -ℤ side.from.y) (side.to.y -ℤ from.y)
    (cross-y (along side) v (from_to from side.from)) (sym (cross-between v from side.from side.to)) (omega (arith, ints))

negated : (r v p q A B : ℤ) → r *ℤ v ≡ q *ℤ A -ℤ p *ℤ B → r *ℤ neg_ℤ v ≡ q *ℤ neg_ℤ A -ℤ p *ℤ neg_ℤ B
negated r v p q A B e =
    gathered (r *ℤ v) (r *ℤ neg_ℤ v) (q *ℤ A) (q *ℤ neg_ℤ A) (p *ℤ B) (p *ℤ neg_ℤ B) e (mul-neg r v) (mul-neg q A) (mul-neg p B)
  where
    gathered : (x x' a a' b b' : ℤ) → x ≡ a -ℤ b → x' ≡ neg_ℤ x → a' ≡ neg_ℤ a → b' ≡ neg_ℤ b → x' ≡ a' -ℤ b'
    gathered x x' a a' b b' e f g h = omega (arith, ints)

ahead-by : (side : Side) (from : Pt) (dir : Dir) (v A B : ℤ)
    → cross (from_to from side.from) (along side) *ℤ v ≡ cross (way dir) (from_to from side.to) *ℤ A -ℤ cross (way dir) (from_to from side.from) *ℤ B
    → is_split side from (way dir) ≡ true → pos 0 <ℤ A → pos 0 <ℤ B → is_ahead (place side from dir) ≡ int_lt (pos 0) v
ahead-by side from dir v A B e split ha hb =
    ahead-is (cross (from_to from side.from) (along side)) v (cross (way dir) (along side)) (cross (way dir) (from_to from side.from)) (cross (way dir) (from_to from side.to)) A B dir.w
    e (sym (cross-between (way dir) from side.from side.to)) split ha hb dir.positive

-- ---- an outline whose corners pass a test, such that the line crosses the sides between them all ahead, or all behind

abbrev turn_or_none : Option Passage → ℤ
turn_or_none None = pos 0
turn_or_none (Some passage) = turn_of passage

abbrev number : Bool → ℤ
number true = pos 1
number false = pos 0

-- what a side from one hand to another adds to the winding
abbrev step : Bool → Bool → Bool → ℤ
step fwd la lb = if fwd then number lb -ℤ number la else pos 0

turn-is : (la lb fwd : Bool) (at : Frac) → (differ la lb ≡ true → is_ahead at ≡ fwd)
    → turn_or_none (option_map (λ p. record { place = p; to_left = lb }) (then_some (differ la lb) at)) ≡ step fwd la lb
turn-is true true true at h = refl
turn-is true true false at h = refl
turn-is false false true at h = refl
turn-is false false false at h = refl
turn-is true false true at h = rw (h refl) refl
turn-is true false false at h = rw (h refl) refl
turn-is false true true at h = rw (h refl) refl
turn-is false true false at h = rw (h refl) refl

winding-cons : (hit : Option Passage) (passages : List Passage) → winding_of (cons_option hit passages) ≡ turn_or_none hit +ℤ winding_of passages
winding-cons None passages = sym (+ℤ_idl (winding_of passages))
winding-cons (Some passage) passages = refl

steps-add : (fwd a b c : Bool) → step fwd a b +ℤ step fwd b c ≡ step fwd a c
steps-add true true true true = refl
steps-add true true true false = refl
steps-add true true false true = refl
steps-add true true false false = refl
steps-add true false true true = refl
steps-add true false true false = refl
steps-add true false false true = refl
steps-add true false false false = refl
steps-add false a b c = refl

no-step : (fwd a : Bool) → step fwd a a ≡ pos 0
no-step true true = refl
no-step true false = refl
no-step false a = refl

abbrev last_of : Pt → List Pt → Pt
last_of a [] = a
last_of a (b ∷ rest) = last_of b rest

last-closed : (a first : Pt) (rest : List Pt) → last_of a (rest ++ first ∷ []) ≡ first
last-closed a first [] = refl
last-closed a first (b ∷ rest) = last-closed b first rest

-- the sides between corners that pass a test cross the line, if at all, on one hand of its start, and nowhere before an end
pub record AreOnHand (test : Pt → Bool) (from : Pt) (dir : Dir) (end : Frac) (fwd : Bool) : Type 0 where
  pub ahead : (side : Side) → test side.from ≡ true → test side.to ≡ true → is_split side from (way dir) ≡ true
      → is_ahead (place side from dir) ≡ fwd
  pub outside : (side : Side) (at : Frac) → test side.from ≡ true → test side.to ≡ true → hits_of side from dir ≡ Some at
      → is_inside at end ≡ false

module _ (test : Pt → Bool) (from : Pt) (dir : Dir) (end : Frac) (fwd : Bool) (on : AreOnHand test from dir end fwd) where
  abbrev left : Pt → Bool
  left c = is_left from (way dir) c

  side-turn : (side : Side) → test side.from ≡ true → test side.to ≡ true → turn_or_none (passage_of side from dir) ≡ step fwd (left side.from) (left side.to)
  side-turn side h k = turn-is (left side.from) (left side.to) fwd (place side from dir) (on.ahead side h k)

  line-winding : (a : Pt) (rest : List Pt) → test a ≡ true → list_all test rest ≡ true
      → winding_of (passages_of (sides_along (a ∷ rest)) from dir) ≡ step fwd (left a) (left (last_of a rest))
  line-winding a [] h k = sym (no-step fwd (left a))
  line-winding a (b ∷ rest) h k =
      let tests = both-true (test b) (list_all test rest) k in
      let side : Side = record { from = a; to = b } in
      winding-cons (passage_of side from dir) (passages_of (sides_along (b ∷ rest)) from dir)
      ∙ ap (λ (z : ℤ). z +ℤ winding_of (passages_of (sides_along (b ∷ rest)) from dir)) (side-turn side h tests.0)
      ∙ ap (λ (z : ℤ). step fwd (left a) (left b) +ℤ z) (line-winding b rest tests.0 tests.1)
      ∙ steps-add fwd (left a) (left b) (left (last_of b rest))

  is-none : (o : Option Frac) → ((at : Frac) → o ≡ Some at → is_inside at end ≡ false) → option_and_then (λ at. then_some (is_inside at end) at) o ≡ None
  is-none None h = refl
  is-none (Some at) h = rw (h at refl) refl

  -- no side between them crosses before the end
  pub side-none : (side : Side) → test side.from ≡ true → test side.to ≡ true → option_and_then (λ at. then_some (is_inside at end) at) (hits_of side from dir) ≡ None
  side-none side h k = is-none (hits_of side from dir) (λ at e. on.outside side at h k e)

  pub line-none : (a : Pt) (rest : List Pt) → test a ≡ true → list_all test rest ≡ true
      → list_any (λ side. is_some (option_and_then (λ at. then_some (is_inside at end) at) (hits_of side from dir))) (sides_along (a ∷ rest)) ≡ false
  line-none a [] h k = refl
  line-none a (b ∷ rest) h k =
      let tests = both-true (test b) (list_all test rest) k in
      rw (side-none (record { from = a; to = b }) h tests.0) (line-none b rest tests.0 tests.1)

  none-first : (hit : Option Frac) (lb : Bool) (passages : List Passage) → ((at : Frac) → hit ≡ Some at → is_inside at end ≡ false) → list_any (λ passage. is_inside passage.place end) passages ≡ false
      → list_any (λ passage. is_inside passage.place end) (cons_option (option_map (λ p. record { place = p; to_left = lb }) hit) passages) ≡ false
  none-first None lb passages h k = k
  none-first (Some at) lb passages h k = rw (h at refl) k

  line-outside : (a : Pt) (rest : List Pt) → test a ≡ true → list_all test rest ≡ true
      → list_any (λ passage. is_inside passage.place end) (passages_of (sides_along (a ∷ rest)) from dir) ≡ false
  line-outside a [] h k = refl
  line-outside a (b ∷ rest) h k =
      let tests = both-true (test b) (list_all test rest) k in
      let side : Side = record { from = a; to = b } in
      none-first (hits_of side from dir) (left b) (passages_of (sides_along (b ∷ rest)) from dir) (λ at e. on.outside side at h tests.0 e) (line-outside b rest tests.0 tests.1)

  closed : (first : Pt) (rest : List Pt) → test first ≡ true → list_all test rest ≡ true → list_all test (rest ++ first ∷ []) ≡ true
  closed first rest h k = list_all-append test rest (first ∷ []) ∙ rw (k, h) refl

  pub ring-unmet : (corners : List Pt) → list_all test corners ≡ true → meets_of corners from dir end ≡ false
  ring-unmet [] k = refl
  ring-unmet (first ∷ rest) k =
      let tests = both-true (test first) (list_all test rest) k in
      let all = closed first rest tests.0 tests.1 in
      let none = line-outside first (rest ++ first ∷ []) tests.0 all in
      let turns = line-winding first (rest ++ first ∷ []) tests.0 all ∙ ap (λ (c : Pt). step fwd (left first) (left c)) (last-closed first first rest) ∙ no-step fwd (left first) in
      rw (none, turns) refl

  pub ring-none : (corners : List Pt) → list_all test corners ≡ true
      → list_any (λ side. is_some (option_and_then (λ at. then_some (is_inside at end) at) (hits_of side from dir))) (ring corners) ≡ false
  ring-none [] k = refl
  ring-none (first ∷ rest) k =
      let tests = both-true (test first) (list_all test rest) k in
      line-none first (rest ++ first ∷ []) tests.0 (closed first rest tests.0 tests.1)

  pub open-none : (corners : List Pt) → list_all test corners ≡ true
      → list_any (λ side. is_some (option_and_then (λ at. then_some (is_inside at end) at) (hits_of side from dir))) (sides_along corners) ≡ false
  open-none [] k = refl
  open-none (first ∷ rest) k = let tests = both-true (test first) (list_all test rest) k in line-none first rest tests.0 tests.1

-- ---- corners beyond an edge of what a way lies between

pub lt-is : (a b : ℤ) → int_lt a b ≡ true → a <ℤ b
lt-is a b h = omega (arith, ints)

-- the end of the way over one divisor
to-high : (high start v : ℤ) (dir : Dir) (end : Frac) (w f e : ℕ) → end.d *ℤ dir.w ≡ pos (f * w) → end.n ≡ pos e
    → (start *ℤ (end.d *ℤ dir.w) +ℤ end.n *ℤ v) ≤ℤ (high *ℤ (end.d *ℤ dir.w)) → (start *ℤ pos (f * w) +ℤ pos e *ℤ v) ≤ℤ (high *ℤ pos (f * w))
to-high high start v dir end w f e ed en h =
    subst (λ (z : ℤ). (start *ℤ pos (f * w) +ℤ z *ℤ v) ≤ℤ (high *ℤ pos (f * w))) en (subst (λ (z : ℤ). (start *ℤ z +ℤ end.n *ℤ v) ≤ℤ (high *ℤ z)) ed h)

to-low : (low start v : ℤ) (dir : Dir) (end : Frac) (w f e : ℕ) → end.d *ℤ dir.w ≡ pos (f * w) → end.n ≡ pos e
    → (low *ℤ (end.d *ℤ dir.w)) ≤ℤ (start *ℤ (end.d *ℤ dir.w) +ℤ end.n *ℤ v) → (low *ℤ pos (f * w)) ≤ℤ (start *ℤ pos (f * w) +ℤ pos e *ℤ v)
to-low low start v dir end w f e ed en h =
    subst (λ (z : ℤ). (low *ℤ pos (f * w)) ≤ℤ (start *ℤ pos (f * w) +ℤ z *ℤ v)) en (subst (λ (z : ℤ). (low *ℤ z) ≤ℤ (start *ℤ z +ℤ end.n *ℤ v)) ed h)

-- a place that can't be before the end isn't
not-inside : (side : Side) (from : Pt) (dir : Dir) (end at : Frac) → hits_of side from dir ≡ Some at → (CrossesWay side from dir end → ⊥) → is_inside at end ≡ false
not-inside side from dir end at hit none = by_case (is_inside at end) refl where
  by_case : (b : Bool) → is_inside at end ≡ b → is_inside at end ≡ false
  by_case true e = absurd (none (crosses-way side from dir end at hit e))
  by_case false e = e

module _ (from : Pt) (dir : Dir) (end : Frac) (low high : ℤ) where
  pub beyond-east : LiesBetween low high from.x dir.x dir.w end → AreOnHand (λ c. int_lt high c.x) from dir end (int_lt (pos 0) dir.x)
  beyond-east lies = record {
    ahead = λ side h k split.
        let a = lt-is high side.from.x h in let b = lt-is high side.to.x k in let s = lies.below_at_start in
        ahead-by side from dir dir.x (side.from.x -ℤ from.x) (side.to.x -ℤ from.x) (product-x side from (way dir)) split (omega (arith, ints)) (omega (arith, ints));
    outside = λ side at h k hit.
        not-inside side from dir end at hit (λ is.
        above-none is.n is.k is.d is.w is.f is.e from.x dir.x side.from.x side.to.x high is.x lies.below_at_start
        (to-high high from.x dir.x dir end is.w is.f is.e is.scale is.far lies.below_at_end) (lt-is high side.from.x h) (lt-is high side.to.x k));
  }

  pub beyond-west : LiesBetween low high from.x dir.x dir.w end → AreOnHand (λ c. int_lt c.x low) from dir end (int_lt (pos 0) (neg_ℤ dir.x))
  beyond-west lies = record {
    ahead = λ side h k split.
        let a = lt-is side.from.x low h in let b = lt-is side.to.x low k in let s = lies.above_at_start in
        ahead-by side from dir (neg_ℤ dir.x) (neg_ℤ (side.from.x -ℤ from.x)) (neg_ℤ (side.to.x -ℤ from.x))
        (negated (cross (from_to from side.from) (along side)) dir.x (cross (way dir) (from_to from side.from)) (cross (way dir) (from_to from side.to)) (side.from.x -ℤ from.x) (side.to.x -ℤ from.x) (product-x side from (way dir)))
        split (omega (arith, ints)) (omega (arith, ints));
    outside = λ side at h k hit.
        not-inside side from dir end at hit (λ is.
        below-none is.n is.k is.d is.w is.f is.e from.x dir.x side.from.x side.to.x low is.x lies.above_at_start
        (to-low low from.x dir.x dir end is.w is.f is.e is.scale is.far lies.above_at_end) (lt-is side.from.x low h) (lt-is side.to.x low k));
  }

  pub beyond-north : LiesBetween low high from.y dir.y dir.w end → AreOnHand (λ c. int_lt high c.y) from dir end (int_lt (pos 0) dir.y)
  beyond-north lies = record {
    ahead = λ side h k split.
        let a = lt-is high side.from.y h in let b = lt-is high side.to.y k in let s = lies.below_at_start in
        ahead-by side from dir dir.y (side.from.y -ℤ from.y) (side.to.y -ℤ from.y) (product-y side from (way dir)) split (omega (arith, ints)) (omega (arith, ints));
    outside = λ side at h k hit.
        not-inside side from dir end at hit (λ is.
        above-none is.n is.k is.d is.w is.f is.e from.y dir.y side.from.y side.to.y high is.y lies.below_at_start
        (to-high high from.y dir.y dir end is.w is.f is.e is.scale is.far lies.below_at_end) (lt-is high side.from.y h) (lt-is high side.to.y k));
  }

  pub beyond-south : LiesBetween low high from.y dir.y dir.w end → AreOnHand (λ c. int_lt c.y low) from dir end (int_lt (pos 0) (neg_ℤ dir.y))
  beyond-south lies = record {
    ahead = λ side h k split.
        let a = lt-is side.from.y low h in let b = lt-is side.to.y low k in let s = lies.above_at_start in
        ahead-by side from dir (neg_ℤ dir.y) (neg_ℤ (side.from.y -ℤ from.y)) (neg_ℤ (side.to.y -ℤ from.y))
        (negated (cross (from_to from side.from) (along side)) dir.y (cross (way dir) (from_to from side.from)) (cross (way dir) (from_to from side.to)) (side.from.y -ℤ from.y) (side.to.y -ℤ from.y) (product-y side from (way dir)))
        split (omega (arith, ints)) (omega (arith, ints));
    outside = λ side at h k hit.
        not-inside side from dir end at hit (λ is.
        below-none is.n is.k is.d is.w is.f is.e from.y dir.y side.from.y side.to.y low is.y lies.above_at_start
        (to-low low from.y dir.y dir end is.w is.f is.e is.scale is.far lies.above_at_end) (lt-is side.from.y low h) (lt-is side.to.y low k));
  }
