-- Sums over the sides of an outline in either direction.
use Rattle.std.proofs.Common.{◌≡◌, Bool, true, false, cond, arith, ap, ◌∙◌, sym, refl, List, [], ◌∷◌, ◌++◌}
use Rattle.std.specs.Prelude.{ℤ, pos, neg_ℤ, Option, None, Some, reverse, int_lt, not, ◌||◌}
use Rattle.std.specs.Ordering.{int_eq, is_eq}
use Rattle.std.specs.declared.cmp.Ordering.TheVariants.{Less, Equal, Greater}
use Rattle.std.proofs.lemmas.Int.{ints}
use Rattle.std.specs.Option.{option_map}
use Rattle.std.proofs.lemmas.List.{reverse-append, reverse-reverse}
use Rattle.std.proofs.Math.IntN.{+ℤ_comm, neg_ℤ-+ℤ}
use Rattle.scene_geom.specs.declared.plan.Pt.{Pt}
use Rattle.scene_geom.specs.declared.plan.Side.{Side}
use Rattle.scene_geom.specs.declared.fractions.fraction.Frac.{Frac}
use Rattle.scene_geom.specs.declared.directions.direction.Dir.{Dir}
use Rattle.scene_geom.specs.Vector.{cross}
use Rattle.scene_geom.specs.Point.{at, turned}
use Rattle.scene_geom.specs.Crossing.{passage_of}
use Rattle.scene_geom.specs.Laws.{AreaReversed}
use Rattle.scene_geom.proofs.Blocking.{neg-below, neg-above}
use Rattle.scene_geom.specs.Outline.{sides_along, ring, swept, area2_of, passages_of, winding_of, meets_of}
use Rattle.scene_geom.specs.inner.ClearWinding.{add_turns, clear_turn_of, clear_winding_of}
use Rattle.scene_geom.proofs.Windings.{add_turns-zero, add_turns-assoc, clear, some_inside, clear_winding-is}

-- the other sign
abbrev pub flip : Option ℤ → Option ℤ
flip w = option_map neg_ℤ w

add_turns_comm : (v w : Option ℤ) → add_turns v w ≡ add_turns w v
add_turns_comm None None = refl
add_turns_comm None (Some w) = refl
add_turns_comm (Some v) None = refl
add_turns_comm (Some v) (Some w) = ap Some (+ℤ_comm v w)

add_turns_assoc : (u v w : Option ℤ) → add_turns u (add_turns v w) ≡ add_turns (add_turns u v) w
add_turns_assoc None v w = refl
add_turns_assoc (Some t) None w = refl
add_turns_assoc (Some t) (Some u) w = add_turns-assoc t u w

flip-add : (v w : Option ℤ) → flip (add_turns v w) ≡ add_turns (flip v) (flip w)
flip-add None w = refl
flip-add (Some v) None = refl
flip-add (Some v) (Some w) = ap Some (neg_ℤ-+ℤ v w)

add_turns_zero : (w : Option ℤ) → add_turns w (Some (pos 0)) ≡ w
add_turns_zero w = add_turns_comm w (Some (pos 0)) ∙ add_turns-zero w

-- the sum of a measure over sides
abbrev pub total : (Side → Option ℤ) → List Side → Option ℤ
total g [] = Some (pos 0)
total g (side ∷ sides) = add_turns (g side) (total g sides)

abbrev over_line : (Side → Option ℤ) → List Pt → Option ℤ
over_line g points = total g (sides_along points)

-- one more point at the end of a line adds one side
over_line-push : (g : Side → Option ℤ) (xs : List Pt) (a b : Pt)
    → over_line g ((xs ++ a ∷ []) ++ b ∷ []) ≡ add_turns (over_line g (xs ++ a ∷ [])) (g (record { from = a; to = b }))
over_line-push g [] a b = add_turns_comm (g (record { from = a; to = b })) (Some (pos 0))
over_line-push g (x ∷ []) a b =
    ap (add_turns (g (record { from = x; to = a }))) (over_line-push g [] a b)
    ∙ add_turns_assoc (g (record { from = x; to = a })) (over_line g (a ∷ [])) (g (record { from = a; to = b }))
over_line-push g (x ∷ y ∷ xs) a b =
    ap (add_turns (g (record { from = x; to = y }))) (over_line-push g (y ∷ xs) a b)
    ∙ add_turns_assoc (g (record { from = x; to = y })) (over_line g ((y ∷ xs) ++ a ∷ [])) (g (record { from = a; to = b }))

reverse-cons : (a : Pt) (xs : List Pt) → reverse (a ∷ xs) ≡ reverse xs ++ a ∷ []
reverse-cons a xs = reverse-append (a ∷ []) xs

-- a measure that turns its sign with a side turns it with a line
over_line-reverse : (g : Side → Option ℤ) → ((s : Side) → g (turned s) ≡ flip (g s)) → (xs : List Pt) → over_line g (reverse xs) ≡ flip (over_line g xs)
over_line-reverse g turns [] = refl
over_line-reverse g turns (a ∷ []) = refl
over_line-reverse g turns (a ∷ b ∷ rest) =
    ap (over_line g) (reverse-cons a (b ∷ rest) ∙ ap (λ (xs : List Pt). xs ++ a ∷ []) (reverse-cons b rest))
    ∙ over_line-push g (reverse rest) b a
    ∙ ap (λ (xs : List Pt). add_turns (over_line g xs) (g (record { from = b; to = a }))) (sym (reverse-cons b rest))
    ∙ ap (λ (w : Option ℤ). add_turns w (g (record { from = b; to = a }))) (over_line-reverse g turns (b ∷ rest))
    ∙ ap (add_turns (flip (over_line g (b ∷ rest)))) (turns (record { from = a; to = b }))
    ∙ sym (flip-add (over_line g (b ∷ rest)) (g (record { from = a; to = b })))
    ∙ ap flip (add_turns_comm (over_line g (b ∷ rest)) (g (record { from = a; to = b })))

-- the outline whose corners but the first are z and then w, in the other direction
ring-reverse : (g : Side → Option ℤ) → ((s : Side) → g (turned s) ≡ flip (g s)) → (a z : Pt) (w rest : List Pt) → reverse rest ≡ z ∷ w
    → total g (ring (reverse (a ∷ rest))) ≡ flip (total g (ring (a ∷ rest)))
ring-reverse g turns a z w rest e =
    ap (λ (xs : List Pt). total g (ring xs)) (reverse-cons a rest ∙ ap (λ (xs : List Pt). xs ++ a ∷ []) e)
    ∙ over_line-push g (z ∷ w) a z
    ∙ ap (λ (v : Option ℤ). add_turns v (g (record { from = a; to = z }))) there
    ∙ ap (add_turns (flip (over_line g (a ∷ rest)))) (turns (record { from = z; to = a }))
    ∙ sym (flip-add (over_line g (a ∷ rest)) (g (record { from = z; to = a })))
    ∙ ap flip back
  where
    there : over_line g ((z ∷ w) ++ a ∷ []) ≡ flip (over_line g (a ∷ rest))
    there = ap (λ (xs : List Pt). over_line g (xs ++ a ∷ [])) (sym e) ∙ ap (over_line g) (sym (reverse-cons a rest)) ∙ over_line-reverse g turns (a ∷ rest)

    whole : rest ≡ reverse w ++ z ∷ []
    whole = sym (reverse-reverse rest) ∙ ap reverse e ∙ reverse-cons z w

    back : add_turns (over_line g (a ∷ rest)) (g (record { from = z; to = a })) ≡ total g (ring (a ∷ rest))
    back =
        ap (λ (xs : List Pt). add_turns (over_line g (a ∷ xs)) (g (record { from = z; to = a }))) whole
        ∙ sym (over_line-push g (a ∷ reverse w) z a)
        ∙ ap (λ (xs : List Pt). over_line g (a ∷ (xs ++ a ∷ []))) (sym whole)

pub total-ring-reverse : (g : Side → Option ℤ) → ((s : Side) → g (turned s) ≡ flip (g s)) → (outline : List Pt)
    → total g (ring (reverse outline)) ≡ flip (total g (ring outline))
total-ring-reverse g turns [] = refl
total-ring-reverse g turns (a ∷ []) =
    add_turns_zero (g (record { from = a; to = a })) ∙ turns (record { from = a; to = a }) ∙ ap flip (sym (add_turns_zero (g (record { from = a; to = a }))))
total-ring-reverse g turns (a ∷ b ∷ rest) = at_last (reverse (b ∷ rest)) refl
  where
    at_last : (xs : List Pt) → reverse (b ∷ rest) ≡ xs → total g (ring (reverse (a ∷ b ∷ rest))) ≡ flip (total g (ring (a ∷ b ∷ rest)))
    at_last [] e = let no : b ∷ rest ≡ [] = sym (reverse-reverse (b ∷ rest)) ∙ ap reverse e in cc
    at_last (z ∷ w) e = ring-reverse g turns a z w (b ∷ rest) e

-- ---- areas
area-turned : (s : Side) → cross (at s.to) (at s.from) ≡ neg_ℤ (cross (at s.from) (at s.to))
area-turned s = omega (arith, ints)

share : Side → Option ℤ
share s = Some (cross (at s.from) (at s.to))

share-turned : (s : Side) → share (turned s) ≡ flip (share s)
unfolding share
share-turned s = ap Some (area-turned s)

swept-total : (sides : List Side) → total share sides ≡ Some (swept sides)
unfolding share
swept-total [] = refl
swept-total (s ∷ sides) = ap (add_turns (Some (cross (at s.from) (at s.to)))) (swept-total sides)

pub area_reversed : AreaReversed
area_reversed outline =
    let e : Some (area2_of (reverse outline)) ≡ Some (neg_ℤ (area2_of outline)) =
    sym (swept-total (ring (reverse outline))) ∙ total-ring-reverse share share-turned outline ∙ ap flip (swept-total (ring outline)) in
    cc

-- ---- what an outline meets
-- met where a side crosses between or the outline winds round the start
answer : Option ℤ → Bool
answer None = true
answer (Some w) = not (int_eq w (pos 0))

int_eq-neg : (z : ℤ) → int_eq (neg_ℤ z) (pos 0) ≡ int_eq z (pos 0)
int_eq-neg z = rw (neg-below z, neg-above z) ((turned_order (int_lt z (pos 0)) (int_lt (pos 0) z)))
  where
    turned_order : (x y : Bool) → is_eq (cond y Less (cond x Greater Equal)) ≡ is_eq (cond x Less (cond y Greater Equal))
    turned_order true true = refl
    turned_order true false = refl
    turned_order false true = refl
    turned_order false false = refl

answer-flip : (w : Option ℤ) → answer (flip w) ≡ answer w
unfolding answer
answer-flip None = refl
answer-flip (Some w) = ap not (int_eq-neg w)

answer-clear : (some : Bool) (w : ℤ) → (some || not (int_eq w (pos 0))) ≡ answer (clear some w)
unfolding answer
answer-clear true w = refl
answer-clear false w = refl

pub meets-reversed : (from : Pt) (dir : Dir) (end : Frac)
    → ((s : Side) → clear_turn_of (passage_of (turned s) from dir) end ≡ flip (clear_turn_of (passage_of s from dir) end))
    → (outline : List Pt) → meets_of (reverse outline) from dir end ≡ meets_of outline from dir end
meets-reversed from dir end turns outline =
    met (ring (reverse outline))
    ∙ ap answer (by_total (ring (reverse outline)) ∙ total-ring-reverse turn turns outline ∙ ap flip (sym (by_total (ring outline))))
    ∙ answer-flip (clear_winding_of (ring outline) from dir end)
    ∙ sym (met (ring outline))
  where
    turn : Side → Option ℤ
    turn s = clear_turn_of (passage_of s from dir) end

    by_total : (sides : List Side) → clear_winding_of sides from dir end ≡ total turn sides
    by_total [] = refl
    by_total (s ∷ sides) = ap (add_turns (turn s)) (by_total sides)

    met : (sides : List Side) → (some_inside (passages_of sides from dir) end || not (int_eq (winding_of (passages_of sides from dir)) (pos 0))) ≡ answer (clear_winding_of sides from dir end)
    met sides = answer-clear (some_inside (passages_of sides from dir) end) (winding_of (passages_of sides from dir)) ∙ ap answer (sym (clear_winding-is sides from dir end))
