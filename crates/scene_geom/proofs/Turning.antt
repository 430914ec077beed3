-- A side with its ends exchanged hits where it hit, and leads to the other hand there.
use Rattle.std.proofs.Common.{◌≡◌, zero, suc, Bool, true, false, arith, ap, ◌∙◌, sym, refl}
use Rattle.std.specs.Prelude.{ℤ, pos, negsuc, ◌*ℤ◌, neg_ℤ, None, Some, if◌then◌else◌}
use Rattle.std.specs.Bool.{beq, then_some}
use Rattle.std.specs.Option.{option_map}
use Rattle.std.proofs.lemmas.Int.{ints}
use Rattle.std.proofs.Math.IntN.{neg_ℤ-neg_ℤ}
use Rattle.scene_geom.specs.declared.plan.Pt.{Pt}
use Rattle.scene_geom.specs.declared.plan.Side.{Side}
use Rattle.scene_geom.specs.declared.fractions.fraction.Frac.{Frac}
use Rattle.scene_geom.specs.declared.directions.direction.Dir.{Dir}
use Rattle.scene_geom.specs.Vector.{Vector, cross}
use Rattle.scene_geom.specs.Point.{from_to, along, turned}
use Rattle.scene_geom.specs.Fraction.{over, is_ahead, is_inside}
use Rattle.scene_geom.specs.Direction.{way}
use Rattle.scene_geom.specs.Crossing.{differ, is_left, passage_of}
use Rattle.scene_geom.specs.inner.ClearWinding.{clear_turn_of}
use Rattle.scene_geom.specs.Laws.{MeetsReversed}
use Rattle.scene_geom.proofs.Whole.{mul_sub, sub_mul}
use Rattle.scene_geom.proofs.Vectors.{cross-between}
use Rattle.scene_geom.proofs.Crossings.{apart}
use Rattle.scene_geom.proofs.Reversing.{flip, meets-reversed}

-- both signs turned leave a fraction as it was
over-neg : (n d : ℤ) → (d ≡ pos 0 → ⊥) → over (neg_ℤ n) (neg_ℤ d) ≡ over n d
over-neg n (pos zero) h = absurd (h refl)
over-neg n (pos (suc k)) h = ap (λ (z : ℤ). over z (pos (suc k))) (neg_ℤ-neg_ℤ n)
over-neg n (negsuc k) h = refl

reached-turned : (side : Side) (from : Pt) → cross (from_to from side.to) (from_to side.to side.from) ≡ neg_ℤ (cross (from_to from side.from) (from_to side.from side.to))
reached-turned side from = simp (mul_sub, sub_mul) (omega (arith, ints))

divisor-turned : (v : Vector) (a b : Pt) → cross v (from_to b a) ≡ neg_ℤ (cross v (from_to a b))
divisor-turned v a b = simp mul_sub (omega (arith, ints))

pub neg-mul : (n w : ℤ) → neg_ℤ n *ℤ w ≡ neg_ℤ (n *ℤ w)
neg-mul (pos zero) w = omega (arith, ints)
neg-mul (pos (suc n)) w = omega (arith, ints)
neg-mul (negsuc n) w = omega (arith, ints)

pub beq-apart : (x y : Bool) → differ x y ≡ true → beq x y ≡ false
beq-apart true true e = sym e
beq-apart true false e = refl
beq-apart false true e = refl
beq-apart false false e = sym e

place-turned : (side : Side) (from : Pt) (dir : Dir) → differ (is_left from (way dir) side.from) (is_left from (way dir) side.to) ≡ true
    → over (cross (from_to from side.to) (from_to side.to side.from) *ℤ dir.w) (cross (way dir) (from_to side.to side.from))
    ≡ over (cross (from_to from side.from) (along side) *ℤ dir.w) (cross (way dir) (along side))
place-turned side from dir split =
    ap (λ (n : ℤ). over (n *ℤ dir.w) (cross (way dir) (from_to side.to side.from))) (reached-turned side from)
    ∙ ap (λ (n : ℤ). over n (cross (way dir) (from_to side.to side.from))) (neg-mul (cross (from_to from side.from) (along side)) dir.w)
    ∙ ap (λ (d : ℤ). over (neg_ℤ (cross (from_to from side.from) (along side) *ℤ dir.w)) d) (divisor-turned (way dir) side.from side.to)
    ∙ over-neg (cross (from_to from side.from) (along side) *ℤ dir.w) (cross (way dir) (along side)) divides
  where
    divides : cross (way dir) (along side) ≡ pos 0 → ⊥
    divides e =
        apart (cross (way dir) (from_to from side.to)) (cross (way dir) (from_to from side.from))
        (beq-apart (is_left from (way dir) side.from) (is_left from (way dir) side.to) split)
        (cross-between (way dir) from side.from side.to ∙ e)

-- the turn where a side leads to the left and where it leads to the right
opposite_hands : (inside ahead : Bool)
    → (if inside then None else Some (if ahead then pos 1 else pos 0)) ≡ flip (if inside then None else Some (if ahead then neg_ℤ (pos 1) else pos 0))
opposite_hands true ahead = refl
opposite_hands false true = refl
opposite_hands false false = refl

other_hands : (inside ahead : Bool)
    → (if inside then None else Some (if ahead then neg_ℤ (pos 1) else pos 0)) ≡ flip (if inside then None else Some (if ahead then pos 1 else pos 0))
other_hands true ahead = refl
other_hands false true = refl
other_hands false false = refl

hands : (l r : Bool) (place place' : Frac) (end : Frac) → (differ l r ≡ true → place' ≡ place)
    → clear_turn_of (option_map (λ (hit : Frac). record { place = hit; to_left = l }) (then_some (differ r l) place')) end
    ≡ flip (clear_turn_of (option_map (λ (hit : Frac). record { place = hit; to_left = r }) (then_some (differ l r) place)) end)
hands true true place place' end same = refl
hands false false place place' end same = refl
hands true false place place' end same =
    ap (λ (hit : Frac). clear_turn_of (Some (record { place = hit; to_left = true })) end) (same refl) ∙ opposite_hands (is_inside place end) (is_ahead place)
hands false true place place' end same =
    ap (λ (hit : Frac). clear_turn_of (Some (record { place = hit; to_left = false })) end) (same refl) ∙ other_hands (is_inside place end) (is_ahead place)

clear_turn-turned : (from : Pt) (dir : Dir) (end : Frac) (side : Side)
    → clear_turn_of (passage_of (turned side) from dir) end ≡ flip (clear_turn_of (passage_of side from dir) end)
clear_turn-turned from dir end side =
    hands (is_left from (way dir) side.from) (is_left from (way dir) side.to)
    (over (cross (from_to from side.from) (along side) *ℤ dir.w) (cross (way dir) (along side)))
    (over (cross (from_to from side.to) (from_to side.to side.from) *ℤ dir.w) (cross (way dir) (from_to side.to side.from)))
    end (place-turned side from dir)

pub meets_reversed : MeetsReversed
meets_reversed outline from dir end = meets-reversed from dir end (clear_turn-turned from dir end) outline
