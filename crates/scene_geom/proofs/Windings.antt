-- The winding of an outline, side by side.
use Rattle.std.proofs.Common.{◌≡◌, Bool, true, false, ap, ◌∙◌, sym, refl, List, [], ◌∷◌}
use Rattle.std.specs.Prelude.{zero, suc, ◌-◌, ◌^◌, nat_eq, ℤ, pos, negsuc, ◌+ℤ◌, Option, None, Some, ◌||◌, not, if◌then◌else◌}
use Rattle.std.specs.List.{list_any, cons_option}
use Rattle.std.specs.Ordering.{int_eq}
use Rattle.std.proofs.Math.IntN.{+ℤ_idl, +ℤ_idr, +ℤ_assoc}
use Rattle.std.proofs.Common.{arith}
use Rattle.std.proofs.lemmas.Bool.Decides.{nat_tests}
use mir.Syntax.{w128}
use mir.Val.{SFits, of_z}
use Rattle.scene_geom.specs.declared.plan.Pt.{Pt}
use Rattle.scene_geom.specs.declared.plan.Side.{Side}
use Rattle.scene_geom.specs.declared.fractions.fraction.Frac.{Frac}
use Rattle.scene_geom.specs.declared.directions.direction.Dir.{Dir}
use Rattle.scene_geom.specs.declared.meetings.crossing.Passage.{Passage}
use Rattle.scene_geom.specs.Fraction.{is_inside}
use Rattle.scene_geom.specs.Crossing.{passage_of}
use Rattle.scene_geom.specs.Outline.{passages_of, turn_of, winding_of}
use Rattle.scene_geom.specs.inner.ClearWinding.{clear_turn_of, add_turns, clear_winding_of}

-- whether some passage lies strictly between
abbrev pub some_inside : List Passage → Frac → Bool
some_inside passages end = list_any (λ passage. is_inside passage.place end) passages

pub add_turns-zero : (w : Option ℤ) → add_turns (Some (pos 0)) w ≡ w
add_turns-zero None = refl
add_turns-zero (Some w) = ap Some (+ℤ_idl w)

pub add_turns-assoc : (t u : ℤ) (w : Option ℤ) → add_turns (Some t) (add_turns (Some u) w) ≡ add_turns (Some (t +ℤ u)) w
add_turns-assoc t u None = refl
add_turns-assoc t u (Some w) = ap Some (sym (+ℤ_assoc t u w))

-- the winding where none lies between
abbrev pub clear : Bool → ℤ → Option ℤ
clear some w = if some then None else Some w

add-clear : (inside some : Bool) (t w : ℤ) → add_turns (if inside then None else Some t) (clear some w) ≡ clear (inside || some) (t +ℤ w)
add-clear true some t w = refl
add-clear false true t w = refl
add-clear false false t w = refl

turn-step : (hit : Option Passage) (end : Frac) (passages : List Passage)
    → add_turns (clear_turn_of hit end) (clear (some_inside passages end) (winding_of passages)) ≡ clear (some_inside (cons_option hit passages) end) (winding_of (cons_option hit passages))
turn-step None end passages = add_turns-zero (clear (some_inside passages end) (winding_of passages))
turn-step (Some passage) end passages = add-clear (is_inside passage.place end) (some_inside passages end) (turn_of passage) (winding_of passages)

pub clear_winding-is : (sides : List Side) (from : Pt) (dir : Dir) (end : Frac)
    → clear_winding_of sides from dir end ≡ clear (some_inside (passages_of sides from dir) end) (winding_of (passages_of sides from dir))
clear_winding-is [] from dir end = refl
clear_winding-is (side ∷ sides) from dir end =
    ap (add_turns (clear_turn_of (passage_of side from dir) end)) (clear_winding-is sides from dir end)
    ∙ turn-step (passage_of side from dir) end (passages_of sides from dir)

-- what the code answers from a clear winding
pub meets-none : (some : Bool) (w : ℤ) (r : Bool) → None ≡ clear some w → (some || r) ≡ true
meets-none true w r e = refl
meets-none false w r e = cc

pub meets-some : (some : Bool) (w v : ℤ) → Some v ≡ clear some w → (some || not (int_eq w (pos 0))) ≡ not (int_eq v (pos 0))
meets-some true w v e = cc
meets-some false w v e = ap (λ (z : ℤ). not (int_eq z (pos 0))) same
  where
    same : w ≡ v
    same = cc

-- the code tells a number from 0 by its bits
pub bits-zero : (z : ℤ) → SFits w128 z → nat_eq (of_z w128 z) 0 ≡ int_eq z (pos 0)
bits-zero (pos zero) f = refl
bits-zero (pos (suc n)) f = grind (arith, nat_tests)
bits-zero (negsuc n) f = let apart : ¬ (2 ^ 128 - suc n ≡ 0) = omega (arith, f.sfits) in grind (arith, nat_tests, apart)

-- a step of the walk round an outline, and its end
pub winding-next : (w t w' : ℤ) (side : Side) (sides sides' : List Side) (from : Pt) (dir : Dir) (end : Frac) (total : Option ℤ)
    → sides ≡ side ∷ sides' → Some t ≡ clear_turn_of (passage_of side from dir) end → w' ≡ w +ℤ t
    → add_turns (Some w) (clear_winding_of sides from dir end) ≡ total → add_turns (Some w') (clear_winding_of sides' from dir end) ≡ total
winding-next w t w' side sides sides' from dir end total e turn sum left =
    ap (λ (v : ℤ). add_turns (Some v) (clear_winding_of sides' from dir end)) sum
    ∙ sym (add_turns-assoc w t (clear_winding_of sides' from dir end))
    ∙ ap (λ (o : Option ℤ). add_turns (Some w) (add_turns o (clear_winding_of sides' from dir end))) turn
    ∙ sym (ap (λ (s : List Side). add_turns (Some w) (clear_winding_of s from dir end)) e)
    ∙ left

pub winding-last : (w t w' : ℤ) (side : Side) (sides : List Side) (from : Pt) (dir : Dir) (end : Frac) (total : Option ℤ)
    → sides ≡ side ∷ [] → Some t ≡ clear_turn_of (passage_of side from dir) end → w' ≡ w +ℤ t
    → add_turns (Some w) (clear_winding_of sides from dir end) ≡ total → Some w' ≡ total
winding-last w t w' side sides from dir end total e turn sum left =
    ap Some (sym (+ℤ_idr w')) ∙ winding-next w t w' side sides [] from dir end total e turn sum left
