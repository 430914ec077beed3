-- Sides that block: what the numbers at their ends say.
use Rattle.std.proofs.Common.{◌≡◌, zero, suc, Bool, true, false, arith, ap, subst, ◌∙◌, sym, refl, ◌⊎◌, inl, inr}
use Rattle.std.specs.Prelude.{ℤ, pos, negsuc, ◌-ℤ◌, ◌*ℤ◌, neg_ℤ, int_lt, ◌&&◌, ◌||◌, Some}
use Rattle.std.specs.Bool.{then_some}
use Rattle.std.specs.Option.{option_and_then}
use Rattle.std.proofs.lemmas.Int.{ints}
use Rattle.scene_geom.specs.declared.plan.Pt.{Pt}
use Rattle.scene_geom.specs.declared.plan.Side.{Side}
use Rattle.scene_geom.specs.Vector.{cross}
use Rattle.scene_geom.specs.Point.{from_to, along, orient_of}
use Rattle.scene_geom.specs.Fraction.{over, inner, is_inside}
use Rattle.scene_geom.specs.Crossing.{differ, is_split, crosses_of, are_opposite, blocks_of}
use Rattle.scene_geom.specs.Laws.{UncrossedIsUnblocked, BlocksTurned}
use Rattle.scene_geom.proofs.Whole.{mul_sub, sub_mul}

-- ---- tests
both_hold : (x y : Bool) → (x && y) ≡ true → (x ≡ true) × (y ≡ true)
both_hold true y e = (refl, e)
both_hold false y e = cc

both : (x y : Bool) → x ≡ true → y ≡ true → (x && y) ≡ true
both x y e f = rw (e, f) refl

one_holds : (x y : Bool) → (x || y) ≡ true → (x ≡ true) ⊎ (y ≡ true)
one_holds true y e = inl refl
one_holds false y e = inr e

and_comm : (x y : Bool) → (x && y) ≡ (y && x)
and_comm true true = refl
and_comm true false = refl
and_comm false true = refl
and_comm false false = refl

or_comm : (x y : Bool) → (x || y) ≡ (y || x)
or_comm true true = refl
or_comm true false = refl
or_comm false true = refl
or_comm false false = refl

-- a is below 0 and b above, or the other way round
Opposed : ℤ → ℤ → Type 0
Opposed a b = ((int_lt a (pos 0) ≡ true) × (int_lt (pos 0) b ≡ true)) ⊎ ((int_lt b (pos 0) ≡ true) × (int_lt (pos 0) a ≡ true))

opposed : (a b : ℤ) → are_opposite a b ≡ true → Opposed a b
unfolding Opposed
opposed a b e =
    elim (one_holds (int_lt a (pos 0) && int_lt (pos 0) b) (int_lt b (pos 0) && int_lt (pos 0) a) e) [
      | inl h ↦ inl (both_hold (int_lt a (pos 0)) (int_lt (pos 0) b) h)
      | inr h ↦ inr (both_hold (int_lt b (pos 0)) (int_lt (pos 0) a) h)
    ]

differ-opposed : (a b : ℤ) → Opposed a b → differ (int_lt (pos 0) a) (int_lt (pos 0) b) ≡ true
unfolding Opposed
differ-opposed a b o =
    elim o [
      | inl h ↦ (let below = h.0 in let no : false ≡ int_lt (pos 0) a = omega (arith, ints) in rw (h.1, ← no) refl)
      | inr h ↦ (let below = h.0 in let no : false ≡ int_lt (pos 0) b = omega (arith, ints) in rw (h.1, ← no) refl)
    ]

inside-over : (n d : ℤ) → Opposed n (n -ℤ d) → is_inside (over n d) (over (pos 1) (pos 1)) ≡ true
unfolding Opposed
inside-over n (pos zero) o = elim o [ inl h ↦ (let a = h.0 in let b = h.1 in absurd (omega (arith, ints))) | inr h ↦ (let a = h.0 in let b = h.1 in absurd (omega (arith, ints))) ]
inside-over n (pos (suc k)) o =
    elim o [
      | inl h ↦ (let a = h.0 in let b = h.1 in absurd (omega (arith, ints)))
      | inr h ↦ (let a = h.0 in let b = h.1 in both (int_lt (pos 0) n) (int_lt (n *ℤ pos 1) (pos 1 *ℤ pos (suc k))) b (sym (omega (arith, ints))))
    ]
inside-over n (negsuc k) o =
    elim o [
      | inl h ↦ (let a = h.0 in let b = h.1 in both (int_lt (pos 0) (neg_ℤ n)) (int_lt (neg_ℤ n *ℤ pos 1) (pos 1 *ℤ pos (suc k))) (sym (omega (arith, ints))) (sym (omega (arith, ints))))
      | inr h ↦ (let a = h.0 in let b = h.1 in absurd (omega (arith, ints)))
    ]

-- ---- the numbers of a crossing are those of the side's own line
pub reached-orient : (side : Side) (p : Pt) → cross (from_to p side.from) (along side) *ℤ pos 1 ≡ orient_of side.from side.to p
reached-orient side p = simp (mul_sub, sub_mul) (omega (arith, ints))

divisor-orient : (side : Side) (p q : Pt) → cross (from_to p q) (along side) ≡ orient_of side.from side.to p -ℤ orient_of side.from side.to q
divisor-orient side p q = simp (mul_sub, sub_mul) (omega (arith, ints))

rest : (m n : ℤ) → m -ℤ (m -ℤ n) ≡ n
rest m n = omega (arith, ints)

-- where the ends are opposed both ways, the side crosses
crosses-blocking : (side : Side) (p q : Pt) → Opposed (orient_of p q side.from) (orient_of p q side.to) → Opposed (orient_of side.from side.to p) (orient_of side.from side.to q)
    → crosses_of side p q ≡ Some (over (orient_of side.from side.to p) (orient_of side.from side.to p -ℤ orient_of side.from side.to q))
crosses-blocking side p q ends points =
    let m = orient_of side.from side.to p in let n = orient_of side.from side.to q in
    let split : is_split side p (from_to p q) ≡ true = differ-opposed (orient_of p q side.from) (orient_of p q side.to) ends in
    let inside : is_inside (over m (m -ℤ n)) (over (pos 1) (pos 1)) ≡ true = inside-over m (m -ℤ n) (subst (Opposed m) (sym (rest m n)) points) in
    ap (λ (b : Bool). option_and_then inner (then_some b (over (cross (from_to p side.from) (along side) *ℤ pos 1) (cross (from_to p q) (along side))))) split
    ∙ ap (λ (z : ℤ). inner (over z (cross (from_to p q) (along side)))) (reached-orient side p)
    ∙ ap (λ (z : ℤ). inner (over m z)) (divisor-orient side p q)
    ∙ ap (λ (b : Bool). then_some b (over m (m -ℤ n))) inside

pub uncrossed_is_unblocked : UncrossedIsUnblocked
uncrossed_is_unblocked side p q e = at_test (blocks_of side p q) refl
  where
    at_test : (b : Bool) → blocks_of side p q ≡ b → b ≡ false
    at_test false t = refl
    at_test true t =
        let h = both_hold (are_opposite (orient_of p q side.from) (orient_of p q side.to)) (are_opposite (orient_of side.from side.to p) (orient_of side.from side.to q)) t in
        let found = crosses-blocking side p q (opposed _ _ h.0) (opposed _ _ h.1) in
        cc

-- ---- a side with its ends exchanged
orient-turned : (a b p : Pt) → orient_of b a p ≡ neg_ℤ (orient_of a b p)
orient-turned a b p = simp (mul_sub, sub_mul) (omega (arith, ints))

pub neg-below : (z : ℤ) → int_lt (neg_ℤ z) (pos 0) ≡ int_lt (pos 0) z
neg-below (pos zero) = refl
neg-below (pos (suc n)) = let e : true ≡ int_lt (pos 0) (pos (suc n)) = omega (arith, ints) in e
neg-below (negsuc n) = let e : false ≡ int_lt (pos (suc n)) (pos 0) = omega (arith, ints) in sym e

pub neg-above : (z : ℤ) → int_lt (pos 0) (neg_ℤ z) ≡ int_lt z (pos 0)
neg-above (pos zero) = refl
neg-above (pos (suc n)) = let e : false ≡ int_lt (pos (suc n)) (pos 0) = omega (arith, ints) in e
neg-above (negsuc n) = let e : true ≡ int_lt (pos 0) (pos (suc n)) = omega (arith, ints) in sym e

opposite-turned : (a b : ℤ) → are_opposite a b ≡ are_opposite b a
opposite-turned a b = or_comm (int_lt a (pos 0) && int_lt (pos 0) b) (int_lt b (pos 0) && int_lt (pos 0) a)

opposite-neg : (a b : ℤ) → are_opposite (neg_ℤ a) (neg_ℤ b) ≡ are_opposite a b
opposite-neg a b =
    rw
    (neg-below a, neg-above b, neg-below b, neg-above a, and_comm (int_lt (pos 0) a) (int_lt b (pos 0)), and_comm (int_lt (pos 0) b) (int_lt a (pos 0)))
    (or_comm (int_lt b (pos 0) && int_lt (pos 0) a) (int_lt a (pos 0) && int_lt (pos 0) b))

pub blocks_turned : BlocksTurned
blocks_turned side p q =
    rw
    (orient-turned side.from side.to p, orient-turned side.from side.to q, opposite-turned (orient_of p q side.to) (orient_of p q side.from), opposite-neg (orient_of side.from side.to p) (orient_of side.from side.to q))
    refl
