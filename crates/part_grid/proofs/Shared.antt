-- The point that a side and a line share, as a weighted mean of the ends of the side and as a place on the line.
use Rattle.std.proofs.Common.{◌≡◌, zero, suc, ◌<◌, ◌≤◌, Bool, true, false, arith, ap, ◌∙◌, sym, refl, ◌⊎◌, inl, inr}
use Rattle.std.specs.Prelude.{ℤ, pos, negsuc, ◌+ℤ◌, ◌-ℤ◌, ◌*ℤ◌, neg_ℤ, int_lt, unsigned_abs}
use Rattle.std.proofs.Math.IntN.{*ℤ_comm}
use Rattle.std.proofs.lemmas.Int.{ints}
use Rattle.scene_geom.specs.declared.plan.Pt.{Pt}
use Rattle.scene_geom.specs.declared.plan.Side.{Side}
use Rattle.scene_geom.specs.Vector.{Vector, cross}
use Rattle.scene_geom.specs.Point.{from_to, along}
use Rattle.scene_geom.specs.Fraction.{over, is_ahead}
use Rattle.scene_geom.specs.Crossing.{differ}
use Rattle.scene_geom.proofs.Whole.{sub_mul}
use Rattle.scene_geom.proofs.CommonPoint.{mul_assoc}
use Rattle.scene_geom.proofs.Turning.{neg-mul, beq-apart}
use Rattle.scene_geom.proofs.Crossings.{apart}

-- ---- three vectors of the plan: the cross product of each two, times the third
pub swapped : (a b c : ℤ) → (a *ℤ b) *ℤ c ≡ (a *ℤ c) *ℤ b
swapped a b c = mul_assoc a b c ∙ ap (λ (z : ℤ). a *ℤ z) (*ℤ_comm b c) ∙ sym (mul_assoc a c b)

outer : (a b c : ℤ) → (a *ℤ b) *ℤ c ≡ (c *ℤ b) *ℤ a
outer a b c = swapped a b c ∙ ap (λ (z : ℤ). z *ℤ b) (*ℤ_comm a c) ∙ swapped c a b

turned : (a b c : ℤ) → (a *ℤ b) *ℤ c ≡ (c *ℤ a) *ℤ b
turned a b c = swapped a b c ∙ ap (λ (z : ℤ). z *ℤ b) (*ℤ_comm a c)

pub cross-x : (u v w : Vector) → cross w u *ℤ v.x ≡ cross v u *ℤ w.x -ℤ cross v w *ℤ u.x
cross-x u v w =
    joined _ _ _ _ _ _ _ _ _ (sub_mul (w.x *ℤ u.y) (w.y *ℤ u.x) v.x) (sub_mul (v.x *ℤ u.y) (v.y *ℤ u.x) w.x) (sub_mul (v.x *ℤ w.y) (v.y *ℤ w.x) u.x)
    (outer w.x u.y v.x) (turned w.y u.x v.x) (swapped v.y u.x w.x)
  where
    joined : (l r s a b c d e f : ℤ) → l ≡ a -ℤ b → r ≡ c -ℤ d → s ≡ e -ℤ f → a ≡ c → b ≡ e → d ≡ f → l ≡ r -ℤ s
    joined l r s a b c d e f x y z p q t = omega (arith, ints)

pub cross-y : (u v w : Vector) → cross w u *ℤ v.y ≡ cross v u *ℤ w.y -ℤ cross v w *ℤ u.y
cross-y u v w =
    joined _ _ _ _ _ _ _ _ _ (sub_mul (w.x *ℤ u.y) (w.y *ℤ u.x) v.y) (sub_mul (v.x *ℤ u.y) (v.y *ℤ u.x) w.y) (sub_mul (v.x *ℤ w.y) (v.y *ℤ w.x) u.y)
    (turned w.x u.y v.y) (outer w.y u.x v.y) (swapped v.x u.y w.y)
  where
    joined : (l r s a b c d e f : ℤ) → l ≡ a -ℤ b → r ≡ c -ℤ d → s ≡ e -ℤ f → a ≡ f → b ≡ d → c ≡ e → l ≡ r -ℤ s
    joined l r s a b c d e f x y z p q t = omega (arith, ints)

-- ---- the weights, from the three cross products
pub record AreWeights (before reached divisor : ℤ) : Type 0 where
  pub signs :
      ((divisor ≡ pos (unsigned_abs divisor)) × (reached ≡ pos (unsigned_abs reached)) × (before ≡ neg_ℤ (pos (unsigned_abs before))))
      ⊎ ((divisor ≡ neg_ℤ (pos (unsigned_abs divisor))) × (reached ≡ neg_ℤ (pos (unsigned_abs reached))) × (before ≡ pos (unsigned_abs before)))
  pub some : 0 < unsigned_abs divisor
  pub within : unsigned_abs before ≤ unsigned_abs divisor

split-after : (b a : Bool) → differ b a ≡ true → ((b ≡ true) × (a ≡ false)) ⊎ ((b ≡ false) × (a ≡ true))
split-after true true e = absurd (cc)
split-after true false e = inl (refl, refl)
split-after false true e = inr (refl, refl)
split-after false false e = absurd (cc)

pub are-weights : (before after reached divisor : ℤ) → divisor ≡ after -ℤ before → differ (int_lt (pos 0) before) (int_lt (pos 0) after) ≡ true
    → is_ahead (over reached divisor) ≡ true → AreWeights before reached divisor
are-weights before after reached (pos zero) e split ahead =
    absurd (apart after before (beq-apart (int_lt (pos 0) before) (int_lt (pos 0) after) split) (sym e))
are-weights before after reached (pos (suc d)) e split ahead =
    elim (split-after (int_lt (pos 0) before) (int_lt (pos 0) after) split) [
      | inl h ↦ (let above = h.0 in let below = h.1 in absurd (omega (arith, ints)))
      | inr h ↦ (let below = h.0 in let above = h.1 in record { signs = inl (omega (arith, ints), omega (arith, ints), omega (arith, ints)); some = omega arith; within = omega (arith, ints) })
    ]
are-weights before after reached (negsuc d) e split ahead =
    elim (split-after (int_lt (pos 0) before) (int_lt (pos 0) after) split) [
      | inl h ↦ (let above = h.0 in let below = h.1 in record { signs = inr (omega (arith, ints), omega (arith, ints), omega (arith, ints)); some = omega arith; within = omega (arith, ints) })
      | inr h ↦ (let below = h.0 in let above = h.1 in absurd (omega (arith, ints)))
    ]

-- one coordinate of the shared point, with all signs gone: v is that of the line's vector, w of the way to the side, u of
-- the side's vector
shared-one : (before reached divisor v w u : ℤ) → AreWeights before reached divisor → reached *ℤ v ≡ divisor *ℤ w -ℤ before *ℤ u
    → pos (unsigned_abs reached) *ℤ v ≡ pos (unsigned_abs divisor) *ℤ w +ℤ pos (unsigned_abs before) *ℤ u
shared-one before reached divisor v w u are e =
    let n = pos (unsigned_abs reached) in let d = pos (unsigned_abs divisor) in let k = pos (unsigned_abs before) in
    elim are.signs [
      | inl s ↦
          kept (n *ℤ v) (d *ℤ w) (k *ℤ u) (neg_ℤ k *ℤ u)
          (ap (λ (z : ℤ). z *ℤ v) (sym s.1) ∙ e ∙ ap (λ (z : ℤ). z *ℤ w -ℤ before *ℤ u) s.0 ∙ ap (λ (z : ℤ). d *ℤ w -ℤ z *ℤ u) s.2) (neg-mul k u)
      | inr s ↦
          changed (n *ℤ v) (neg_ℤ n *ℤ v) (d *ℤ w) (neg_ℤ d *ℤ w) (k *ℤ u)
          (ap (λ (z : ℤ). z *ℤ v) (sym s.1) ∙ e ∙ ap (λ (z : ℤ). z *ℤ w -ℤ before *ℤ u) s.0 ∙ ap (λ (z : ℤ). neg_ℤ d *ℤ w -ℤ z *ℤ u) s.2) (neg-mul n v) (neg-mul d w)
    ]
  where
    kept : (x y z z' : ℤ) → x ≡ y -ℤ z' → z' ≡ neg_ℤ z → x ≡ y +ℤ z
    kept x y z z' e f = omega (arith, ints)

    changed : (x x' y y' z : ℤ) → x' ≡ y' -ℤ z → x' ≡ neg_ℤ x → y' ≡ neg_ℤ y → x ≡ y +ℤ z
    changed x x' y y' z e f g = omega (arith, ints)

-- both coordinates
pub shared-x : (side : Side) (from : Pt) (v : Vector) → AreWeights (cross v (from_to from side.from)) (cross (from_to from side.from) (along side)) (cross v (along side))
    → pos (unsigned_abs (cross (from_to from side.from) (along side))) *ℤ v.x
    ≡ pos (unsigned_abs (cross v (along side))) *ℤ (side.from.x -ℤ from.x) +ℤ pos (unsigned_abs (cross v (from_to from side.from))) *ℤ (side.to.x -ℤ side.from.x)
shared-x side from v are = shared-one _ _ _ v.x (side.from.x -ℤ from.x) (side.to.x -ℤ side.from.x) are (cross-x (along side) v (from_to from side.from))

pub shared-y : (side : Side) (from : Pt) (v : Vector) → AreWeights (cross v (from_to from side.from)) (cross (from_to from side.from) (along side)) (cross v (along side))
    → pos (unsigned_abs (cross (from_to from side.from) (along side))) *ℤ v.y
    ≡ pos (unsigned_abs (cross v (along side))) *ℤ (side.from.y -ℤ from.y) +ℤ pos (unsigned_abs (cross v (from_to from side.from))) *ℤ (side.to.y -ℤ side.from.y)
shared-y side from v are = shared-one _ _ _ v.y (side.from.y -ℤ from.y) (side.to.y -ℤ side.from.y) are (cross-y (along side) v (from_to from side.from))
