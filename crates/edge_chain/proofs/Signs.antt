-- Signs of products, and the relation between the six products of four vectors.
use Rattle.std.proofs.Common.{◌≡◌, zero, suc, arith, ap, sym, ◌∙◌}
use Rattle.std.specs.Prelude.{ℤ, pos, negsuc, ◌+ℤ◌, ◌-ℤ◌, ◌*ℤ◌, neg_ℤ, ◌≤ℤ◌, ◌<ℤ◌}
use Rattle.std.proofs.lemmas.Int.{ints}
use Rattle.std.proofs.Math.IntN.{*ℤ_comm}
use Rattle.scene_geom.specs.Vector.{Vector, cross}
use Rattle.scene_geom.proofs.Whole.{sub_mul, mul_sub}
use Rattle.scene_geom.proofs.Turning.{neg-mul}
use Rattle.scene_geom.proofs.CommonPoint.{mul_assoc, left_comm}

-- ---- signs
pub positive_mul : (a b : ℤ) → pos 0 ≤ℤ a → pos 0 ≤ℤ b → pos 0 ≤ℤ (a *ℤ b)
positive_mul (pos m) (pos n) h k = omega (arith, ints)
positive_mul (negsuc m) b h k = absurd (omega (arith, ints))
positive_mul (pos m) (negsuc n) h k = absurd (omega (arith, ints))

pub neg_neg : (a b : ℤ) → neg_ℤ a *ℤ neg_ℤ b ≡ a *ℤ b
neg_neg a b = neg-mul a (neg_ℤ b) ∙ ap neg_ℤ (*ℤ_comm a (neg_ℤ b) ∙ neg-mul b a) ∙ twice (b *ℤ a) ∙ *ℤ_comm b a where
  twice : (z : ℤ) → neg_ℤ (neg_ℤ z) ≡ z
  twice z = omega (arith, ints)

pub negative_mul : (a b : ℤ) → a ≤ℤ pos 0 → b ≤ℤ pos 0 → pos 0 ≤ℤ (a *ℤ b)
negative_mul a b h k = rw (← neg_neg a b) (positive_mul (neg_ℤ a) (neg_ℤ b) (omega (arith, ints)) (omega (arith, ints)))

-- a factor has the sign of the product where the other is above 0
pub of_product : (p q : ℤ) → pos 0 <ℤ q → pos 0 ≤ℤ (p *ℤ q) → pos 0 ≤ℤ p
of_product (pos n) q h k = omega (arith, ints)
of_product (negsuc n) (pos zero) h k = absurd (omega (arith, ints))
of_product (negsuc n) (pos (suc m)) h k = absurd (omega (arith, ints, k))
of_product (negsuc n) (negsuc m) h k = absurd (omega (arith, ints))

pub of_sum : (p q m n : ℤ) → p *ℤ q ≡ m +ℤ n → pos 0 <ℤ q → pos 0 ≤ℤ m → pos 0 ≤ℤ n → pos 0 ≤ℤ p
of_sum p q m n e h j k = of_product p q h (rw e (omega (arith, ints)))

pub zero-mul : (z : ℤ) → pos 0 *ℤ z ≡ pos 0
zero-mul z = omega (arith, ints)

-- a product is 0 only where a factor is
pub zero_factor : (p q : ℤ) → p *ℤ q ≡ pos 0 → pos 0 <ℤ q → p ≡ pos 0
zero_factor p q e h =
    let up : pos 0 ≤ℤ p = of_product p q h (omega (arith, ints)) in
    let negated = neg-mul p q in
    let down : pos 0 ≤ℤ neg_ℤ p = of_product (neg_ℤ p) q h (omega (arith, ints)) in
    omega (arith, ints)

-- ---- four vectors
mixed : (p q r s : ℤ) → (p *ℤ q) *ℤ (r *ℤ s) ≡ (p *ℤ r) *ℤ (q *ℤ s)
mixed p q r s = mul_assoc p q (r *ℤ s) ∙ ap (λ (z : ℤ). p *ℤ z) (left_comm q r s) ∙ sym (mul_assoc p r (q *ℤ s))

crossed : (p q r s : ℤ) → (p *ℤ q) *ℤ (r *ℤ s) ≡ (p *ℤ s) *ℤ (q *ℤ r)
crossed p q r s = ap (λ (z : ℤ). (p *ℤ q) *ℤ z) (*ℤ_comm r s) ∙ mixed p q s r

across : (p q r s : ℤ) → (p *ℤ q) *ℤ (r *ℤ s) ≡ (p *ℤ s) *ℤ (r *ℤ q)
across p q r s = crossed p q r s ∙ ap (λ (z : ℤ). (p *ℤ s) *ℤ z) (*ℤ_comm q r)

product : (u v w z : ℤ) → (u -ℤ v) *ℤ (w -ℤ z) ≡ (u *ℤ w -ℤ u *ℤ z) -ℤ (v *ℤ w -ℤ v *ℤ z)
product u v w z = omega (arith, ints, sub_mul u v (w -ℤ z), mul_sub w z u, mul_sub w z v)

gathered : (t u v a b c d e f a' b' c' d' e' f' : ℤ)
    → t ≡ (a -ℤ b) -ℤ (c -ℤ d) → u ≡ (e -ℤ b') -ℤ (c' -ℤ f) → v ≡ (e' -ℤ a') -ℤ (d' -ℤ f')
    → a ≡ a' → b ≡ b' → c ≡ c' → d ≡ d' → e ≡ e' → f ≡ f' → u ≡ t +ℤ v
gathered t u v a b c d e f a' b' c' d' e' f' ht hu hv ha hb hc hd he hf = omega (arith, ints)

pub four_vectors : (a b c d : Vector) → cross a c *ℤ cross b d ≡ cross a b *ℤ cross c d +ℤ cross a d *ℤ cross b c
four_vectors a b c d =
    gathered _ _ _ _ _ _ _ _ _ _ _ _ _ _ _
    (product (a.x *ℤ b.y) (a.y *ℤ b.x) (c.x *ℤ d.y) (c.y *ℤ d.x))
    (product (a.x *ℤ c.y) (a.y *ℤ c.x) (b.x *ℤ d.y) (b.y *ℤ d.x))
    (product (a.x *ℤ d.y) (a.y *ℤ d.x) (b.x *ℤ c.y) (b.y *ℤ c.x))
    (crossed a.x b.y c.x d.y) (mixed a.x b.y c.y d.x) (mixed a.y b.x c.x d.y) (crossed a.y b.x c.y d.x)
    (across a.x c.y b.x d.y) (across a.y c.x b.y d.x)

pub of_negatives : (a b c d e f : ℤ) → a *ℤ b ≡ c *ℤ d +ℤ e *ℤ f → neg_ℤ a *ℤ neg_ℤ b ≡ neg_ℤ c *ℤ neg_ℤ d +ℤ neg_ℤ e *ℤ neg_ℤ f
of_negatives a b c d e f h = rw (neg_neg a b, neg_neg c d, neg_neg e f) h
