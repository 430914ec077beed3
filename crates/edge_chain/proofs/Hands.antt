-- How points lie off lines: the same relations on either hand.
use Rattle.std.proofs.Common.{◌≡◌, arith, ap, refl, ◌∙◌}
use Rattle.std.specs.Prelude.{ℤ, pos, ◌+ℤ◌, ◌-ℤ◌, ◌*ℤ◌, neg_ℤ, ◌≤ℤ◌, ◌<ℤ◌}
use Rattle.std.proofs.lemmas.Int.{ints}
use Rattle.scene_geom.specs.declared.plan.Pt.{Pt}
use Rattle.scene_geom.specs.Point.{from_to, orient_of}
use Rattle.scene_geom.proofs.Whole.{sub_mul, mul_sub}
use Rattle.edge_chain.specs.declared.hand.Hand.{Hand}
use Rattle.edge_chain.specs.declared.hand.Hand.TheVariants.{Left, Right}
use Rattle.edge_chain.specs.Chain.{off_line}
use Rattle.edge_chain.proofs.Signs.{of_sum, four_vectors, of_negatives}

orient-turned : (a b c : Pt) → orient_of a b c ≡ orient_of b c a
orient-turned a b c = simp (mul_sub, sub_mul) (omega (arith, ints))

orient-swapped : (a b c : Pt) → orient_of a b c ≡ neg_ℤ (orient_of a c b)
orient-swapped a b c = omega (arith, ints)

between : (b a s : ℤ) → b -ℤ a ≡ (b -ℤ s) -ℤ (a -ℤ s)
between b a s = omega (arith, ints)

apart : (k l m n k' l' m' n' : ℤ) → k ≡ k' → l ≡ l' → m ≡ m' → n ≡ n' → k *ℤ l -ℤ m *ℤ n ≡ k' *ℤ l' -ℤ m' *ℤ n'
apart k l m n k' l' m' n' e f g h = rw (e, f, g, h) refl

spread : (ax ay bx by cx cy : ℤ) → (bx -ℤ ax) *ℤ (cy -ℤ ay) -ℤ (by -ℤ ay) *ℤ (cx -ℤ ax)
    ≡ ((ax *ℤ by -ℤ ay *ℤ bx) +ℤ (bx *ℤ cy -ℤ by *ℤ cx)) +ℤ (cx *ℤ ay -ℤ cy *ℤ ax)
spread ax ay bx by cx cy = simp (mul_sub, sub_mul) (omega (arith, ints))

orient-sum : (s a b c : Pt) → orient_of a b c ≡ (orient_of s a b +ℤ orient_of s b c) +ℤ orient_of s c a
orient-sum s a b c =
    apart (b.x -ℤ a.x) (c.y -ℤ a.y) (b.y -ℤ a.y) (c.x -ℤ a.x) _ _ _ _ (between b.x a.x s.x) (between c.y a.y s.y) (between b.y a.y s.y) (between c.x a.x s.x)
    ∙ spread (a.x -ℤ s.x) (a.y -ℤ s.y) (b.x -ℤ s.x) (b.y -ℤ s.y) (c.x -ℤ s.x) (c.y -ℤ s.y)

-- three points taken in turn, and with two of them exchanged
pub turned : (hand : Hand) (a b c : Pt) → off_line hand a b c ≡ off_line hand b c a
turned Left a b c = orient-turned a b c
turned Right a b c = ap neg_ℤ (orient-turned a b c)

pub swapped : (hand : Hand) (a b c : Pt) → off_line hand a b c ≡ neg_ℤ (off_line hand a c b)
swapped Left a b c = orient-swapped a b c
swapped Right a b c = ap neg_ℤ (orient-swapped a b c)

-- a triangle seen from another point
pub seen : (hand : Hand) (s a b c : Pt) → off_line hand a b c ≡ (off_line hand s a b +ℤ off_line hand s b c) +ℤ off_line hand s c a
seen Left s a b c = orient-sum s a b c
seen Right s a b c = negated (orient_of a b c) (orient_of s a b) (orient_of s b c) (orient_of s c a) (orient-sum s a b c) where
  negated : (t u v w : ℤ) → t ≡ (u +ℤ v) +ℤ w → neg_ℤ t ≡ (neg_ℤ u +ℤ neg_ℤ v) +ℤ neg_ℤ w
  negated t u v w e = omega (arith, ints)

-- four points seen from a fifth
pub four_points : (hand : Hand) (s a b c d : Pt) → off_line hand s a c *ℤ off_line hand s b d ≡ off_line hand s a b *ℤ off_line hand s c d +ℤ off_line hand s a d *ℤ off_line hand s b c
four_points Left s a b c d = four_vectors (from_to s a) (from_to s b) (from_to s c) (from_to s d)
four_points Right s a b c d =
    of_negatives (orient_of s a c) (orient_of s b d) (orient_of s a b) (orient_of s c d) (orient_of s a d) (orient_of s b c)
    (four_vectors (from_to s a) (from_to s b) (from_to s c) (from_to s d))

pub by_signs : (hand : Hand) (s a b c d : Pt) → pos 0 <ℤ off_line hand s b d
    → pos 0 ≤ℤ (off_line hand s a b *ℤ off_line hand s c d) → pos 0 ≤ℤ (off_line hand s a d *ℤ off_line hand s b c) → pos 0 ≤ℤ off_line hand s a c
by_signs hand s a b c d q m n = of_sum _ _ _ _ (four_points hand s a b c d) q m n
