-- The first leg of a reflection meets the line of the wall at the specular point.
use Rattle.std.proofs.Common.{◌≡◌, ℕ, ◌+◌, ◌<◌, zero, suc, arith, ap, ◌∙◌, refl}
use Rattle.std.specs.Prelude.{ℤ, pos, negsuc, neg_ℤ, ◌+ℤ◌, ◌-ℤ◌, ◌*ℤ◌, unsigned_abs, true}
use Rattle.std.proofs.lemmas.Int.{ints}
use Rattle.std.proofs.Math.IntN.{*ℤ_comm}
use Rattle.scene_geom.specs.declared.plan.Pt.{Pt}
use Rattle.scene_geom.specs.Vector.{Vector, cross, dot}
use Rattle.scene_geom.specs.Point.{from_to, along, orient_of}
use Rattle.scene_geom.specs.Direction.{dir_over}
use Rattle.scene_geom.specs.Reflection.{squared_length, have_one_sign, off_wall, to_image, specular}
use Rattle.scene_geom.proofs.Whole.{add_mul, mul_add, mul_sub}
use Rattle.scene_geom.proofs.CommonPoint.{left_comm, mul_assoc, cross-difference, dot-difference}
use Rattle.scene_geom.proofs.Imaging.{legs-lead_to_images}
use Rattle.scene_geom.proofs.Walls.{mul-neg, off, over-n, over-d}
use Rattle.image_source.specs.Mirrors.{ahead}
use Rattle.image_source.specs.Laws.{LegsMeetWalls}

-- ---- whole numbers

-- of two numbers of one sign, each times the absolute value of the other
one-sign : (a b : ℤ) → have_one_sign a b ≡ true → pos (unsigned_abs b) *ℤ a ≡ pos (unsigned_abs a) *ℤ b
one-sign (pos x) (pos y) h = *ℤ_comm (pos y) (pos x)
one-sign (negsuc x) (negsuc y) h = omega (arith, ints)
one-sign (pos x) (negsuc y) h = absurd (grind (arith, ints))
one-sign (negsuc x) (pos y) h = absurd (grind (arith, ints))

-- d w a less n w (a + b) is 0, where d is n + m, and m a is n b
none-left : (w a b n m : ℤ) → m *ℤ a ≡ n *ℤ b → n *ℤ neg_ℤ (w *ℤ (a +ℤ b)) -ℤ ((n +ℤ m) *ℤ w) *ℤ neg_ℤ a ≡ pos 0
none-left w a b n m same =
    let first : n *ℤ (w *ℤ (a +ℤ b)) ≡ w *ℤ (n *ℤ a +ℤ n *ℤ b) = left_comm n w (a +ℤ b) ∙ ap (λ (z : ℤ). w *ℤ z) (mul_add a b n) in
    let second : ((n +ℤ m) *ℤ w) *ℤ a ≡ w *ℤ (n *ℤ a +ℤ n *ℤ b) =
    mul_assoc (n +ℤ m) w a ∙ left_comm (n +ℤ m) w a ∙ ap (λ (z : ℤ). w *ℤ z) (add_mul n m a ∙ ap (λ (z : ℤ). n *ℤ a +ℤ z) same) in
    ready _ _ _ _ _ (mul-neg n (w *ℤ (a +ℤ b))) first (mul-neg ((n +ℤ m) *ℤ w) a) second
  where
    ready : (l k p q r : ℤ) → l ≡ neg_ℤ p → p ≡ r → k ≡ neg_ℤ q → q ≡ r → l -ℤ k ≡ pos 0
    ready l k p q r e f g h = omega (arith, ints)

-- n w (y - x) and d w x are w (x d + n (y - x))
all-left : (w x y n d : ℤ) → n *ℤ (w *ℤ (y -ℤ x)) -ℤ (d *ℤ w) *ℤ neg_ℤ x ≡ w *ℤ (x *ℤ d +ℤ n *ℤ (y -ℤ x))
all-left w x y n d =
    let second : (d *ℤ w) *ℤ x ≡ w *ℤ (x *ℤ d) = mul_assoc d w x ∙ left_comm d w x ∙ ap (λ (z : ℤ). w *ℤ z) (*ℤ_comm d x) in
    ready _ _ _ _ _ _ (left_comm n w (y -ℤ x)) (mul-neg (d *ℤ w) x) second (mul_add (x *ℤ d) (n *ℤ (y -ℤ x)) w)
  where
    ready : (l k p q r s : ℤ) → l ≡ s → k ≡ neg_ℤ q → q ≡ r → p ≡ r +ℤ s → l -ℤ k ≡ p
    ready l k p q r s e f g h = omega (arith, ints)

-- ---- vectors

-- a way back
cross-back : (v : Vector) (p q : Pt) → cross v (from_to p q) ≡ neg_ℤ (cross v (from_to q p))
cross-back v p q = simp mul_sub (omega (arith, ints))

dot-back : (v : Vector) (p q : Pt) → dot v (from_to p q) ≡ neg_ℤ (dot v (from_to q p))
dot-back v p q = simp mul_sub (omega (arith, ints))

dot-turned : (u v : Vector) → dot u v ≡ dot v u
dot-turned u v = ap (λ (z : ℤ). z +ℤ u.y *ℤ v.y) (*ℤ_comm u.x v.x) ∙ ap (λ (z : ℤ). v.x *ℤ u.x +ℤ z) (*ℤ_comm u.y v.y)

-- the products over two points differ by that over the way between them
dot-between : (v : Vector) (from a b : Pt) → dot v (from_to a b) ≡ dot v (from_to from b) -ℤ dot v (from_to from a)
dot-between v from a b = simp mul_sub (omega (arith, ints))

-- ---- the leg at the specular point

divisor : (v : Vector) (w : ℕ) → 0 < w → (dir_over v (pos w)).w ≡ pos w
divisor v zero h = absurd (omega arith)
divisor v (suc w) h = refl

pub legs-meet-walls : LegsMeetWalls
legs-meet-walls side s r h =
    let u = along side in
    let w = pos (squared_length side) in
    let leg = to_image side s r in
    let p = specular side s r in
    let back = from_to s side.from in
    let some = off side s r h in
    let a = orient_of side.from side.to s in
    let b = orient_of side.from side.to r in
    let n = pos (unsigned_abs a) in
    let m = pos (unsigned_abs b) in
    let n_is : p.n ≡ n = over-n (pos (off_wall side s)) (off_wall side s + off_wall side r) in
    let d_is : p.d ≡ n +ℤ m = over-d (pos (off_wall side s)) (off_wall side s + off_wall side r) (omega (arith, some.source)) in
    let w_is : leg.w ≡ w = divisor _ (squared_length side) some.wall in
    let lead = legs-lead_to_images side s r in
    record {
      on_line =
          cross-difference u.x u.y p.n (p.d *ℤ leg.w) leg.x leg.y back.x back.y
          ∙ rw (n_is, d_is, w_is, lead.across, cross-back u s side.from) (none-left w a b n m (one-sign a b h.one_side));
      place =
          dot-difference u.x u.y p.n (p.d *ℤ leg.w) leg.x leg.y back.x back.y
          ∙ rw (w_is, lead.ahead, dot-back u s side.from, dot-between u side.from s r, dot-turned u (from_to side.from s), dot-turned u (from_to side.from r))
          (all-left w (ahead side s) (ahead side r) p.n p.d);
    }
