-- How long the side of a wall is, and what it takes and turns of a way.
use Rattle.std.proofs.Common.{◌≡◌, ℕ, ◌+◌, ◌-◌, ◌*◌, ◌^◌, ◌≤◌, ◌<◌, arith, ap, ◌∙◌, sym, refl, inl, inr, zero, suc}
use lib.Dec.{T_prop}
use Rattle.std.specs.Prelude.{ℤ, pos, negsuc, neg_ℤ, ◌-ℤ◌, ◌*ℤ◌, ◌<ℤ◌, unsigned_abs, ◌⊎◌, Bool, true, false, int_lt, ◌&&◌, ◌||◌}
use Rattle.std.proofs.lemmas.Int.{ints}
use Rattle.std.proofs.lemmas.Nat.{mul-le}
use Rattle.std.proofs.lemmas.Bool.{cases_lt}
use Rattle.std.proofs.Math.Nat.{mul-le-mul, pow-suc, pow-zero}
use Rattle.scene_geom.specs.declared.plan.Pt.{Pt}
use Rattle.scene_geom.specs.declared.plan.Side.{Side}
use Rattle.scene_geom.specs.Vector.{Vector, cross, dot, turned_left}
use Rattle.scene_geom.specs.Point.{from_to, along, orient_of}
use Rattle.scene_geom.specs.Reflection.{CanReflect, FitsReflection, have_one_sign, squared_length, off_wall, along_wall, to_image, unfolded}
use Rattle.scene_geom.specs.Fraction.{over}
use Rattle.scene_geom.specs.Direction.{dir_over, FitsDirection}
use Rattle.scene_geom.specs.Positive.{suc-positive}
use Rattle.scene_geom.proofs.Whole.{abs-sub, abs-mul}

-- ---- products of whole numbers

power-two : (n : ℕ) → n ^ 2 ≡ n * n
power-two n = pow-suc n 1 ∙ ap (λ (m : ℕ). m * n) (pow-suc n 0 ∙ one) where
  one : n ^ 0 * n ≡ n
  one = rw (pow-zero n) (omega arith)

pub mul-neg : (a b : ℤ) → a *ℤ neg_ℤ b ≡ neg_ℤ (a *ℤ b)
mul-neg a (pos zero) = omega (arith, ints)
mul-neg a (pos (suc n)) = omega (arith, ints)
mul-neg a (negsuc n) = omega (arith, ints)

pub cross-turned_left : (u v : Vector) → cross u (turned_left v) ≡ dot u v
cross-turned_left u v = omega (arith, ints, mul-neg u.y v.y)

square-abs : (z : ℤ) → z *ℤ z ≡ pos (unsigned_abs z * unsigned_abs z)
square-abs (pos n) = omega (arith, ints)
square-abs (negsuc n) = omega (arith, ints)

-- the square of a length by its components
dot-self : (v : Vector) → dot v v ≡ pos (unsigned_abs v.x * unsigned_abs v.x + unsigned_abs v.y * unsigned_abs v.y)
dot-self v = omega (arith, ints, square-abs v.x, square-abs v.y)

abs-dot-self : (v : Vector) → unsigned_abs (dot v v) ≡ unsigned_abs v.x * unsigned_abs v.x + unsigned_abs v.y * unsigned_abs v.y
abs-dot-self v = ap unsigned_abs (dot-self v)

pub dot-abs : (v : Vector) → dot v v ≡ pos (unsigned_abs (dot v v))
dot-abs v = dot-self v ∙ ap pos (sym (abs-dot-self v))

-- ---- bounds by the sum of the components

-- the two components of a way, without their signs
abbrev both : Vector → ℕ
both v = unsigned_abs v.x + unsigned_abs v.y

two_products : (x y : ℕ) → 2 * (x * y) ≤ x * x + y * y
two_products x y = by_size (cases_lt x y) where
  step : (a k : ℕ) → 2 * (a * (a + k)) ≤ a * a + (a + k) * (a + k)
  step a k = omega arith

  at : (a b k : ℕ) → b ≡ a + k → 2 * (a * b) ≤ a * a + b * b
  at a b k e = rw e (step a k)

  by_size : (x < y) ⊎ (y ≤ x) → 2 * (x * y) ≤ x * x + y * y
  by_size (inl h) = at x y (y - x) (omega arith)
  by_size (inr h) = omega (arith, at y x (x - y) (omega arith))

squared-sum : (x y : ℕ) → (x + y) * (x + y) ≤ 2 * (x * x + y * y)
squared-sum x y = omega (arith, two_products x y)

sum-below : (x y : ℕ) → x * x + y * y ≤ 68718952449 → x + y ≤ 370726
sum-below x y h = by_size (cases_lt (x + y) 370727) where
  by_size : (x + y < 370727) ⊎ (370727 ≤ x + y) → x + y ≤ 370726
  by_size (inl k) = omega arith
  by_size (inr k) = absurd (omega (arith, squared-sum x y, mul-le 370727 370727 (x + y) (x + y) k k))

part-below : (x rest : ℕ) → x * x + rest ≤ 68718952449 → x ≤ 262143
part-below x rest h = by_size (cases_lt x 262144) where
  by_size : (x < 262144) ⊎ (262144 ≤ x) → x ≤ 262143
  by_size (inl k) = omega arith
  by_size (inr k) = absurd (omega (arith, mul-le 262144 262144 x x k k))

-- ---- what a side of a wall makes of ways between points of the plan

-- the square of a side's length by its components
pub squared_length-is : (side : Side) → squared_length side ≡ unsigned_abs (along side).x * unsigned_abs (along side).x + unsigned_abs (along side).y * unsigned_abs (along side).y
squared_length-is side = abs-dot-self (along side)

way-x : (p q : Pt) → unsigned_abs (from_to p q).x ≤ 8000000
way-x p q = omega (arith, ints, p.x_in_plan.low, p.x_in_plan.high, q.x_in_plan.low, q.x_in_plan.high)

way-y : (p q : Pt) → unsigned_abs (from_to p q).y ≤ 8000000
way-y p q = omega (arith, ints, p.y_in_plan.low, p.y_in_plan.high, q.y_in_plan.low, q.y_in_plan.high)

cross-by_both : (u v : Vector) → unsigned_abs v.x ≤ 8000000 → unsigned_abs v.y ≤ 8000000 → unsigned_abs (cross u v) ≤ both u * 8000000
cross-by_both u v hx hy =
    omega (
      arith,
      abs-sub (u.x *ℤ v.y) (u.y *ℤ v.x) (unsigned_abs u.x * 8000000) (unsigned_abs u.y * 8000000)
          (abs-mul u.x v.y (unsigned_abs u.x) 8000000 (omega arith) hy) (abs-mul u.y v.x (unsigned_abs u.y) 8000000 (omega arith) hx),
    )

dot-by_both : (u v : Vector) → unsigned_abs v.x ≤ 8000000 → unsigned_abs v.y ≤ 8000000 → unsigned_abs (dot v u) ≤ both u * 8000000
dot-by_both u v hx hy =
    omega (
      arith,
      ints,
      abs-mul v.x u.x 8000000 (unsigned_abs u.x) hx (omega arith),
      abs-mul v.y u.y 8000000 (unsigned_abs u.y) hy (omega arith),
    )

off-by_both : (side : Side) (p : Pt) → off_wall side p ≤ both (along side) * 8000000
off-by_both side p = cross-by_both (along side) (from_to side.from p) (way-x side.from p) (way-y side.from p)

along-by_both : (side : Side) (p q : Pt) → along_wall side p q ≤ both (along side) * 8000000
along-by_both side p q = dot-by_both (along side) (from_to p q) (way-x p q) (way-y p q)

-- a side that has a point off its line is longer than 0
wall-some : (side : Side) (p : Pt) → 0 < off_wall side p → 0 < squared_length side
wall-some side p h = rw (squared_length-is side) (by_parts _ _ (omega (arith, off-by_both side p))) where
  by_parts : (x y : ℕ) → 0 < x + y → 0 < x * x + y * y
  by_parts zero zero k = absurd (omega arith)
  by_parts zero (suc y) k = omega arith
  by_parts (suc x) y k = omega arith

-- the bounds that a side within the limit gives
pub record WithinWall (side : Side) : Type 0 where
  pub x : unsigned_abs (along side).x ≤ 262143
  pub y : unsigned_abs (along side).y ≤ 262143
  pub off : (p : Pt) → off_wall side p ≤ 2970000000000

pub within_wall : (side : Side) → squared_length side ≤ 262143 ^ 2 → WithinWall side
within_wall side h =
    let few = squared_length-is side in
    let total = sum-below (unsigned_abs (along side).x) (unsigned_abs (along side).y) (omega (arith, few)) in
    record {
      x = part-below (unsigned_abs (along side).x) (unsigned_abs (along side).y * unsigned_abs (along side).y) (omega (arith, few));
      y = part-below (unsigned_abs (along side).y) (unsigned_abs (along side).x * unsigned_abs (along side).x) (omega (arith, few));
      off = λ p. omega (arith, off-by_both side p, total);
    }

-- ---- both ends of the path

-- numbers of one sign aren't 0
signs-some : (a b : ℤ) → have_one_sign a b ≡ true → (0 < unsigned_abs a) × (0 < unsigned_abs b)
signs-some (pos zero) (pos b) h = grind arith
signs-some (pos zero) (negsuc b) h = grind arith
signs-some (pos (suc a)) (pos zero) h = grind arith
signs-some (pos (suc a)) (pos (suc b)) h = (omega arith, omega arith)
signs-some (pos (suc a)) (negsuc b) h = grind arith
signs-some (negsuc a) (pos zero) h = grind arith
signs-some (negsuc a) (pos (suc b)) h = grind arith
signs-some (negsuc a) (negsuc b) h = (omega arith, omega arith)

-- what holds of two points between which a side can reflect: they are off its line, so that it has a length
pub record Off (side : Side) (s r : Pt) : Type 0 where
  pub source : 0 < off_wall side s
  pub receiver : 0 < off_wall side r
  pub wall : 0 < squared_length side

pub off : (side : Side) (s r : Pt) → CanReflect side s r → Off side s r
off side s r h =
    let some = signs-some (orient_of side.from side.to s) (orient_of side.from side.to r) h.one_side in
    record { source = some.0; receiver = some.1; wall = wall-some side s some.0 }

signs-exchanged : (a b : ℤ) → have_one_sign b a ≡ have_one_sign a b
signs-exchanged a b = by_cases (int_lt (pos 0) a) (int_lt (pos 0) b) (int_lt a (pos 0)) (int_lt b (pos 0)) where
  by_cases : (w x y z : Bool) → ((x && w) || (z && y)) ≡ ((w && x) || (y && z))
  by_cases true true y z = refl
  by_cases true false true true = refl
  by_cases true false true false = refl
  by_cases true false false true = refl
  by_cases true false false false = refl
  by_cases false true true true = refl
  by_cases false true true false = refl
  by_cases false true false true = refl
  by_cases false true false false = refl
  by_cases false false true true = refl
  by_cases false false true false = refl
  by_cases false false false true = refl
  by_cases false false false false = refl

pub exchanged : (side : Side) (s r : Pt) → CanReflect side s r → CanReflect side r s
exchanged side s r h = record { one_side = signs-exchanged (orient_of side.from side.to s) (orient_of side.from side.to r) ∙ h.one_side; length = h.length }

-- ---- the parts of the path

-- a fraction over a divisor above 0
pub over-n : (n : ℤ) (d : ℕ) → (over n (pos d)).n ≡ n
over-n n zero = refl
over-n n (suc d) = refl

pub over-d : (n : ℤ) (d : ℕ) → 0 < d → (over n (pos d)).d ≡ pos d
over-d n zero h = absurd (omega arith)
over-d n (suc d) h = refl

pub dir_over-x : (v : Vector) (w : ℤ) → (dir_over v w).x ≡ v.x
dir_over-x v (pos zero) = refl
dir_over-x v (pos (suc n)) = refl
dir_over-x v (negsuc n) = refl

pub dir_over-y : (v : Vector) (w : ℤ) → (dir_over v w).y ≡ v.y
dir_over-y v (pos zero) = refl
dir_over-y v (pos (suc n)) = refl
dir_over-y v (negsuc n) = refl

dir_over-w : (v : Vector) (w limit : ℕ) → w ≤ limit → 0 < limit → unsigned_abs (dir_over v (pos w)).w ≤ limit
dir_over-w v zero limit h k = omega arith
dir_over-w v (suc w) limit h k = omega arith

-- two directions are one where their numbers are
positive-prop : (z : ℤ) (g h : pos 0 <ℤ z) → g ≡ h
positive-prop z = hlevel T_prop

dir-over : (v : Vector) (w : ℤ) (h : pos 0 <ℤ w) → record { x = v.x; y = v.y; w = w; positive = h } ≡ dir_over v w
dir-over v (pos zero) h = absurd (omega (arith, ints))
dir-over v (pos (suc k)) h = ap (λ (g : pos 0 <ℤ pos (suc k)). record { x = v.x; y = v.y; w = pos (suc k); positive = g }) (positive-prop (pos (suc k)) h (suc-positive k))
dir-over v (negsuc k) h = absurd (omega (arith, ints))

pub dir-is : (x y w u : ℤ) (h : pos 0 <ℤ w) (v : Vector) → x ≡ v.x → y ≡ v.y → w ≡ u → record { x = x; y = y; w = w; positive = h } ≡ dir_over v u
dir-is x y w u h v e f g =
    ap (λ (z : ℤ). record { x = z; y = y; w = w; positive = h }) e
    ∙ ap (λ (z : ℤ). record { x = v.x; y = z; w = w; positive = h }) f
    ∙ dir-over v w h ∙ ap (dir_over v) g

pub part-within : (square way off normal : ℤ) → unsigned_abs square ≤ 68718952449 → unsigned_abs way ≤ 8000000 → unsigned_abs off ≤ 2970000000000 → unsigned_abs normal ≤ 262143
    → unsigned_abs (square *ℤ way -ℤ pos 2 *ℤ off *ℤ normal) ≤ 2110000000000000000
part-within square way off normal hs hw ho hn =
    omega (
      arith,
      abs-sub (square *ℤ way) (pos 2 *ℤ off *ℤ normal) 549751619592000000 1557129420000000000
          (abs-mul square way 68718952449 8000000 hs hw)
          (abs-mul (pos 2 *ℤ off) normal 5940000000000 262143 (abs-mul (pos 2) off 2 2970000000000 (omega arith) ho) hn),
    )

to_image-fits : (side : Side) (p q : Pt) → squared_length side ≤ 262143 ^ 2 → FitsDirection (to_image side p q)
to_image-fits side p q h =
    let w = within_wall side h in
    record {
      x_within = rw (dir_over-x _ (pos (squared_length side))) (part-within (pos (squared_length side)) (from_to p q).x (orient_of side.from side.to q) (turned_left (along side)).x h (way-x p q) (w.off q) (omega (arith, ints, w.y)));
      y_within = rw (dir_over-y _ (pos (squared_length side))) (part-within (pos (squared_length side)) (from_to p q).y (orient_of side.from side.to q) (turned_left (along side)).y h (way-y p q) (w.off q) w.x);
      w_within = dir_over-w _ (squared_length side) 68718952449 h (omega arith);
    }

square-within : (side : Side) (s r : Pt) → (off_wall side s + off_wall side r) ^ 2 + along_wall side s r ^ 2 ≤ 640000000000000 * squared_length side
square-within side s r =
    let b = both (along side) in
    let across : off_wall side s + off_wall side r ≤ b * 16000000 = omega (arith, off-by_both side s, off-by_both side r) in
    let ahead : along_wall side s r ≤ b * 8000000 = along-by_both side s r in
    omega (
      arith,
      power-two (off_wall side s + off_wall side r),
      power-two (along_wall side s r),
      mul-le-mul across across,
      mul-le-mul ahead ahead,
      squared-sum (unsigned_abs (along side).x) (unsigned_abs (along side).y),
      squared_length-is side,
    )

pub unfolded-fits : (side : Side) (s r : Pt) → CanReflect side s r → FitsReflection (unfolded side s r)
unfolded-fits side s r h =
    let w = within_wall side h.length in
    let some = off side s r h in
    let below = over-d (pos (off_wall side s)) (off_wall side s + off_wall side r) (omega (arith, some.source)) in
    let above = over-n (pos (off_wall side s)) (off_wall side s + off_wall side r) in
    let square = over-n (pos ((off_wall side s + off_wall side r) ^ 2 + along_wall side s r ^ 2)) (squared_length side) in
    let wall = over-d (pos ((off_wall side s + off_wall side r) ^ 2 + along_wall side s r ^ 2)) (squared_length side) some.wall in
    record {
      first = to_image-fits side s r h.length;
      second = to_image-fits side r s h.length;
      p = record { above = rw above (w.off s); below = rw below (omega (arith, w.off s, w.off r)) };
      rest = record { above = rw (above, below) (omega (arith, ints, w.off r)); below = rw below (omega (arith, w.off s, w.off r)) };
      square = rw (square, wall) (square-within side s r);
      wall = rw wall h.length;
    }
