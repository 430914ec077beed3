-- What the sides of obstacles and their reflections keep.
use lib.Dec.{T_prop}
use mir.Syntax.{w128}
use mir.Val.{to_z, of_z}
use Rattle.std.proofs.Common.{◌≡◌, ℕ, zero, suc, ◌+◌, ◌*◌, ◌≤◌, ◌<◌, List, [], ◌∷◌, refl, ap, ◌∙◌, arith}
use Rattle.std.specs.Prelude.{ℤ, negsuc, ◌+ℤ◌, ◌<ℤ◌, unsigned_abs, Some, slice_get, IsTrue, nat_le, pos, not, ◌==◌, Bool, true, false, ◌&&◌}
use Rattle.std.specs.List.{list_all}
use Rattle.std.proofs.lemmas.Int.{ints}
use Rattle.scene_geom.specs.declared.plan.Pt.{Pt}
use Rattle.scene_geom.specs.declared.plan.Side.{Side}
use Rattle.scene_geom.specs.Fraction.{over, FitsCrossing}
use Rattle.scene_geom.specs.Positive.{suc-positive}
use Rattle.scene_geom.specs.Reflection.{are_on_one_side, have_one_sign, squared_length, CanReflect, specular, unfolded, off_wall}
use Rattle.scene_geom.proofs.Walls.{off, unfolded-fits, over-n, over-d}
use Rattle.scene_parts.specs.Parts.{Obstacle, IsObstacle, sides_of}
use Rattle.scene_parts.specs.Sides.{is_short}
use Rattle.scene_parts.specs.declared.screening.ends.Ends.{Ends}
use Rattle.image_source.specs.Mirrors.{IsMirror, strikes, stays_below, faces, has_mirror}

-- each side of a list of short ones is short
all-short : (sides : List Side) (i : ℕ) (side : Side) → IsTrue (list_all is_short sides) → slice_get sides i ≡ Some side → is_short side ≡ true
all-short [] i side h e = cc
all-short (first ∷ sides) zero side h e = grind arith
all-short (first ∷ sides) (suc i) side h e = all-short sides i side (rest (is_short first) (list_all is_short sides) h) e where
  rest : (a b : Bool) → IsTrue (a && b) → IsTrue b
  rest true b h = h
  rest false b h = cc

pub short-wall : (kept o : Obstacle) → kept ≡ o → IsObstacle kept → (i : ℕ) (side : Side) → slice_get (sides_of o) i ≡ Some side → squared_length side ≤ 68718952449
short-wall kept o same h i side e = below (squared_length side) (all-short (sides_of o) i side (rw same at h.short) e) where
  below : (n : ℕ) → nat_le n (262143 * 262143) ≡ true → n ≤ 68718952449
  below n h = grind arith

-- the specular point lies strictly between both ends of the path
pub mirror-kept : (side : Side) (s r : Pt) → CanReflect side s r → IsMirror (unfolded side s r)
mirror-kept side s r h =
    let some = off side s r h in
    let n = over-n (pos (off_wall side s)) (off_wall side s + off_wall side r) in
    let d = over-d (pos (off_wall side s)) (off_wall side s + off_wall side r) (omega (arith, some.source)) in
    record {
      fits = unfolded-fits side s r h;
      after_source = rw n (omega (arith, ints, some.source));
      before_receiver = rw (n, d) (omega (arith, ints, some.receiver));
    }

-- nothing is reflected by a surface that is taken as absorbing
pub none-absorbed : (o : Obstacle) (side : Side) (ends : Ends) → o.rho ≡ 0 → false ≡ has_mirror o side ends
none-absorbed o side ends h = rw h refl

-- nor where source and receiver aren't strictly on one side of its line
beside : (a b c d e : Bool) → b ≡ false → false ≡ (a && b && c && d && e)
beside true b c d e h = rw h refl
beside false b c d e h = refl

pub none-beside : (o : Obstacle) (side : Side) (ends : Ends) → are_on_one_side side ends.s ends.r ≡ false → false ≡ has_mirror o side ends
none-beside o side ends h =
    beside (not (o.rho == 0)) (are_on_one_side side ends.s ends.r) (strikes side ends (specular side ends.s ends.r)) (stays_below ends o.h (specular side ends.s ends.r)) (faces o.shape o.points side ends.s) h

-- ---- where the specular point lies

-- numbers of one sign aren't 0
pub signs-some : (a b : ℤ) → have_one_sign a b ≡ true → (0 < unsigned_abs a) × (0 < unsigned_abs b)
signs-some (pos zero) (pos b) h = grind arith
signs-some (pos zero) (negsuc b) h = grind arith
signs-some (pos (suc a)) (pos zero) h = grind arith
signs-some (pos (suc a)) (pos (suc b)) h = (omega arith, omega arith)
signs-some (pos (suc a)) (negsuc b) h = grind arith
signs-some (negsuc a) (pos zero) h = grind arith
signs-some (negsuc a) (pos (suc b)) h = grind arith
signs-some (negsuc a) (negsuc b) h = (omega arith, omega arith)

-- a sum of two distances as the code has it
pub total-is : (x y : ℤ) (a b : ℕ) → x ≡ pos a → y ≡ pos b → unsigned_abs x ≤ 128000000000000 → unsigned_abs y ≤ 128000000000000
    → to_z w128 (of_z w128 (to_z w128 (of_z w128 x) +ℤ to_z w128 (of_z w128 y))) ≡ pos (a + b)
total-is x y a b e f hx hy = omega (arith, ints)

positive-prop : (z : ℤ) (g h : pos 0 <ℤ z) → g ≡ h
positive-prop z = hlevel T_prop

fraction-over : (n d : ℤ) (h : pos 0 <ℤ d) → record { n = n; d = d; positive = h } ≡ over n d
fraction-over n (pos zero) h = absurd (omega (arith, ints))
fraction-over n (pos (suc k)) h = ap (λ (g : pos 0 <ℤ pos (suc k)). record { n = n; d = pos (suc k); positive = g }) (positive-prop (pos (suc k)) h (suc-positive k))
fraction-over n (negsuc k) h = absurd (omega (arith, ints))

-- a fraction of two whole numbers
pub fraction-is : (n d m k : ℤ) (h : pos 0 <ℤ d) → n ≡ m → d ≡ k → record { n = n; d = d; positive = h } ≡ over m k
fraction-is n d m k h e f = ap (λ (z : ℤ). record { n = z; d = d; positive = h }) e ∙ fraction-over m d h ∙ ap (over m) f

-- it lies strictly between 0 and 1 where it is a part of a sum
pub part-fits : (n d : ℤ) (h : pos 0 <ℤ d) (a b : ℕ) → n ≡ pos a → d ≡ pos (a + b) → 0 < a → 0 < b → a ≤ 128000000000000 → b ≤ 128000000000000
    → FitsCrossing (record { n = n; d = d; positive = h })
part-fits n d h a b e f some more few less = record {
  above_zero = omega (arith, ints);
  below_one = omega (arith, ints);
  below = omega (arith, ints);
}

-- ---- what a side that mirrors keeps

second : (a b c d e : Bool) → (a && b && c && d && e) ≡ true → b ≡ true
second true true c d e h = refl
second true false c d e h = absurd (cc)
second false b c d e h = absurd (cc)

pub can-reflect : (o : Obstacle) (i : ℕ) (side : Side) (ends : Ends) → IsObstacle o → slice_get (sides_of o) i ≡ Some side → has_mirror o side ends ≡ true → CanReflect side ends.s ends.r
can-reflect o i side ends is at h = record {
  one_side =
      second (not (o.rho == 0)) (are_on_one_side side ends.s ends.r) (strikes side ends (specular side ends.s ends.r)) (stays_below ends o.h (specular side ends.s ends.r)) (faces o.shape o.points side ends.s) h;
  length = short-wall o o refl is i side at;
}
