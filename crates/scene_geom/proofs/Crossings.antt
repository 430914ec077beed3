-- Where a side crosses a line, from the two products at its ends.
use Rattle.std.proofs.Common.{◌≡◌, ◌≤◌, Bool, true, false, arith, ap, ◌∙◌, sym, refl}
use Rattle.std.specs.Prelude.{zero, suc, ℤ, pos, negsuc, ◌-ℤ◌, ◌*ℤ◌, int_lt, ◌&&◌, None, Some, unsigned_abs}
use Rattle.std.specs.Bool.{beq, then_some}
use Rattle.std.specs.Option.{option_map, option_and_then}
use Rattle.std.proofs.lemmas.Int.{ints}
use Rattle.scene_geom.specs.declared.plan.Pt.{Pt}
use Rattle.scene_geom.specs.declared.plan.Side.{Side}
use Rattle.scene_geom.specs.declared.directions.direction.Dir.{Dir}
use Rattle.scene_geom.specs.declared.fractions.fraction.Frac.{Frac}
use Rattle.scene_geom.specs.Vector.{Vector, cross}
use Rattle.scene_geom.specs.Point.{from_to, along}
use Rattle.scene_geom.specs.Fraction.{over, inner, FitsPlace}
use Rattle.scene_geom.specs.Direction.{way, direct, FitsDirection}
use Rattle.scene_geom.specs.Crossing.{differ, is_left, is_split, hits_of, passage_of, crosses_of, are_opposite}
use Rattle.scene_geom.proofs.Whole.{abs-cross}
use Rattle.scene_geom.proofs.Vectors.{cross-between}

pub differ-same : (x y : Bool) → beq x y ≡ true → differ x y ≡ false
differ-same true true e = refl
differ-same true false e = sym e
differ-same false true e = sym e
differ-same false false e = refl

pub differ-apart : (x y : Bool) → beq x y ≡ false → differ x y ≡ true
differ-apart true true e = sym e
differ-apart true false e = refl
differ-apart false true e = refl
differ-apart false false e = sym e

beq_same : (x : Bool) → beq x x ≡ true
beq_same true = refl
beq_same false = refl

-- two numbers of which one alone is above 0 are apart
pub apart : (a b : ℤ) → beq (int_lt (pos 0) b) (int_lt (pos 0) a) ≡ false → a -ℤ b ≡ pos 0 → ⊥
apart a b t e =
    let same : a ≡ b = omega (arith, ints) in
    let no : beq (int_lt (pos 0) b) (int_lt (pos 0) b) ≡ false = rw same at t in
    cc (no, beq_same (int_lt (pos 0) b))

-- the numbers that decide on a hit: the products at the two ends of the side
pub record AtEnds (side : Side) (from : Pt) (v : Vector) (before after : ℤ) : Type 0 where
  pub before_is : before ≡ cross v (from_to from side.from)
  pub after_is : after ≡ cross v (from_to from side.to)

pub at_ends-divisor : (side : Side) (from : Pt) (v : Vector) (before after : ℤ) → AtEnds side from v before after → after -ℤ before ≡ cross v (along side)
at_ends-divisor side from v before after ends = rw (ends.before_is, ends.after_is) (cross-between v from side.from side.to)

pub hits-none : (side : Side) (from : Pt) (dir : Dir) (before after : ℤ) → AtEnds side from (way dir) before after
    → beq (int_lt (pos 0) before) (int_lt (pos 0) after) ≡ true → hits_of side from dir ≡ None
hits-none side from dir before after ends t =
    let same : is_split side from (way dir) ≡ false = differ-same _ _ (rw (ends.before_is, ends.after_is) at t) in
    ap (λ (b : Bool). then_some b (over (cross (from_to from side.from) (along side) *ℤ dir.w) (cross (way dir) (along side)))) same

pub hits-some : (side : Side) (from : Pt) (dir : Dir) (before after reached : ℤ) → AtEnds side from (way dir) before after
    → reached ≡ cross (from_to from side.from) (along side)
    → beq (int_lt (pos 0) before) (int_lt (pos 0) after) ≡ false → hits_of side from dir ≡ Some (over (reached *ℤ dir.w) (after -ℤ before))
hits-some side from dir before after reached ends reached_is t =
    let apart : is_split side from (way dir) ≡ true = differ-apart _ _ (rw (ends.before_is, ends.after_is) at t) in
    ap (λ (b : Bool). then_some b (over (cross (from_to from side.from) (along side) *ℤ dir.w) (cross (way dir) (along side)))) apart
    ∙ ap (λ (n : ℤ). Some (over (n *ℤ dir.w) (cross (way dir) (along side)))) (sym reached_is)
    ∙ ap (λ (d : ℤ). Some (over (reached *ℤ dir.w) d)) (sym (at_ends-divisor side from (way dir) before after ends))

pub crosses-none : (side : Side) (p q : Pt) (before after : ℤ) → AtEnds side p (from_to p q) before after
    → beq (int_lt (pos 0) before) (int_lt (pos 0) after) ≡ true → crosses_of side p q ≡ None
crosses-none side p q before after ends t = ap (option_and_then inner) (hits-none side p (direct p q) before after ends t)

pub crosses-some : (side : Side) (p q : Pt) (before after reached : ℤ) → AtEnds side p (from_to p q) before after
    → reached ≡ cross (from_to p side.from) (along side)
    → beq (int_lt (pos 0) before) (int_lt (pos 0) after) ≡ false → crosses_of side p q ≡ inner (over reached (after -ℤ before))
crosses-some side p q before after reached ends reached_is t =
    ap (option_and_then inner) (hits-some side p (direct p q) before after reached ends reached_is t)
    ∙ ap (λ (n : ℤ). inner (over n (after -ℤ before))) (times_one reached)
  where
    times_one : (z : ℤ) → z *ℤ pos 1 ≡ z
    times_one z = omega (arith, ints)

-- the two tests of a proper crossing, from the numbers that the code compared
pub opposite_eq : (r : Bool) (a b a' b' : ℤ) → a' ≡ a → b' ≡ b → r ≡ are_opposite a' b' → r ≡ are_opposite a b
opposite_eq r a b a' b' ea eb e = rw (← ea, ← eb) e

pub both_opposite : (r s t : Bool) → true ≡ s → r ≡ t → r ≡ (s && t)
both_opposite r s t e f = f ∙ ap (λ (b : Bool). b && t) e

pub not_opposite : (r s t : Bool) → r ≡ false → r ≡ s → r ≡ (s && t)
not_opposite r s t e f = e ∙ ap (λ (b : Bool). b && t) (sym e ∙ f)

-- ---- the place and the hand of a hit
pub passage-none : (side : Side) (from : Pt) (dir : Dir) (before after : ℤ) → AtEnds side from (way dir) before after
    → beq (int_lt (pos 0) before) (int_lt (pos 0) after) ≡ true → passage_of side from dir ≡ None
passage-none side from dir before after ends t =
    ap (option_map (λ place. record { place = place; to_left = is_left from (way dir) side.to })) (hits-none side from dir before after ends t)

pub passage-some : (side : Side) (from : Pt) (dir : Dir) (before after reached : ℤ) (place : Frac) → AtEnds side from (way dir) before after
    → reached ≡ cross (from_to from side.from) (along side)
    → beq (int_lt (pos 0) before) (int_lt (pos 0) after) ≡ false
    → place ≡ over (reached *ℤ dir.w) (after -ℤ before)
    → passage_of side from dir ≡ Some (record { place = place; to_left = int_lt (pos 0) after })
passage-some side from dir before after reached place ends reached_is t e =
    ap (option_map (λ (hit : Frac). record { place = hit; to_left = is_left from (way dir) side.to })) (hits-some side from dir before after reached ends reached_is t)
    ∙ ap (λ (hit : Frac). Some (record { place = hit; to_left = is_left from (way dir) side.to })) (sym e)
    ∙ ap (λ (z : ℤ). Some (record { place = place; to_left = int_lt (pos 0) z })) (sym ends.after_is)

-- the sides of the plan are at most 8,000,000 mm long on each axis
pub along-within : (side : Side) → (unsigned_abs (along side).x ≤ 8000000) × (unsigned_abs (along side).y ≤ 8000000)
along-within side =
    let from = side.from in let to = side.to in (
      omega (arith, ints, from.x_in_plan.low, from.x_in_plan.high, to.x_in_plan.low, to.x_in_plan.high),
      omega (arith, ints, from.y_in_plan.low, from.y_in_plan.high, to.y_in_plan.low, to.y_in_plan.high),
    )

pub divisor-within : (side : Side) (from : Pt) (dir : Dir) (before after : ℤ) → FitsDirection dir → AtEnds side from (way dir) before after
    → unsigned_abs (after -ℤ before) ≤ 33760000000000000000000000
divisor-within side from dir before after fits ends =
    rw
    (at_ends-divisor side from (way dir) before after ends)
    (abs-cross dir.x (along side).y dir.y (along side).x 2110000000000000000 8000000 fits.x_within (along-within side).1 fits.y_within (along-within side).0)

pub over-fits : (n d : ℤ) → unsigned_abs n ≤ 8796025913472000000000000 → unsigned_abs d ≤ 33760000000000000000000000 → FitsPlace (over n d)
over-fits n (pos zero) h k = record { above = h; below = omega arith }
over-fits n (pos (suc d)) h k = record { above = h; below = k }
over-fits n (negsuc d) h k = record { above = omega (arith, ints); below = k }

pub over_eq : (n d n' d' : ℤ) → n ≡ n' → d ≡ d' → over n d ≡ over n' d'
over_eq n d n' d' e f = ap (λ (z : ℤ). over z d) e ∙ ap (λ (z : ℤ). over n' z) f

pub place-fits : (place : Frac) (n d n' d' : ℤ) → place ≡ over n d → n ≡ n' → d ≡ d'
    → unsigned_abs n' ≤ 8796025913472000000000000 → unsigned_abs d' ≤ 33760000000000000000000000 → FitsPlace place
place-fits place n d n' d' e f g h k = rw (e, f, g) (over-fits n' d' h k)
