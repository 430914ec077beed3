-- The place of a crossing is the one point of both lines.
use Rattle.std.proofs.Common.{◌≡◌, ℕ, zero, suc, ◌*◌, Bool, true, false, arith, ap, subst, ◌∙◌, sym, refl}
use Rattle.std.specs.Prelude.{ℤ, pos, negsuc, ◌+ℤ◌, ◌-ℤ◌, ◌*ℤ◌, neg_ℤ, None, Some, unsigned_abs}
use Rattle.std.specs.Bool.{then_some}
use Rattle.std.specs.Option.{option_and_then}
use Rattle.std.proofs.lemmas.Int.{ints, unsigned_abs-mul}
use Rattle.std.proofs.Math.IntN.{*ℤ_comm, *ℤ-negsuc, neg_ℤ-neg_ℤ}
use borrow.Author.Differences.{up, down, product_is}
use Rattle.scene_geom.specs.declared.plan.Pt.{Pt}
use Rattle.scene_geom.specs.declared.plan.Side.{Side}
use Rattle.scene_geom.specs.declared.fractions.fraction.Frac.{Frac}
use Rattle.scene_geom.specs.Vector.{Vector, cross}
use Rattle.scene_geom.specs.Point.{from_to, along}
use Rattle.scene_geom.specs.Fraction.{over, inner, is_inside}
use Rattle.scene_geom.specs.Crossing.{is_left, is_split, crosses_of}
use Rattle.scene_geom.specs.Laws.{IsOnLine, CrossingIsCommon}
use Rattle.scene_geom.proofs.Whole.{mul_add, sub_mul, mul_sub}
use Rattle.scene_geom.proofs.Vectors.{cross-between}
use Rattle.scene_geom.proofs.Crossings.{apart}
use Rattle.scene_geom.proofs.Blocking.{reached-orient}
use Rattle.scene_geom.proofs.Turning.{neg-mul, beq-apart}

-- ---- products of three
pub mul_assoc : (a b c : ℤ) → (a *ℤ b) *ℤ c ≡ a *ℤ (b *ℤ c)
mul_assoc a b c =
    omega (
      arith,
      ints,
      ap (λ (n : ℕ). n * up c) (product_is a b).0,
      ap (λ (n : ℕ). n * down c) (product_is a b).0,
      ap (λ (n : ℕ). n * up c) (product_is a b).1,
      ap (λ (n : ℕ). n * down c) (product_is a b).1,
      ap (λ (n : ℕ). up a * n) (product_is b c).0,
      ap (λ (n : ℕ). down a * n) (product_is b c).0,
      ap (λ (n : ℕ). up a * n) (product_is b c).1,
      ap (λ (n : ℕ). down a * n) (product_is b c).1,
    )

pub left_comm : (a b c : ℤ) → a *ℤ (b *ℤ c) ≡ b *ℤ (a *ℤ c)
left_comm a b c = sym (mul_assoc a b c) ∙ ap (λ (z : ℤ). z *ℤ c) (*ℤ_comm a b) ∙ mul_assoc b a c

mul-zero : (a : ℤ) → a *ℤ pos 0 ≡ pos 0
mul-zero a = omega (arith, ints)

-- ---- products of sums and multiples
regroup : (l k r q m1 m2 m3 m4 n1 n2 n3 n4 : ℤ) → l ≡ m1 +ℤ m2 → k ≡ m3 +ℤ m4 → m1 ≡ n1 → m2 ≡ n2 → m3 ≡ n3 → m4 ≡ n4 → r ≡ n1 -ℤ n3 → q ≡ n2 -ℤ n4 → l -ℤ k ≡ r +ℤ q
regroup l k r q m1 m2 m3 m4 n1 n2 n3 n4 a b e1 e2 e3 e4 c d = omega (arith, ints)

regroup_less : (l k r q m1 m2 m3 m4 n1 n2 n3 n4 : ℤ) → l ≡ m1 -ℤ m2 → k ≡ m3 -ℤ m4 → m1 ≡ n1 → m2 ≡ n2 → m3 ≡ n3 → m4 ≡ n4 → r ≡ n1 -ℤ n3 → q ≡ n2 -ℤ n4 → l -ℤ k ≡ r -ℤ q
regroup_less l k r q m1 m2 m3 m4 n1 n2 n3 n4 a b e1 e2 e3 e4 c d = omega (arith, ints)

cross-sum : (sx sy d n ax ay bx by : ℤ) → sx *ℤ (d *ℤ ay +ℤ n *ℤ by) -ℤ sy *ℤ (d *ℤ ax +ℤ n *ℤ bx) ≡ d *ℤ (sx *ℤ ay -ℤ sy *ℤ ax) +ℤ n *ℤ (sx *ℤ by -ℤ sy *ℤ bx)
cross-sum sx sy d n ax ay bx by =
    regroup _ _ _ _ _ _ _ _ _ _ _ _ (mul_add (d *ℤ ay) (n *ℤ by) sx) (mul_add (d *ℤ ax) (n *ℤ bx) sy)
    (left_comm sx d ay) (left_comm sx n by) (left_comm sy d ax) (left_comm sy n bx)
    (mul_sub (sx *ℤ ay) (sy *ℤ ax) d) (mul_sub (sx *ℤ by) (sy *ℤ bx) n)

pub cross-difference : (sx sy d n ax ay bx by : ℤ) → sx *ℤ (d *ℤ ay -ℤ n *ℤ by) -ℤ sy *ℤ (d *ℤ ax -ℤ n *ℤ bx) ≡ d *ℤ (sx *ℤ ay -ℤ sy *ℤ ax) -ℤ n *ℤ (sx *ℤ by -ℤ sy *ℤ bx)
cross-difference sx sy d n ax ay bx by =
    regroup_less _ _ _ _ _ _ _ _ _ _ _ _ (mul_sub (d *ℤ ay) (n *ℤ by) sx) (mul_sub (d *ℤ ax) (n *ℤ bx) sy)
    (left_comm sx d ay) (left_comm sx n by) (left_comm sy d ax) (left_comm sy n bx)
    (mul_sub (sx *ℤ ay) (sy *ℤ ax) d) (mul_sub (sx *ℤ by) (sy *ℤ bx) n)

pub dot-difference : (sx sy d n ax ay bx by : ℤ) → sx *ℤ (d *ℤ ax -ℤ n *ℤ bx) +ℤ sy *ℤ (d *ℤ ay -ℤ n *ℤ by) ≡ d *ℤ (sx *ℤ ax +ℤ sy *ℤ ay) -ℤ n *ℤ (sx *ℤ bx +ℤ sy *ℤ by)
dot-difference sx sy d n ax ay bx by =
    ready _ _ _ _ _ _ _ _ _ _ _ _ (mul_sub (d *ℤ ax) (n *ℤ bx) sx) (mul_sub (d *ℤ ay) (n *ℤ by) sy)
    (left_comm sx d ax) (left_comm sx n bx) (left_comm sy d ay) (left_comm sy n by)
    (mul_add (sx *ℤ ax) (sy *ℤ ay) d) (mul_add (sx *ℤ bx) (sy *ℤ by) n)
  where
    ready : (l k r q m1 m2 m3 m4 n1 n2 n3 n4 : ℤ) → l ≡ m1 -ℤ m2 → k ≡ m3 -ℤ m4 → m1 ≡ n1 → m2 ≡ n2 → m3 ≡ n3 → m4 ≡ n4 → r ≡ n1 +ℤ n3 → q ≡ n2 +ℤ n4 → l +ℤ k ≡ r -ℤ q
    ready l k r q m1 m2 m3 m4 n1 n2 n3 n4 a b e1 e2 e3 e4 c d = omega (arith, ints)

-- ---- two lines that aren't parallel have one point at most
scaled_difference : (x d x' d' f : ℤ) → x' *ℤ d -ℤ x *ℤ d' ≡ d *ℤ (x' -ℤ d' *ℤ f) -ℤ d' *ℤ (x -ℤ d *ℤ f)
scaled_difference x d x' d' f =
    ready _ _ _ _ _ _ _ _ (*ℤ_comm x' d) (*ℤ_comm x d') (left_comm d d' f) (mul_sub x' (d' *ℤ f) d) (mul_sub x (d *ℤ f) d')
  where
    ready : (a b a' b' m m' r q : ℤ) → a ≡ a' → b ≡ b' → m ≡ m' → r ≡ a' -ℤ m → q ≡ b' -ℤ m' → a -ℤ b ≡ r -ℤ q
    ready a b a' b' m m' r q e f g h k = omega (arith, ints)

-- what two points of one line have between them is along it
on_one_line : (x y d x' y' d' : ℤ) (from : Pt) (v : Vector) → IsOnLine x y d from v → IsOnLine x' y' d' from v
    → cross v (record { x = x' *ℤ d -ℤ x *ℤ d'; y = y' *ℤ d -ℤ y *ℤ d' }) ≡ pos 0
on_one_line x y d x' y' d' from v e e' =
    ap (λ (z : ℤ). v.x *ℤ z -ℤ v.y *ℤ (x' *ℤ d -ℤ x *ℤ d')) (scaled_difference y d y' d' from.y)
    ∙ ap (λ (z : ℤ). v.x *ℤ (d *ℤ (y' -ℤ d' *ℤ from.y) -ℤ d' *ℤ (y -ℤ d *ℤ from.y)) -ℤ v.y *ℤ z) (scaled_difference x d x' d' from.x)
    ∙ cross-difference v.x v.y d d' (x' -ℤ d' *ℤ from.x) (y' -ℤ d' *ℤ from.y) (x -ℤ d *ℤ from.x) (y -ℤ d *ℤ from.y)
    ∙ none _ _ (ap (λ (z : ℤ). d *ℤ z) e' ∙ mul-zero d) (ap (λ (z : ℤ). d' *ℤ z) e ∙ mul-zero d')
  where
    none : (a b : ℤ) → a ≡ pos 0 → b ≡ pos 0 → a -ℤ b ≡ pos 0
    none a b e f = omega (arith, ints)

-- what is along two such lines is nothing
eliminate_x : (vx vy sx sy zx zy : ℤ) → (vx *ℤ sy -ℤ vy *ℤ sx) *ℤ zx ≡ sx *ℤ (vx *ℤ zy -ℤ vy *ℤ zx) -ℤ vx *ℤ (sx *ℤ zy -ℤ sy *ℤ zx)
eliminate_x vx vy sx sy zx zy =
    ready _ _ _ _ _ _ _ _ _ (sub_mul (vx *ℤ sy) (vy *ℤ sx) zx) (mul_assoc vx sy zx) (mul_assoc vy sx zx ∙ left_comm vy sx zx) (left_comm sx vx zy)
    (mul_sub (vx *ℤ zy) (vy *ℤ zx) sx) (mul_sub (sx *ℤ zy) (sy *ℤ zx) vx)
  where
    ready : (l a b a' b' m m' r q : ℤ) → l ≡ a -ℤ b → a ≡ a' → b ≡ b' → m ≡ m' → r ≡ m -ℤ b' → q ≡ m' -ℤ a' → l ≡ r -ℤ q
    ready l a b a' b' m m' r q d e f g h k = omega (arith, ints)

eliminate_y : (vx vy sx sy zx zy : ℤ) → (vx *ℤ sy -ℤ vy *ℤ sx) *ℤ zy ≡ sy *ℤ (vx *ℤ zy -ℤ vy *ℤ zx) -ℤ vy *ℤ (sx *ℤ zy -ℤ sy *ℤ zx)
eliminate_y vx vy sx sy zx zy =
    ready _ _ _ _ _ _ _ _ _ (sub_mul (vx *ℤ sy) (vy *ℤ sx) zy) (mul_assoc vx sy zy ∙ left_comm vx sy zy) (mul_assoc vy sx zy) (left_comm sy vy zx)
    (mul_sub (vx *ℤ zy) (vy *ℤ zx) sy) (mul_sub (sx *ℤ zy) (sy *ℤ zx) vy)
  where
    ready : (l a b a' b' m m' r q : ℤ) → l ≡ a -ℤ b → a ≡ a' → b ≡ b' → m ≡ m' → r ≡ a' -ℤ m → q ≡ b' -ℤ m' → l ≡ r -ℤ q
    ready l a b a' b' m m' r q d e f g h k = omega (arith, ints)

zero_factor : (a b : ℤ) → (a ≡ pos 0 → ⊥) → a *ℤ b ≡ pos 0 → b ≡ pos 0
zero_factor a b h e = by_abs (unsigned_abs a) (unsigned_abs b) refl refl (sym (unsigned_abs-mul a b) ∙ ap unsigned_abs e)
  where
    by_abs : (m n : ℕ) → unsigned_abs a ≡ m → unsigned_abs b ≡ n → unsigned_abs a * unsigned_abs b ≡ 0 → b ≡ pos 0
    by_abs zero n f g k = absurd (h (omega (arith, ints)))
    by_abs (suc m) zero f g k = omega (arith, ints)
    by_abs (suc m) (suc n) f g k = let no : suc m * suc n ≡ 0 = rw (← f, ← g) k in absurd (omega arith)

pub alone : (x y d : ℤ) (from : Pt) (v : Vector) (other : Pt) (s : Vector) → (cross v s ≡ pos 0 → ⊥)
    → IsOnLine x y d from v → IsOnLine x y d other s
    → (x' y' d' : ℤ) → IsOnLine x' y' d' from v → IsOnLine x' y' d' other s → (x' *ℤ d ≡ x *ℤ d') × (y' *ℤ d ≡ y *ℤ d')
alone x y d from v other s apart e f x' y' d' e' f' =
    let zx = x' *ℤ d -ℤ x *ℤ d' in let zy = y' *ℤ d -ℤ y *ℤ d' in
    let along_v = on_one_line x y d x' y' d' from v e e' in
    let along_s = on_one_line x y d x' y' d' other s f f' in (
      same _ _ (zero_factor (cross v s) zx apart (eliminate_x v.x v.y s.x s.y zx zy ∙ none _ _ (ap (λ (z : ℤ). s.x *ℤ z) along_v ∙ mul-zero s.x) (ap (λ (z : ℤ). v.x *ℤ z) along_s ∙ mul-zero v.x))),
      same _ _ (zero_factor (cross v s) zy apart (eliminate_y v.x v.y s.x s.y zx zy ∙ none _ _ (ap (λ (z : ℤ). s.y *ℤ z) along_v ∙ mul-zero s.y) (ap (λ (z : ℤ). v.y *ℤ z) along_s ∙ mul-zero v.y))),
    )
  where
    same : (a b : ℤ) → a -ℤ b ≡ pos 0 → a ≡ b
    same a b e = omega (arith, ints)

    none : (a b : ℤ) → a ≡ pos 0 → b ≡ pos 0 → a -ℤ b ≡ pos 0
    none a b e f = omega (arith, ints)

-- ---- the place of a crossing
over-cross : (n d : ℤ) → (d ≡ pos 0 → ⊥) → (over n d).n *ℤ d ≡ (over n d).d *ℤ n
over-cross n (pos zero) h = absurd (h refl)
over-cross n (pos (suc k)) h = *ℤ_comm n (pos (suc k))
over-cross n (negsuc k) h = *ℤ-negsuc (neg_ℤ n) k ∙ ap neg_ℤ (neg-mul n (pos (suc k))) ∙ neg_ℤ-neg_ℤ (n *ℤ pos (suc k)) ∙ *ℤ_comm n (pos (suc k))

-- what a crossing that was found says
record Found (side : Side) (p q : Pt) (place : Frac) : Type 0 where
  split : is_split side p (from_to p q) ≡ true
  is : place ≡ over (cross (from_to p side.from) (along side) *ℤ pos 1) (cross (from_to p q) (along side))

found : (side : Side) (p q : Pt) (place : Frac) → crosses_of side p q ≡ Some place → Found side p q place
found side p q place e = at_split (is_split side p (from_to p q)) refl
  where
    hit : Frac
    hit = over (cross (from_to p side.from) (along side) *ℤ pos 1) (cross (from_to p q) (along side))

    from_inner : (b : Bool) → then_some b hit ≡ Some place → place ≡ hit
    from_inner true h = cc
    from_inner false h = cc

    at_split : (b : Bool) → is_split side p (from_to p q) ≡ b → Found side p q place
    at_split true t = record {
      split = t;
      is = from_inner (is_inside hit (over (pos 1) (pos 1))) (sym (ap (λ (b : Bool). option_and_then inner (then_some b hit)) t) ∙ e);
    }
    at_split false t = let no : None ≡ Some place = sym (ap (λ (b : Bool). option_and_then inner (then_some b hit)) t) ∙ e in cc

on_own_line : (n d : ℤ) (p q : Pt) → IsOnLine (d *ℤ p.x +ℤ n *ℤ (q.x -ℤ p.x)) (d *ℤ p.y +ℤ n *ℤ (q.y -ℤ p.y)) d p (from_to p q)
on_own_line n d p q =
    ap (λ (z : ℤ). (q.x -ℤ p.x) *ℤ z -ℤ (q.y -ℤ p.y) *ℤ ((d *ℤ p.x +ℤ n *ℤ (q.x -ℤ p.x)) -ℤ d *ℤ p.x)) (less (d *ℤ p.y) (n *ℤ (q.y -ℤ p.y)))
    ∙ ap (λ (z : ℤ). (q.x -ℤ p.x) *ℤ (n *ℤ (q.y -ℤ p.y)) -ℤ (q.y -ℤ p.y) *ℤ z) (less (d *ℤ p.x) (n *ℤ (q.x -ℤ p.x)))
    ∙ ready _ _ (left_comm (q.x -ℤ p.x) n (q.y -ℤ p.y) ∙ ap (λ (z : ℤ). n *ℤ z) (*ℤ_comm (q.x -ℤ p.x) (q.y -ℤ p.y)) ∙ left_comm n (q.y -ℤ p.y) (q.x -ℤ p.x))
  where
    less : (a b : ℤ) → (a +ℤ b) -ℤ a ≡ b
    less a b = omega (arith, ints)

    ready : (a b : ℤ) → a ≡ b → a -ℤ b ≡ pos 0
    ready a b e = omega (arith, ints)

on_side_line : (n d m e : ℤ) (p q a : Pt) (s : Vector) → cross s (from_to a p) ≡ m → cross s (from_to p q) ≡ neg_ℤ e → n *ℤ e ≡ d *ℤ m
    → IsOnLine (d *ℤ p.x +ℤ n *ℤ (q.x -ℤ p.x)) (d *ℤ p.y +ℤ n *ℤ (q.y -ℤ p.y)) d a s
on_side_line n d m e p q a s reached divisor same =
    ap (λ (z : ℤ). s.x *ℤ z -ℤ s.y *ℤ ((d *ℤ p.x +ℤ n *ℤ (q.x -ℤ p.x)) -ℤ d *ℤ a.x)) (moved p.y a.y (n *ℤ (q.y -ℤ p.y)))
    ∙ ap (λ (z : ℤ). s.x *ℤ (d *ℤ (p.y -ℤ a.y) +ℤ n *ℤ (q.y -ℤ p.y)) -ℤ s.y *ℤ z) (moved p.x a.x (n *ℤ (q.x -ℤ p.x)))
    ∙ cross-sum s.x s.y d n (p.x -ℤ a.x) (p.y -ℤ a.y) (q.x -ℤ p.x) (q.y -ℤ p.y)
    ∙ ap (λ (z : ℤ). d *ℤ z +ℤ n *ℤ (s.x *ℤ (q.y -ℤ p.y) -ℤ s.y *ℤ (q.x -ℤ p.x))) reached
    ∙ ap (λ (z : ℤ). d *ℤ m +ℤ n *ℤ z) divisor
    ∙ ready _ _ _ (mul-neg n e) same
  where
    moved : (b c r : ℤ) → (d *ℤ b +ℤ r) -ℤ d *ℤ c ≡ d *ℤ (b -ℤ c) +ℤ r
    moved b c r = rw (mul_sub b c d) (order (d *ℤ b) r (d *ℤ c))
      where
        order : (x y z : ℤ) → (x +ℤ y) -ℤ z ≡ (x -ℤ z) +ℤ y
        order x y z = omega (arith, ints)

    mul-neg : (x y : ℤ) → x *ℤ neg_ℤ y ≡ neg_ℤ (x *ℤ y)
    mul-neg x y = *ℤ_comm x (neg_ℤ y) ∙ neg-mul y x ∙ ap neg_ℤ (*ℤ_comm y x)

    ready : (x y z : ℤ) → y ≡ neg_ℤ z → z ≡ x → x +ℤ y ≡ pos 0
    ready x y z e f = omega (arith, ints)

pub crossing_is_common : CrossingIsCommon
crossing_is_common side p q place e =
    let s = along side in let v = from_to p q in
    let f = found side p q place e in
    let n = cross (from_to p side.from) s *ℤ pos 1 in
    let own = on_own_line place.n place.d p q in
    let there = on_side_line place.n place.d n (cross v s) p q side.from s (sym (reached-orient side p)) (swapped v s)
    (subst (λ (hit : Frac). hit.n *ℤ cross v s ≡ hit.d *ℤ n) (sym f.is) (over-cross n (cross v s) (divides f.split))) in
    record {
      on_line = own;
      on_other = there;
      alone = alone _ _ place.d p v side.from s (divides f.split) own there;
    }
  where
    swapped : (v s : Vector) → cross s v ≡ neg_ℤ (cross v s)
    swapped v s = omega (arith, ints)

    divides : is_split side p (from_to p q) ≡ true → cross (from_to p q) (along side) ≡ pos 0 → ⊥
    divides split h =
        apart (cross (from_to p q) (from_to p side.to)) (cross (from_to p q) (from_to p side.from))
        (beq-apart (is_left p (from_to p q) side.from) (is_left p (from_to p q) side.to) split)
        (cross-between (from_to p q) p side.from side.to ∙ h)
