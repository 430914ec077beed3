-- A string that is wound round points in the order of their bearing from S stays tight.
use Rattle.std.proofs.Common.{◌≡◌, Bool, true, false, arith, ap, subst, sym, refl, ◌∙◌, ◌⊎◌, inl, inr, List, [], ◌∷◌}
use Rattle.std.specs.Prelude.{ℤ, pos, neg_ℤ, int_lt, ◌+ℤ◌, ◌-ℤ◌, ◌*ℤ◌, ◌≤ℤ◌, ◌<ℤ◌, if◌then◌else◌}
use Rattle.std.proofs.lemmas.Int.{ints, by_lt_z}
use Rattle.scene_geom.specs.declared.plan.Pt.{Pt}
use Rattle.edge_chain.specs.declared.hand.Hand.{Hand}
use Rattle.edge_chain.specs.Chain.{off_line}
use Rattle.edge_chain.specs.inner.Winding.{slackened, wound}
use Rattle.std.proofs.Math.IntN.{*ℤ_comm}
use Rattle.scene_geom.proofs.Whole.{sub_mul, mul_sub}
use Rattle.scene_geom.proofs.Turning.{neg-mul}
use Rattle.edge_chain.proofs.Signs.{positive_mul, negative_mul, of_product}
use Rattle.edge_chain.proofs.Hands.{turned, swapped, seen, four_points, by_signs}

-- something is among some
abbrev pub In : {A : Type 0} → A → List A → Type 0
In p [] = ⊥
In p (q ∷ qs) = (p ≡ q) ⊎ In p qs

-- ---- signs of the triangles between points
-- a and c lie apart from s as b and d say
between : (hand : Hand) (s a b c d : Pt) → pos 0 <ℤ off_line hand s b d → pos 0 ≤ℤ off_line hand s a b → pos 0 ≤ℤ off_line hand s c d
    → pos 0 ≤ℤ off_line hand s a d → pos 0 ≤ℤ off_line hand s b c → pos 0 ≤ℤ off_line hand s a c
between hand s a b c d q h j k l =
    by_signs hand s a b c d q (positive_mul _ _ h j) (positive_mul _ _ k l)

-- none of the points stands out of the way from x to c that stood within the one from b to c, where the string lets go of b
let_go : (hand : Hand) (s x b c q : Pt) → off_line hand s b c <ℤ pos 0 → off_line hand s x c ≤ℤ pos 0 → pos 0 ≤ℤ off_line hand x b c
    → pos 0 <ℤ off_line hand s c q → off_line hand b c q ≤ℤ pos 0 → off_line hand x c q ≤ℤ pos 0
let_go hand s x b c q fan ahead slack apart within =
    let e1 = turned hand s b c in let e2 = turned hand b c s in let e3 = swapped hand c b s in
    let f1 = turned hand x b c in let f2 = turned hand b c x in
    let g1 = turned hand s c q in
    let h1 = turned hand s x c in let h2 = turned hand x c s in let h3 = swapped hand c x s in
    let i1 = turned hand b c q in let i2 = swapped hand c b q in
    let found : pos 0 ≤ℤ off_line hand c x q =
    between hand c x b q s (omega (arith, ints)) (omega (arith, ints)) (omega (arith, ints)) (omega (arith, ints)) (omega (arith, ints)) in
    let j1 = turned hand x c q in let j2 = swapped hand c x q in
    omega (arith, ints)

-- none stands out of the way from x to b, where the string turns at b and goes on to c
held : (hand : Hand) (s x b c q : Pt) → off_line hand s b c <ℤ pos 0 → off_line hand s x b ≤ℤ pos 0 → off_line hand x b c <ℤ pos 0
    → off_line hand s b q ≤ℤ pos 0 → off_line hand b c q ≤ℤ pos 0 → off_line hand x b q ≤ℤ pos 0
held hand s x b c q fan ahead turn after within =
    let e1 = turned hand s b c in let e2 = swapped hand b s c in
    let f1 = turned hand x b c in let f2 = swapped hand b x c in
    let g1 = turned hand s b q in let g2 = swapped hand b s q in
    let h1 = turned hand s x b in let h2 = turned hand x b s in let h3 = swapped hand b x s in
    let i1 = swapped hand b q c in
    let j1 = turned hand x b q in let j2 = swapped hand b x q in
    let found : pos 0 ≤ℤ off_line hand b x q =
    between hand b x s q c (omega (arith, ints)) (omega (arith, ints)) (omega (arith, ints)) (omega (arith, ints)) (omega (arith, ints)) in
    omega (arith, ints)

-- a point that doesn't stand out of the way from b to c doesn't stand out of the next one
passed_on : (hand : Hand) (s x b c d : Pt) → off_line hand s b c <ℤ pos 0 → off_line hand s c d <ℤ pos 0 → off_line hand s x c ≤ℤ pos 0
    → off_line hand b c d <ℤ pos 0 → off_line hand b c x ≤ℤ pos 0 → off_line hand c d x ≤ℤ pos 0
passed_on hand s x b c d fan fan' ahead turn within =
    let e1 = turned hand s b c in let e2 = turned hand b c s in let e3 = swapped hand c b s in
    let f1 = turned hand s c d in
    let g1 = turned hand s x c in let g2 = turned hand x c s in let g3 = swapped hand c x s in
    let h1 = turned hand b c d in let h2 = swapped hand c b d in
    let i1 = turned hand b c x in
    let j1 = swapped hand c d x in
    let found : pos 0 ≤ℤ off_line hand c x d =
    by_signs hand c x b d s (omega (arith, ints))
    (negative_mul (off_line hand c x b) (off_line hand c d s) (omega (arith, ints)) (omega (arith, ints)))
    (positive_mul (off_line hand c x s) (off_line hand c b d) (omega (arith, ints)) (omega (arith, ints))) in
    omega (arith, ints)

-- where x and b stand on one ray from s and x no nearer, the string doesn't turn away at b
farther : (hand : Hand) (s r x b c : Pt) → off_line hand s x b ≡ pos 0 → pos 0 <ℤ off_line hand s r b → off_line hand s r b ≤ℤ off_line hand s r x
    → off_line hand s b c <ℤ pos 0 → pos 0 ≤ℤ off_line hand x b c
farther hand s r x b c level off far fan =
    let l = off_line hand s r in
    let e1 = swapped hand s x r in let e2 = turned hand s r x in let f1 = swapped hand s b r in
    -- the triangle s, x, c is as many times that of s, b, c as x is farther than b
    let same : off_line hand s x c *ℤ off_line hand s b r ≡ off_line hand s x b *ℤ off_line hand s c r +ℤ off_line hand s x r *ℤ off_line hand s b c =
    four_points hand s x b c r in
    let first : off_line hand s x b *ℤ off_line hand s c r ≡ pos 0 = ap (λ (z : ℤ). z *ℤ off_line hand s c r) level ∙ zero-mul (off_line hand s c r) in
    let less : pos 0 ≤ℤ (off_line hand s b c -ℤ off_line hand s x c) =
    ratio (off_line hand s x c) (off_line hand s b c) (l b) (l x) _ _ _ e1 f1 same first off far fan in
    let seen_from = seen hand s x b c in
    let g1 = swapped hand s c x in
    omega (arith, ints)
  where
    zero-mul : (z : ℤ) → pos 0 *ℤ z ≡ pos 0
    zero-mul z = omega (arith, ints)

    -- u m is n v, and n is no less than m
    ratio : (u v m n xr br z : ℤ) → xr ≡ neg_ℤ n → br ≡ neg_ℤ m → u *ℤ br ≡ z +ℤ xr *ℤ v → z ≡ pos 0 → pos 0 <ℤ m → m ≤ℤ n → v <ℤ pos 0 → pos 0 ≤ℤ (v -ℤ u)
    ratio u v m n xr br z e f same none off far fan =
        let up : pos 0 ≤ℤ (neg_ℤ v *ℤ (n -ℤ m)) = positive_mul (neg_ℤ v) (n -ℤ m) (omega (arith, ints)) (omega (arith, ints)) in
        let both : u *ℤ neg_ℤ m ≡ z +ℤ neg_ℤ n *ℤ v = rw (← f, ← e) same in
        let e1 = *ℤ_comm u (neg_ℤ m) in let e2 = neg-mul m u in let e3 = *ℤ_comm m u in
        let f1 = neg-mul n v in let f2 = *ℤ_comm n v in
        let g1 = sub_mul v u m in
        let h1 = mul_sub n m (neg_ℤ v) in let h2 = neg-mul v n in let h3 = neg-mul v m in
        of_product (v -ℤ u) m off (omega (arith, ints))

-- ---- strings
-- x comes before q by bearing from s, and on one ray as the farther
pub record Before (hand : Hand) (s r x q : Pt) : Type 0 where
  pub turn : off_line hand s x q ≤ℤ pos 0
  pub far : off_line hand s x q ≡ pos 0 → off_line hand s r q ≤ℤ off_line hand s r x

-- the string turns away at b, where it goes on
abbrev pub Bend : Hand → Pt → Pt → List Pt → Type 0
Bend hand a b [] = Unit {0}
Bend hand a b (c ∷ rest) = off_line hand a b c <ℤ pos 0

-- a piece of a string from a to b: no point stands out of it, and it leads on in bearing
pub record Link (hand : Hand) (s r : Pt) (points : List Pt) (a b : Pt) (rest : List Pt) : Type 0 where
  pub beside : pos 0 <ℤ off_line hand s r a
  pub within : (q : Pt) → In q points → off_line hand a b q ≤ℤ pos 0
  pub fan : off_line hand s a b <ℤ pos 0
  pub bend : Bend hand a b rest
  pub member : In a points

-- a string round some points that ends in r
abbrev pub Hull : Hand → Pt → Pt → List Pt → List Pt → Type 0
Hull hand s r points [] = ⊥
Hull hand s r points (a ∷ []) = (a ≡ r) × In a points
Hull hand s r points (a ∷ b ∷ rest) = Link hand s r points a b rest × Hull hand s r points (b ∷ rest)

-- ---- a string that is led to another point
-- none of the points stands out of the way from x to b, unless it comes before b by bearing
abbrev pub Cleared : Hand → Pt → List Pt → Pt → Pt → Type 0
Cleared hand s points x b = (q : Pt) → In q points → (off_line hand s b q ≤ℤ pos 0) ⊎ (off_line hand x b q ≤ℤ pos 0)

-- a string whose way from x to its first point is tight
abbrev pub Tight : Hand → Pt → Pt → List Pt → Pt → List Pt → Type 0
Tight hand s r points x [] = ⊥
Tight hand s r points x (b ∷ rest) =
    ((q : Pt) → In q points → off_line hand x b q ≤ℤ pos 0) × Bend hand x b rest × Hull hand s r points (b ∷ rest)

-- each of the points comes after x, and is the end or stands off the line
pub record Behind (hand : Hand) (s r : Pt) (points : List Pt) (x : Pt) : Type 0 where
  pub after : (q : Pt) → In q points → Before hand s r x q
  pub beside : (q : Pt) → In q points → (pos 0 <ℤ off_line hand s r q) ⊎ (q ≡ r)

pub level : (hand : Hand) (a b : Pt) → off_line hand a b b ≡ pos 0
level hand a b = let e = swapped hand a b b in omega (arith, ints)

below : (a : ℤ) → int_lt a (pos 0) ≡ true → a <ℤ pos 0
below a e = omega (arith, ints)

above : (a : ℤ) → int_lt a (pos 0) ≡ false → pos 0 ≤ℤ a
above a e = omega (arith, ints)

sign : (a : ℤ) → (a ≤ℤ pos 0) ⊎ (pos 0 <ℤ a)
sign a = by_lt_z (pos 0) a inr inl

tight_after : (hand : Hand) (s r : Pt) (points : List Pt) (x : Pt) → Behind hand s r points x → (string : List Pt) → Hull hand s r points string
    → ((b : Pt) (rest : List Pt) → string ≡ b ∷ rest → Cleared hand s points x b) → Tight hand s r points x (slackened hand x string)
tight_after hand s r points x behind [] hull clear = absurd hull
tight_after hand s r points x behind (b ∷ []) hull clear = (last, tt, hull) where
  last : (q : Pt) → In q points → off_line hand x b q ≤ℤ pos 0
  last q m =
      elim (clear b [] refl q m) [
        | inl h ↦ (elim (behind.beside q m) [
          | inl off ↦ absurd (let e : b ≡ r = hull.0 in let h' = subst (λ (p : Pt). off_line hand s p q ≤ℤ pos 0) e h in omega (arith, ints))
          | inr e ↦ (let same : q ≡ b = e ∙ sym hull.0 in let none = level hand x b in rw same (omega (arith, ints)))
        ])
        | inr h ↦ h
      ]
tight_after hand s r points x behind (b ∷ c ∷ rest) hull clear =
    choose (int_lt (off_line hand x b c) (pos 0)) refl (λ e. tight_after hand s r points x behind (c ∷ rest) hull.1 (next e))
  where
    link : Link hand s r points b c rest
    link = hull.0

    b_after : Before hand s r x b
    b_after = behind.after b link.member

    first_of : (p : Pt) (more : List Pt) → Hull hand s r points (p ∷ more) → In p points
    first_of p [] h = h.1
    first_of p (p' ∷ more) h = h.0.member

    next : int_lt (off_line hand x b c) (pos 0) ≡ false → (p : Pt) (more : List Pt) → c ∷ rest ≡ p ∷ more → Cleared hand s points x p
    next e p more same q m =
        let at : p ≡ c = cc in
        rw at (elim (sign (off_line hand s c q)) [
          | inl h ↦ inl h
          | inr h ↦ inr (let_go hand s x b c q link.fan (behind.after c (first_of c rest hull.1)).turn (above _ e) h (link.within q m))
        ])

    choose : (t : Bool) → int_lt (off_line hand x b c) (pos 0) ≡ t → (int_lt (off_line hand x b c) (pos 0) ≡ false → Tight hand s r points x (slackened hand x (c ∷ rest)))
        → Tight hand s r points x (if t then b ∷ c ∷ rest else slackened hand x (c ∷ rest))
    choose true e other =
        let turn : off_line hand x b c <ℤ pos 0 = below _ e in
        let tight : (q : Pt) → In q points → off_line hand x b q ≤ℤ pos 0 = λ q m. elim (clear b (c ∷ rest) refl q m) [
          | inl h ↦ held hand s x b c q link.fan b_after.turn turn h (link.within q m)
          | inr h ↦ h
        ] in (tight, turn, hull)
    choose false e other = other e

-- ---- a string with one more point
-- whether x stands within the first way
abbrev pub WithinFirst : Hand → Pt → List Pt → Type 0
WithinFirst hand x [] = Unit {0}
WithinFirst hand x (b ∷ []) = Unit {0}
WithinFirst hand x (b ∷ c ∷ rest) = off_line hand b c x ≤ℤ pos 0

-- one point more stands within a string where it stands within its first way
one_more : (hand : Hand) (s r : Pt) (points : List Pt) (x : Pt) → Behind hand s r points x → (string : List Pt) → Hull hand s r points string
    → WithinFirst hand x string → Hull hand s r (x ∷ points) string
one_more hand s r points x behind [] hull within = absurd hull
one_more hand s r points x behind (b ∷ []) hull within = (hull.0, inr hull.1)
one_more hand s r points x behind (b ∷ c ∷ []) hull within = (more_within, (hull.1.0, inr hull.1.1)) where
  more_within : Link hand s r (x ∷ points) b c []
  more_within = record {
    within = λ q m. elim m [ inl e ↦ rw e within | inr n ↦ hull.0.within q n ];
    beside = hull.0.beside;
    fan = hull.0.fan;
    bend = tt;
    member = inr hull.0.member;
  }
one_more hand s r points x behind (b ∷ c ∷ d ∷ rest) hull within =
    (more_within, one_more hand s r points x behind (c ∷ d ∷ rest) hull.1 next)
  where
    more_within : Link hand s r (x ∷ points) b c (d ∷ rest)
    more_within = record {
      within = λ q m. elim m [ inl e ↦ rw e within | inr n ↦ hull.0.within q n ];
      beside = hull.0.beside;
      fan = hull.0.fan;
      bend = hull.0.bend;
      member = inr hull.0.member;
    }

    next : off_line hand c d x ≤ℤ pos 0
    next = passed_on hand s x b c d hull.0.fan hull.1.0.fan (behind.after c hull.1.0.member).turn hull.0.bend within

-- a string that is tight from x on is one round x too
with_point : (hand : Hand) (s r : Pt) (points : List Pt) (x : Pt) → pos 0 <ℤ off_line hand s r x → Behind hand s r points x → (string : List Pt) → Tight hand s r points x string
    → Hull hand s r (x ∷ points) (x ∷ string)
with_point hand s r points x off behind [] tight = absurd tight
with_point hand s r points x off behind (b ∷ []) tight =
    (link, one_more hand s r points x behind (b ∷ []) tight.2 tt)
  where
    last : off_line hand s x b <ℤ pos 0
    last =
        let e = swapped hand s x r in
        let less : off_line hand s x r <ℤ pos 0 = omega (arith, ints) in
        let at : b ≡ r = tight.2.0 in rw at less

    link : Link hand s r (x ∷ points) x b []
    link = record {
      within = λ q m. elim m [
        | inl e ↦ (let none = level hand x b in let t = turned hand x b x in let u = swapped hand b x x in let v = turned hand b x x in rw e (omega (arith, ints)))
        | inr n ↦ tight.0 q n
      ];
      beside = off;
      fan = last;
      bend = tt;
      member = inl refl;
    }
with_point hand s r points x off behind (b ∷ c ∷ rest) tight =
    (link, one_more hand s r points x behind (b ∷ c ∷ rest) tight.2 within)
  where
    within : off_line hand b c x ≤ℤ pos 0
    within = let e = turned hand x b c in let bend = tight.1 in omega (arith, ints)

    b_after : Before hand s r x b
    b_after = behind.after b tight.2.0.member

    strict : off_line hand s x b ≡ pos 0 → ⊥
    strict e =
        elim (behind.beside b tight.2.0.member) [
          | inl off_b ↦ (
              let far = farther hand s r x b c e off_b (b_after.far e) tight.2.0.fan in
              let bend = tight.1 in absurd (omega (arith, ints)))
          | inr at ↦ (
              let t = swapped hand s x r in
              let none : off_line hand s x r ≡ pos 0 = rw (← at) e in
              absurd (omega (arith, ints)))
        ]

    fan : off_line hand s x b <ℤ pos 0
    fan = negative (off_line hand s x b) b_after.turn strict where
      negative : (z : ℤ) → z ≤ℤ pos 0 → (z ≡ pos 0 → ⊥) → z <ℤ pos 0
      negative z h n = omega (arith, ints, n)

    link : Link hand s r (x ∷ points) x b (c ∷ rest)
    link = record {
      within = λ q m. elim m [
        | inl e ↦ (let none = level hand x b in let t = turned hand x b x in let u = swapped hand b x x in rw e (omega (arith, ints)))
        | inr n ↦ tight.0 q n
      ];
      beside = off;
      fan = fan;
      bend = tight.1;
      member = inl refl;
    }

-- ---- the string round sorted points
-- points in order of their bearing, the last of which is r
abbrev pub Sorted : Hand → Pt → Pt → List Pt → Type 0
Sorted hand s r [] = ⊥
Sorted hand s r (p ∷ []) = p ≡ r
Sorted hand s r (p ∷ q ∷ rest) =
    (pos 0 <ℤ off_line hand s r p) × Behind hand s r (q ∷ rest) p × Sorted hand s r (q ∷ rest)

-- none of the points stands out of the way from s to the first
pub first_clear : (hand : Hand) (s r p : Pt) (rest : List Pt) → Sorted hand s r (p ∷ rest) → (q : Pt) → In q (p ∷ rest) → off_line hand s p q ≤ℤ pos 0
first_clear hand s r p rest sorted q (inl same) = let none = level hand s p in rw same (omega (arith, ints))
first_clear hand s r p [] sorted q (inr m) = absurd m
first_clear hand s r p (p' ∷ rest) sorted q (inr m) = (sorted.1.after q m).turn

pub wound_is_tight : (hand : Hand) (s r : Pt) (points : List Pt) → Sorted hand s r points → Hull hand s r points (wound hand points)
wound_is_tight hand s r [] sorted = absurd sorted
wound_is_tight hand s r (p ∷ []) sorted = (sorted, inl refl)
wound_is_tight hand s r (p ∷ q ∷ rest) sorted =
    let string = wound hand (q ∷ rest) in
    let hull : Hull hand s r (q ∷ rest) string = wound_is_tight hand s r (q ∷ rest) sorted.2 in
    with_point hand s r (q ∷ rest) p sorted.0 sorted.1 (slackened hand p string)
    (tight_after hand s r (q ∷ rest) p sorted.1 string hull (λ b more e. start b (cc)))
  where
    start : (b : Pt) → q ≡ b → Cleared hand s (q ∷ rest) p b
    start b e m n = inl (rw (← e) (first_clear hand s r q rest sorted.2 m n))
