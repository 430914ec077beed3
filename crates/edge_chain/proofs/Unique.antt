-- Points have one chain at most.
use Rattle.std.proofs.Common.{◌≡◌, Bool, true, false, arith, ap, subst, sym, refl, ◌∙◌, ◌⊎◌, inl, inr, List, [], ◌∷◌, ◌++◌}
use Rattle.std.specs.Prelude.{ℤ, pos, neg_ℤ, int_lt, not, ◌&&◌, ◌+ℤ◌, ◌-ℤ◌, ◌*ℤ◌, ◌≤ℤ◌, ◌<ℤ◌, All, Contains, if◌then◌else◌}
use Rattle.std.specs.List.{list_all}
use Rattle.std.proofs.lemmas.Int.{ints}
use Rattle.std.proofs.lemmas.List.{same_from_push}
use Rattle.std.proofs.Math.IntN.{*ℤ_comm}
use Rattle.scene_geom.specs.declared.plan.Pt.{Pt}
use Rattle.scene_geom.specs.Vector.{Vector, cross}
use Rattle.scene_geom.specs.Point.{Pt_eq, from_to, orient_of}
use Rattle.scene_geom.specs.Outline.{sides_along}
use Rattle.scene_geom.proofs.Whole.{mul_sub}
use Rattle.scene_geom.proofs.Turning.{neg-mul}
use Rattle.scene_geom.proofs.Vectors.{cross-between}
use Rattle.edge_chain.specs.declared.hand.Hand.{Hand}
use Rattle.edge_chain.specs.declared.hand.Hand.TheVariants.{Left, Right}
use Rattle.edge_chain.specs.Chain.{off_line, turns_away, is_outermost, is_stretched, is_beside, points_beside, IsChain}
use Rattle.edge_chain.specs.Laws.{OneChain, EmptyWhereNone}
use Rattle.edge_chain.proofs.Signs.{positive_mul, of_product, four_vectors}
use Rattle.edge_chain.proofs.Hands.{turned, swapped, seen, four_points}
use Rattle.edge_chain.proofs.Tight.{In, level}
use Rattle.edge_chain.proofs.Stretched.{found_in, each_of}

-- ---- the first point of two chains from one point
-- the nearer of two points on one line from c, by the way that leads on from the farther
no_farther : (hand : Hand) (d c x y n : Pt) → off_line hand d c x <ℤ pos 0 → off_line hand d c y <ℤ pos 0 → off_line hand c x y ≡ pos 0
    → off_line hand c x n <ℤ pos 0 → off_line hand x n y ≤ℤ pos 0 → off_line hand d c x ≤ℤ off_line hand d c y
no_farther hand d c x y n dx dy line turn within =
    let four : off_line hand c x n *ℤ off_line hand c y d ≡ off_line hand c x y *ℤ off_line hand c n d +ℤ off_line hand c x d *ℤ off_line hand c y n =
    four_points hand c x y n d in
    let e1 = turned hand d c x in let e2 = turned hand d c y in
    let away = seen hand c x n y in
    let f1 = swapped hand c y n in let f2 = swapped hand c y x in
    let none : off_line hand c x y *ℤ off_line hand c n d ≡ pos 0 = ap (λ (z : ℤ). z *ℤ off_line hand c n d) line ∙ zero-mul (off_line hand c n d) in
    bound (off_line hand c x n) (off_line hand c x d) (off_line hand c y d) (off_line hand c y n) (off_line hand c x y *ℤ off_line hand c n d) (off_line hand d c x) (off_line hand d c y)
    four none e1 e2 dx dy turn (omega (arith, ints))
  where
    zero-mul : (z : ℤ) → pos 0 *ℤ z ≡ pos 0
    zero-mul z = omega (arith, ints)

    -- g b is a w, all but w are below 0, and w is no less than g
    bound : (g a b w z p q : ℤ) → g *ℤ b ≡ z +ℤ a *ℤ w → z ≡ pos 0 → p ≡ a → q ≡ b → p <ℤ pos 0 → q <ℤ pos 0 → g <ℤ pos 0 → g ≤ℤ w → p ≤ℤ q
    bound g a b w z p q four none e f hp hq hg h =
        let up : pos 0 ≤ℤ (neg_ℤ a *ℤ (w -ℤ g)) = positive_mul (neg_ℤ a) (w -ℤ g) (omega (arith, ints)) (omega (arith, ints)) in
        let e1 = mul_sub w g (neg_ℤ a) in let e2 = neg-mul a w in let e3 = neg-mul a g in let e4 = *ℤ_comm a g in
        let f1 = mul_sub b a (neg_ℤ g) in let f2 = neg-mul g b in let f3 = neg-mul g a in let f4 = *ℤ_comm (b -ℤ a) (neg_ℤ g) in
        let least : pos 0 ≤ℤ (b -ℤ a) = of_product (b -ℤ a) (neg_ℤ g) (omega (arith, ints)) (omega (arith, ints)) in
        omega (arith, ints)

-- a vector whose products with two vectors are 0, where theirs isn't, is none
zero_part : (w u v e : Vector) → cross w u ≡ pos 0 → cross w v ≡ pos 0 → cross v u <ℤ pos 0 → cross w e ≡ pos 0
zero_part w u v e hu hv apart =
    let four : cross w v *ℤ cross u e ≡ cross w u *ℤ cross v e +ℤ cross w e *ℤ cross u v = four_vectors w u v e in
    let t : cross u v ≡ neg_ℤ (cross v u) = omega (arith, ints) in
    no_part (cross w v) (cross u e) (cross w u) (cross v e) (cross w e) (cross u v) four hv hu (omega (arith, ints))
  where
    no_part : (a b c d z k : ℤ) → a *ℤ b ≡ c *ℤ d +ℤ z *ℤ k → a ≡ pos 0 → c ≡ pos 0 → pos 0 <ℤ k → z ≡ pos 0
    no_part a b c d z k four ha hc hk =
        let first : a *ℤ b ≡ pos 0 = ap (λ (y : ℤ). y *ℤ b) ha ∙ zero-mul b in
        let second : c *ℤ d ≡ pos 0 = ap (λ (y : ℤ). y *ℤ d) hc ∙ zero-mul d in
        let e = neg-mul z k in
        let up : pos 0 ≤ℤ z = of_product z k hk (omega (arith, ints)) in
        let down : pos 0 ≤ℤ neg_ℤ z = of_product (neg_ℤ z) k hk (omega (arith, ints)) in
        omega (arith, ints)
      where
        zero-mul : (z : ℤ) → pos 0 *ℤ z ≡ pos 0
        zero-mul z = omega (arith, ints)

-- two points that lie off one line alike, and on one line with a point of it, are one
same_place : (d c x y : Pt) → orient_of d c x ≡ orient_of d c y → orient_of c x y ≡ pos 0 → (orient_of d c x <ℤ pos 0) ⊎ (pos 0 <ℤ orient_of d c x) → x ≡ y
same_place d c x y alike line apart =
    Pt_eq x y (omega (arith, ints, part (record { x = pos 0; y = pos 1 }))) (omega (arith, ints, part (record { x = pos 1; y = pos 0 })))
  where
    w : Vector
    w = from_to x y

    anti : (a b : Vector) → cross a b ≡ neg_ℤ (cross b a)
    anti a b = omega (arith, ints)

    own : (a : Vector) → cross a a ≡ pos 0
    own a = let e = anti a a in omega (arith, ints)

    by_first : cross w (from_to c x) ≡ pos 0
    by_first =
        let e = cross-between (from_to c x) c x y in let f = own (from_to c x) in let g = anti (from_to x y) (from_to c x) in
        omega (arith, ints)

    by_line : cross w (from_to d c) ≡ pos 0
    by_line =
        let e = cross-between (from_to d c) d x y in let g = anti (from_to x y) (from_to d c) in
        omega (arith, ints)

    product : cross (from_to d c) (from_to c x) ≡ orient_of d c x
    product = let e = cross-between (from_to d c) d c x in let f = own (from_to d c) in omega (arith, ints)

    part : (e : Vector) → cross w e ≡ pos 0
    part e =
        elim apart [
          | inl h ↦ zero_part w (from_to c x) (from_to d c) e by_first by_line (omega (arith, ints, product))
          | inr h ↦ zero_part w (from_to d c) (from_to c x) e by_line by_first (omega (arith, ints, product, anti (from_to c x) (from_to d c)))
        ]

same_off : (hand : Hand) (d c x y : Pt) → off_line hand d c x ≡ off_line hand d c y → off_line hand c x y ≡ pos 0 → off_line hand d c x <ℤ pos 0 → x ≡ y
same_off Left d c x y e f h = same_place d c x y e f (inl h)
same_off Right d c x y e f h =
    same_place d c x y (omega (arith, ints)) (omega (arith, ints)) (inr (omega (arith, ints)))

-- two chains that come from d to c go on to one point: each goes on past it, and neither leaves the other's point outside
same_point : (hand : Hand) (d c x y n m : Pt) → off_line hand d c x <ℤ pos 0 → off_line hand d c y <ℤ pos 0
    → off_line hand c x y ≤ℤ pos 0 → off_line hand c y x ≤ℤ pos 0
    → off_line hand c x n <ℤ pos 0 → off_line hand x n y ≤ℤ pos 0 → off_line hand c y m <ℤ pos 0 → off_line hand y m x ≤ℤ pos 0 → x ≡ y
same_point hand d c x y n m dx dy xy yx cxn xny cym ymx =
    let e = swapped hand c x y in
    let line : off_line hand c x y ≡ pos 0 = omega (arith, ints) in
    let back : off_line hand c y x ≡ pos 0 = omega (arith, ints) in
    let up = no_farther hand d c x y n dx dy line cxn xny in
    let down = no_farther hand d c y x m dy dx back cym ymx in
    same_off hand d c x y (omega (arith, ints)) line dx

-- ---- walks
-- none of some points stands out of the way from c to x
Clear : Hand → List Pt → Pt → Pt → Type 0
Clear hand others c x = (q : Pt) → In q others → off_line hand c x q ≤ℤ pos 0

-- a string goes on from c by some points, which stand off the line, to r
Walk : Hand → Pt → Pt → List Pt → Pt → List Pt → Type 0
Walk hand s r others c [] = ⊥
Walk hand s r others c (x ∷ []) = (x ≡ r) × Clear hand others c x × In x others
Walk hand s r others c (x ∷ y ∷ rest) =
    (pos 0 <ℤ off_line hand s r x) × Clear hand others c x × In x others × (off_line hand c x y <ℤ pos 0) × Walk hand s r others x (y ∷ rest)

Comes : Hand → Pt → Pt → List Pt → Type 0
Comes hand d c [] = ⊥
Comes hand d c (x ∷ rest) = off_line hand d c x <ℤ pos 0

-- from its last point the string would turn on to s
Closes : Hand → Pt → Pt → List Pt → Type 0
Closes hand s c [] = ⊥
Closes hand s c (x ∷ []) = off_line hand c x s <ℤ pos 0
Closes hand s c (x ∷ y ∷ rest) = Unit {0}

-- all of them stand on the hand, or on the line
Standing : Hand → Pt → Pt → List Pt → Type 0
Standing hand s r others = (q : Pt) → In q others → pos 0 ≤ℤ off_line hand s r q

-- where it goes on after x
record Onward (hand : Hand) (c x y : Pt) : Type 0 where
  to : Pt
  turn : off_line hand c x to <ℤ pos 0
  within : off_line hand x to y ≤ℤ pos 0

onward : (hand : Hand) (s r : Pt) (others : List Pt) → Standing hand s r others → (c x : Pt) (rest : List Pt) → Walk hand s r others c (x ∷ rest) → Closes hand s c (x ∷ rest)
    → (y : Pt) → In y others → Onward hand c x y
unfolding Walk Closes Standing Clear
onward hand s r others standing c x [] walk closes y m =
    record {
      to = s;
      turn = closes;
      within =
          let e = turned hand s r y in let f = turned hand r y s in let g = swapped hand r s y in let h = standing y m in
          let there : off_line hand r s y ≤ℤ pos 0 = omega (arith, ints) in
          rw walk.0 there;
    }
onward hand s r others standing c x (n ∷ []) walk closes y m = record { to = n; turn = walk.3; within = walk.4.1 y m }
onward hand s r others standing c x (n ∷ n' ∷ rest) walk closes y m = record { to = n; turn = walk.3; within = walk.4.1 y m }

clear_of : (hand : Hand) (s r : Pt) (others : List Pt) (c x : Pt) (rest : List Pt) → Walk hand s r others c (x ∷ rest) → Clear hand others c x × In x others
unfolding Walk
clear_of hand s r others c x [] walk = (walk.1, walk.2)
clear_of hand s r others c x (y ∷ rest) walk = (walk.1, walk.2)

first_point : (hand : Hand) (s r : Pt) (others : List Pt) → Standing hand s r others → (d c x y : Pt) (xs ys : List Pt)
    → Walk hand s r others c (x ∷ xs) → Walk hand s r others c (y ∷ ys) → Comes hand d c (x ∷ xs) → Comes hand d c (y ∷ ys)
    → Closes hand s c (x ∷ xs) → Closes hand s c (y ∷ ys) → x ≡ y
unfolding Comes Clear
first_point hand s r others standing d c x y xs ys walk walk' comes comes' closes closes' =
    let at_x = clear_of hand s r others c x xs walk in
    let at_y = clear_of hand s r others c y ys walk' in
    let on_x = onward hand s r others standing c x xs walk closes y at_y.1 in
    let on_y = onward hand s r others standing c y ys walk' closes' x at_x.1 in
    same_point hand d c x y on_x.to on_y.to comes comes' (at_x.0 y at_y.1) (at_y.0 x at_x.1) on_x.turn on_x.within on_y.turn on_y.within

-- from a point off the line the last turn to s is there
closes_off : (hand : Hand) (s r : Pt) (others : List Pt) (c : Pt) (string : List Pt) → pos 0 <ℤ off_line hand s r c → Walk hand s r others c string → Closes hand s c string
unfolding Walk Closes
closes_off hand s r others c [] off walk = walk
closes_off hand s r others c (x ∷ []) off walk =
    let e = turned hand s c r in let f = swapped hand s c r in
    let there : off_line hand c r s <ℤ pos 0 = omega (arith, ints) in rw walk.0 there
closes_off hand s r others c (x ∷ y ∷ rest) off walk = tt

on_line : (hand : Hand) (s r : Pt) → pos 0 <ℤ off_line hand s r r → ⊥
on_line hand s r h = let e = level hand s r in omega (arith, ints)

one_walk : (hand : Hand) (s r : Pt) (others : List Pt) → Standing hand s r others → (d c : Pt) (xs ys : List Pt)
    → Walk hand s r others c xs → Walk hand s r others c ys → Comes hand d c xs → Comes hand d c ys → Closes hand s c xs → Closes hand s c ys → xs ≡ ys
unfolding Walk Comes
one_walk hand s r others standing d c [] ys walk walk' comes comes' closes closes' = absurd walk
one_walk hand s r others standing d c (x ∷ xs) [] walk walk' comes comes' closes closes' = absurd walk'
one_walk hand s r others standing d c (x ∷ []) (y ∷ []) walk walk' comes comes' closes closes' =
    ap (λ (p : Pt). p ∷ []) (walk.0 ∙ sym walk'.0)
one_walk hand s r others standing d c (x ∷ []) (y ∷ y' ∷ ys) walk walk' comes comes' closes closes' =
    let same = first_point hand s r others standing d c x y [] (y' ∷ ys) walk walk' comes comes' closes closes' in
    absurd (on_line hand s r (subst (λ (p : Pt). pos 0 <ℤ off_line hand s r p) (sym same ∙ walk.0) walk'.0))
one_walk hand s r others standing d c (x ∷ x' ∷ xs) (y ∷ []) walk walk' comes comes' closes closes' =
    let same = first_point hand s r others standing d c x y (x' ∷ xs) [] walk walk' comes comes' closes closes' in
    absurd (on_line hand s r (subst (λ (p : Pt). pos 0 <ℤ off_line hand s r p) (same ∙ walk'.0) walk.0))
one_walk hand s r others standing d c (x ∷ x' ∷ xs) (y ∷ y' ∷ ys) walk walk' comes comes' closes closes' =
    let same = first_point hand s r others standing d c x y (x' ∷ xs) (y' ∷ ys) walk walk' comes comes' closes closes' in
    let on : Walk hand s r others x (y' ∷ ys) = subst (λ (p : Pt). Walk hand s r others p (y' ∷ ys)) (sym same) walk'.4 in
    let turn : off_line hand c x y' <ℤ pos 0 = subst (λ (p : Pt). off_line hand c p y' <ℤ pos 0) (sym same) walk'.3 in
    let rest = one_walk hand s r others standing c x (x' ∷ xs) (y' ∷ ys) walk.4 on walk.3 turn (closes_off hand s r others x (x' ∷ xs) walk.0 walk.4) (closes_off hand s r others x (y' ∷ ys) walk.0 on) in
    cc

-- ---- a chain is a walk
both_hold : (x y : Bool) → (x && y) ≡ true → (x ≡ true) × (y ≡ true)
both_hold true y e = (refl, e)
both_hold false y e = cc

clear_from : (hand : Hand) (others : List Pt) (a b : Pt) → is_outermost hand others (record { from = a; to = b }) ≡ true → Clear hand others a b
unfolding Clear
clear_from hand [] a b e q m = absurd m
clear_from hand (p ∷ others) a b e q m =
    let parts = both_hold (not (int_lt (pos 0) (off_line hand a b p))) _ e in
    elim m [
      | inl same ↦ rw same (no_more (off_line hand a b p) parts.0)
      | inr n ↦ clear_from hand others a b parts.1 q n
    ]
  where
    no_more : (z : ℤ) → not (int_lt (pos 0) z) ≡ true → z ≤ℤ pos 0
    no_more z e = by_test (int_lt (pos 0) z) refl e where
      by_test : (t : Bool) → int_lt (pos 0) z ≡ t → not t ≡ true → z ≤ℤ pos 0
      by_test true e f = cc
      by_test false e f = omega (arith, ints)

-- each of some points stands on the hand and is among the others
Standers : Hand → Pt → Pt → List Pt → List Pt → Type 0
Standers hand s r others chain = (p : Pt) → In p chain → (pos 0 <ℤ off_line hand s r p) × In p others

turn_at : (a : ℤ) → int_lt a (pos 0) ≡ true → a <ℤ pos 0
turn_at a e = omega (arith, ints)

walk_of : (hand : Hand) (s r : Pt) (others : List Pt) → In r others → (c : Pt) (chain : List Pt) → Standers hand s r others chain
    → turns_away hand (c ∷ (chain ++ r ∷ [])) ≡ true → list_all (is_outermost hand others) (sides_along (c ∷ (chain ++ r ∷ []))) ≡ true
    → Walk hand s r others c (chain ++ r ∷ [])
unfolding Walk Standers
walk_of hand s r others end c [] standers turns out =
    (refl, clear_from hand others c r (both_hold _ true out).0, end)
walk_of hand s r others end c (x ∷ []) standers turns out =
    let parts = both_hold (is_outermost hand others (record { from = c; to = x })) _ out in
    let now = both_hold (int_lt (off_line hand c x r) (pos 0)) _ turns in
    let x_is = standers x (inl refl) in
    (x_is.0, clear_from hand others c x parts.0, x_is.1, turn_at _ now.0, walk_of hand s r others end x [] (λ p m. standers p (inr m)) now.1 parts.1)
walk_of hand s r others end c (x ∷ y ∷ rest) standers turns out =
    let parts = both_hold (is_outermost hand others (record { from = c; to = x })) _ out in
    let now = both_hold (int_lt (off_line hand c x y) (pos 0)) _ turns in
    let x_is = standers x (inl refl) in
    (x_is.0, clear_from hand others c x parts.0, x_is.1, turn_at _ now.0, walk_of hand s r others end x (y ∷ rest) (λ p m. standers p (inr m)) now.1 parts.1)

closes_first : (hand : Hand) (s r x : Pt) (rest : List Pt) → Closes hand s s (x ∷ (rest ++ r ∷ []))
unfolding Closes
closes_first hand s r x [] = tt
closes_first hand s r x (y ∷ rest) = tt

-- ---- the points beside a line
pub beside_is : (hand : Hand) (s r : Pt) (points : List Pt) (p : Pt) → In p (points_beside points s r hand) → pos 0 <ℤ off_line hand s r p
beside_is hand s r [] p m = absurd m
beside_is hand s r (q ∷ points) p m = by_test (is_beside hand s r q) refl m (beside_is hand s r points p) where
  by_test : (t : Bool) → is_beside hand s r q ≡ t → In p (if t then q ∷ points_beside points s r hand else points_beside points s r hand)
      → (In p (points_beside points s r hand) → pos 0 <ℤ off_line hand s r p) → pos 0 <ℤ off_line hand s r p
  by_test true e m others =
      elim m [
        | inl same ↦ (let here : pos 0 <ℤ off_line hand s r q = omega (arith, ints) in rw same here)
        | inr n ↦ others n
      ]
  by_test false e m others = others m

same_chain : (hand : Hand) (s r : Pt) (others : List Pt) → Standing hand s r others → In r others → (a b : List Pt) → Standers hand s r others a → Standers hand s r others b
    → Walk hand s r others s (a ++ r ∷ []) → Walk hand s r others s (b ++ r ∷ []) → a ≡ b
unfolding Walk Standers Clear Comes
same_chain hand s r others standing end [] [] sa sb wa wb = refl
same_chain hand s r others standing end [] (y ∷ b) sa sb wa wb =
    let y_is = sb y (inl refl) in let h = wa.1 y y_is.1 in let k = y_is.0 in absurd (omega (arith, ints))
same_chain hand s r others standing end (x ∷ a) [] sa sb wa wb =
    let x_is = sa x (inl refl) in let h = wb.1 x x_is.1 in let k = x_is.0 in absurd (omega (arith, ints))
same_chain hand s r others standing end (x ∷ a) (y ∷ b) sa sb wa wb =
    let x_is = (sa x (inl refl)).0 in let y_is = (sb y (inl refl)).0 in
    (same_from_push (x ∷ a) (y ∷ b) r r
    (one_walk hand s r others standing r s (x ∷ (a ++ r ∷ [])) (y ∷ (b ++ r ∷ [])) wa wb (comes x x_is) (comes y y_is) (closes_first hand s r x a) (closes_first hand s r y b))).0
  where
    comes : (p : Pt) → pos 0 <ℤ off_line hand s r p → off_line hand r s p <ℤ pos 0
    comes p h = let e = turned hand s r p in let f = turned hand r p s in let g = swapped hand r s p in omega (arith, ints)

pub one_chain : OneChain
unfolding Standing Standers
one_chain points s r hand a b is_a is_b =
    same_chain hand s r others standing (inr (inl refl)) a b (standers a is_a.members) (standers b is_b.members) (walk a is_a) (walk b is_b)
  where
    others : List Pt
    others = s ∷ r ∷ points_beside points s r hand

    standing : Standing hand s r others
    standing = λ q m. elim m [
      | inl e ↦ (let t = turned hand s r s in let u = turned hand r s s in let none = level hand r s in rw e (omega (arith, ints)))
      | inr n ↦ (elim n [
        | inl e ↦ (let none = level hand s r in rw e (omega (arith, ints)))
        | inr k ↦ (let h = beside_is hand s r points q k in omega (arith, ints))
      ])
    ]

    standers : (chain : List Pt) → All (Contains (points_beside points s r hand)) chain → Standers hand s r others chain
    standers chain members p m =
        let there = found_in p (points_beside points s r hand) (each_of (Contains (points_beside points s r hand)) chain members p m) in
        (beside_is hand s r points p there, inr (inr there))

    walk : (chain : List Pt) → IsChain points s r hand chain → Walk hand s r others s (chain ++ r ∷ [])
    walk chain is =
        let parts = both_hold (turns_away hand (s ∷ (chain ++ r ∷ []))) _ is.stretched in
        walk_of hand s r others (inr (inl refl)) s chain (standers chain is.members) parts.0 parts.1

-- the way straight from s to r is stretched round no points alone
none_beside : (hand : Hand) (s r : Pt) (beside : List Pt) → ((p : Pt) → In p beside → pos 0 <ℤ off_line hand s r p) → is_stretched beside s r hand [] ≡ true → beside ≡ []
unfolding Clear
none_beside hand s r [] all e = refl
none_beside hand s r (p ∷ beside) all e =
    let others = s ∷ r ∷ p ∷ beside in
    let out : is_outermost hand others (record { from = s; to = r }) ≡ true = (both_hold _ true (both_hold true _ e).1).0 in
    let within = clear_from hand others s r out p (inr (inr (inl refl))) in
    let off = all p (inl refl) in
    absurd (omega (arith, ints))

pub empty_where_none : EmptyWhereNone
empty_where_none points s r hand [] is =
    (λ e. none_beside hand s r (points_beside points s r hand) (beside_is hand s r points) is.stretched, λ e. refl)
empty_where_none points s r hand (x ∷ chain) is = (
  λ e. absurd (cc),
  λ none.
      let there = found_in x (points_beside points s r hand) (each_of (Contains (points_beside points s r hand)) (x ∷ chain) is.members x (inl refl)) in
      absurd (subst (λ (list : List Pt). In x list) none there),
)
