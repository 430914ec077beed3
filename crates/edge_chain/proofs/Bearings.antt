-- The order by bearing is an order of all points, and puts those on the hand as a string is wound round them.
use Rattle.std.proofs.Common.{◌≡◌, ℕ, suc, ◌<◌, ◌≤◌, Bool, true, false, arith, ap, subst, sym, refl, ◌∙◌, ◌⊎◌, inl, inr, List, [], ◌∷◌, ◌++◌, length}
use Rattle.std.specs.Prelude.{ℤ, pos, neg_ℤ, int_lt, slice_index_or, ◌&&◌, ◌+ℤ◌, ◌*ℤ◌, ◌≤ℤ◌, ◌<ℤ◌, if◌then◌else◌}
use Rattle.std.specs.Ordering.{int_cmp, ordering_then, is_lt}
use Rattle.std.specs.declared.cmp.Ordering.{Ordering}
use Rattle.std.specs.Cmp.{IsStrictWeakOrder}
use Rattle.std.proofs.lemmas.Int.{ints}
use Rattle.scene_geom.specs.declared.plan.Pt.{Pt}
use Rattle.edge_chain.specs.declared.hand.Hand.{Hand}
use Rattle.edge_chain.specs.Chain.{off_line, is_beside}
use Rattle.edge_chain.specs.inner.Bearing.{turn_of, bearing_order}
use Rattle.std.proofs.Math.IntN.{*ℤ_comm}
use Rattle.edge_chain.proofs.Signs.{positive_mul, negative_mul, neg_neg, of_sum, zero-mul, zero_factor}
use Rattle.edge_chain.proofs.Hands.{swapped, four_points}
use Rattle.edge_chain.proofs.Tight.{In, Before, Behind, Sorted}
use Rattle.edge_chain.proofs.Stretched.{contains}

-- a comes strictly before b
abbrev pub comes_before : Hand → Pt → Pt → Pt → Pt → Bool
comes_before hand s r a b = is_lt (bearing_order hand s r a b)

-- what it says that an order by two numbers is not met
record NotLess (t m n : ℤ) : Type 0 where
  first : pos 0 ≤ℤ t
  second : t ≡ pos 0 → n ≤ℤ m

not_less : (t m n : ℤ) → is_lt (ordering_then (int_cmp t (pos 0)) (int_cmp m n)) ≡ false → NotLess t m n
not_less t m n e = record { first = grind (arith, ints); second = λ z. grind (arith, ints) }

is_not_less : (t m n : ℤ) → NotLess t m n → is_lt (ordering_then (int_cmp t (pos 0)) (int_cmp m n)) ≡ false
is_not_less t m n h = let first = h.first in let second = h.second in grind (arith, ints)

-- ---- an order
opposite_ways : (t t' m n : ℤ) → t' ≡ neg_ℤ t → is_lt (ordering_then (int_cmp t (pos 0)) (int_cmp m n)) ≡ true
    → is_lt (ordering_then (int_cmp t' (pos 0)) (int_cmp n m)) ≡ false
opposite_ways t t' m n e h = grind (arith, ints)

turn_back : (hand : Hand) (s r a b : Pt) → turn_of hand s r b a ≡ neg_ℤ (turn_of hand s r a b)
turn_back hand s r a b = by_tests (is_beside hand s r a) (is_beside hand s r b) where
  by_tests : (t u : Bool) → (if u && t then off_line hand s b a else pos 0) ≡ neg_ℤ (if t && u then off_line hand s a b else pos 0)
  by_tests true true = swapped hand s b a
  by_tests true false = refl
  by_tests false true = refl
  by_tests false false = refl

-- three points: on the hand their turns add up as their triangles do
chained : (lx ly lz xy yz xz : ℤ) → xz *ℤ ly ≡ neg_ℤ lx *ℤ neg_ℤ yz +ℤ xy *ℤ lz → (t u v : Bool)
    → int_lt (pos 0) lx ≡ t → int_lt (pos 0) ly ≡ u → int_lt (pos 0) lz ≡ v
    → NotLess (if t && u then xy else pos 0) ly lx → NotLess (if u && v then yz else pos 0) lz ly → NotLess (if t && v then xz else pos 0) lz lx
chained lx ly lz xy yz xz four true true true hx hy hz h k =
    let a = h.first in let b = k.first in
    let one : pos 0 ≤ℤ (neg_ℤ lx *ℤ neg_ℤ yz) = negative_mul (neg_ℤ lx) (neg_ℤ yz) (omega (arith, ints)) (omega (arith, ints)) in
    let two : pos 0 ≤ℤ (xy *ℤ lz) = positive_mul xy lz a (omega (arith, ints)) in
    record {
      first = of_sum xz ly _ _ four (omega (arith, ints)) one two;
      second = λ e.
          let none : xz *ℤ ly ≡ pos 0 = ap (λ (z : ℤ). z *ℤ ly) e ∙ zero-mul ly in
          let three = neg_neg lx yz in
          let xy_none : xy ≡ pos 0 = zero_factor xy lz (omega (arith, ints)) (omega (arith, ints)) in
          let yz_none : yz ≡ pos 0 = zero_factor yz lx (*ℤ_comm yz lx ∙ sym three ∙ omega (arith, ints)) (omega (arith, ints)) in
          let p = h.second xy_none in let q = k.second yz_none in omega (arith, ints);
    }
chained lx ly lz xy yz xz four true true false hx hy hz h k = let q = k.second refl in absurd (omega (arith, ints))
chained lx ly lz xy yz xz four true false true hx hy hz h k = let p = h.second refl in absurd (omega (arith, ints))
chained lx ly lz xy yz xz four true false false hx hy hz h k = let p = h.second refl in absurd (omega (arith, ints))
chained lx ly lz xy yz xz four false true true hx hy hz h k =
    record { first = omega (arith, ints); second = λ e. omega (arith, ints) }
chained lx ly lz xy yz xz four false true false hx hy hz h k =
    let p = h.second refl in let q = k.second refl in record { first = omega (arith, ints); second = λ e. omega (arith, ints) }
chained lx ly lz xy yz xz four false false true hx hy hz h k =
    let p = h.second refl in let q = k.second refl in record { first = omega (arith, ints); second = λ e. omega (arith, ints) }
chained lx ly lz xy yz xz four false false false hx hy hz h k =
    let p = h.second refl in let q = k.second refl in record { first = omega (arith, ints); second = λ e. omega (arith, ints) }

triangles : (hand : Hand) (s r x y z : Pt) → off_line hand s x z *ℤ off_line hand s r y ≡ neg_ℤ (off_line hand s r x) *ℤ neg_ℤ (off_line hand s y z) +ℤ off_line hand s x y *ℤ off_line hand s r z
triangles hand s r x y z =
    four_points hand s x r z y
    ∙ ap (λ (k : ℤ). k *ℤ off_line hand s z y +ℤ off_line hand s x y *ℤ off_line hand s r z) (swapped hand s x r)
    ∙ ap (λ (k : ℤ). neg_ℤ (off_line hand s r x) *ℤ k +ℤ off_line hand s x y *ℤ off_line hand s r z) (swapped hand s z y)

pub is_order : (hand : Hand) (s r : Pt) → IsStrictWeakOrder (comes_before hand s r)
is_order hand s r = record {
  one_way = λ x y e. opposite_ways (turn_of hand s r x y) (turn_of hand s r y x) (off_line hand s r y) (off_line hand s r x) (turn_back hand s r x y) e;
  chain = λ x y z e f.
      let l = off_line hand s r in
      is_not_less (turn_of hand s r x z) (l z) (l x)
      (chained (l x) (l y) (l z) (off_line hand s x y) (off_line hand s y z) (off_line hand s x z) (triangles hand s r x y z)
      (is_beside hand s r x) (is_beside hand s r y) (is_beside hand s r z) refl refl refl
      (not_less (turn_of hand s r x y) (l y) (l x) e) (not_less (turn_of hand s r y z) (l z) (l y) f));
}

-- ---- points in this order
-- none comes before an earlier one
abbrev pub InOrder : Hand → Pt → Pt → List Pt → Type 0
InOrder hand s r points = (i j : ℕ) (d : Pt) → i ≤ j → j < length points → comes_before hand s r (slice_index_or points j d) (slice_index_or points i d) ≡ false

in_rest : (hand : Hand) (s r x : Pt) (points : List Pt) → InOrder hand s r (x ∷ points) → InOrder hand s r points
in_rest hand s r x points order i j d at_most below = order (suc i) (suc j) d (omega arith) (omega arith)

not_before : (hand : Hand) (s r x q : Pt) (points : List Pt) → InOrder hand s r (x ∷ points) → In q points → comes_before hand s r q x ≡ false
not_before hand s r x q points order m =
    let found = contains q points m in
    let e : comes_before hand s r (slice_index_or points found.0 q) x ≡ false = order 0 (suc found.0) q (omega arith) (omega arith) in
    subst (λ (p : Pt). comes_before hand s r p x ≡ false) found.2 e

pub in_one_more : (q e : Pt) (points : List Pt) → In q (points ++ e ∷ []) → In q points ⊎ (q ≡ e)
in_one_more q e [] m = elim m [ inl same ↦ inr same | inr n ↦ absurd n ]
in_one_more q e (p ∷ points) m =
    elim m [
      | inl same ↦ inl (inl same)
      | inr n ↦ (elim (in_one_more q e points n) [ inl k ↦ inl (inr k) | inr same ↦ inr same ])
    ]

behind : (hand : Hand) (s r x : Pt) (points : List Pt) → pos 0 <ℤ off_line hand s r x → ((p : Pt) → In p points → pos 0 <ℤ off_line hand s r p) → InOrder hand s r (x ∷ points)
    → Behind hand s r (points ++ r ∷ []) x
behind hand s r x points off all order = record {
  after = λ q m. elim (in_one_more q r points m) [
    | inl k ↦ before q (all q k) (not_less (turn_of hand s r q x) (off_line hand s r x) (off_line hand s r q) (not_before hand s r x q points order k))
    | inr same ↦ rw same at_end
  ];
  beside = λ q m. elim (in_one_more q r points m) [ inl k ↦ inl (all q k) | inr same ↦ inr same ];
}
  where
    at_end : Before hand s r x r
    at_end = let e = swapped hand s x r in record { turn = omega (arith, ints); far = λ none. absurd (omega (arith, ints)) }

    before : (q : Pt) → pos 0 <ℤ off_line hand s r q → NotLess (turn_of hand s r q x) (off_line hand s r x) (off_line hand s r q) → Before hand s r x q
    before q off_q h = by_tests (is_beside hand s r q) (is_beside hand s r x) (sym (omega (arith, ints))) (sym (omega (arith, ints))) h where
      by_tests : (t u : Bool) → t ≡ true → u ≡ true → NotLess (if t && u then off_line hand s q x else pos 0) (off_line hand s r x) (off_line hand s r q) → Before hand s r x q
      by_tests false u e f h = cc
      by_tests true false e f h = cc
      by_tests true true e f h =
          let back = swapped hand s x q in let a = h.first in
          record { turn = omega (arith, ints); far = λ none. h.second (omega (arith, ints)) }

pub sorted_points : (hand : Hand) (s r : Pt) (points : List Pt) → ((p : Pt) → In p points → pos 0 <ℤ off_line hand s r p) → InOrder hand s r points
    → Sorted hand s r (points ++ r ∷ [])
sorted_points hand s r [] all order = refl
sorted_points hand s r (x ∷ []) all order =
    (all x (inl refl), behind hand s r x [] (all x (inl refl)) (λ p m. absurd m) order, refl)
sorted_points hand s r (x ∷ y ∷ points) all order = (
  all x (inl refl),
  behind hand s r x (y ∷ points) (all x (inl refl)) (λ p m. all p (inr m)) order,
  sorted_points hand s r (y ∷ points) (λ p m. all p (inr m)) (in_rest hand s r x (y ∷ points) order),
)

pub order-from : (o first second : Ordering) (t t' m m' n n' : ℤ) → o ≡ ordering_then first second → first ≡ int_cmp t (pos 0) → second ≡ int_cmp m n
    → t ≡ t' → m ≡ m' → n ≡ n' → o ≡ ordering_then (int_cmp t' (pos 0)) (int_cmp m' n')
order-from o first second t t' m m' n n' e f g ht hm hn = rw (← ht, ← hm, ← hn) (e ∙ ap (λ w. ordering_then w second) f ∙ ap (ordering_then (int_cmp t (pos 0))) g)
