-- Sums of intervals, whatever their order. Where ends aren't negative, or where there is room for all of them, they add up
-- alike in any order.
use Rattle.std.proofs.Common.{◌≡◌, ℕ, suc, ◌+◌, ◌*◌, ◌<◌, ◌≤◌, ℤ, pos, ◌+ℤ◌, unsigned_abs, arith, refl, ap, ◌∙◌, sym, inl, inr, List, [], ◌∷◌, length, map}
use Rattle.std.specs.Prelude.{Option, Some, None, IfSome, ◌^◌, ◌⊎◌, fold}
use Rattle.std.proofs.lemmas.Bool.{cases_lt}
use Rattle.std.proofs.lemmas.Int.{ints}
use Rattle.fix_interval.specs.Interval.{Interval}
use Rattle.fix_interval.specs.Values.{end_of, sum_of_ends, add_of}
use Rattle.fix_interval.specs.Tree.{Tree, Const, Add, enc}
use Rattle.fix_interval.proofs.Multiplying.{end_of-small, end_of-large}
use Rattle.scene_book.specs.Orders.{Shuffled}
use Rattle.path_shape.specs.Forms.{plus_all}
use Rattle.order_law.proofs.Shuffles.{Each, map-shuffled}
use Rattle.order_law.proofs.Folds.{fold-shuffled}
use Rattle.order_law.proofs.Ends.{Ends, NotNegative, IsPositive, AtMost, AreWithin, add-positive, add-keeps, ratio-positive}

-- ---- two terms in either order

pub none-added : (end : Option ℤ) → sum_of_ends end None ≡ None
none-added None = refl
none-added (Some x) = refl

-- where neither sum of two is too large
small-turned : (a x y : ℤ) → unsigned_abs (a +ℤ x) < 2 ^ 126 → unsigned_abs (a +ℤ y) < 2 ^ 126 → sum_of_ends (end_of (a +ℤ x)) (Some y) ≡ sum_of_ends (end_of (a +ℤ y)) (Some x)
small-turned a x y h k =
    let same : (a +ℤ x) +ℤ y ≡ (a +ℤ y) +ℤ x = omega (arith, ints) in
    rw (end_of-small (a +ℤ x) h, end_of-small (a +ℤ y) k) (ap end_of same)

-- where the sum of all three is, and terms don't take off
large-sum : (a x y : ℤ) → 2 ^ 126 ≤ unsigned_abs ((a +ℤ x) +ℤ y) → sum_of_ends (end_of (a +ℤ x)) (Some y) ≡ None
large-sum a x y h = by (cases_lt (unsigned_abs (a +ℤ x)) (2 ^ 126)) where
  by : (unsigned_abs (a +ℤ x) < 2 ^ 126) ⊎ (2 ^ 126 ≤ unsigned_abs (a +ℤ x)) → sum_of_ends (end_of (a +ℤ x)) (Some y) ≡ None
  by (inl k) = rw (end_of-small (a +ℤ x) k) (end_of-large ((a +ℤ x) +ℤ y) h)
  by (inr k) = rw (end_of-large (a +ℤ x) k)

positive-turned : (a x y : ℤ) → NotNegative a → NotNegative x → NotNegative y → sum_of_ends (end_of (a +ℤ x)) (Some y) ≡ sum_of_ends (end_of (a +ℤ y)) (Some x)
positive-turned a x y ha hx hy = by (cases_lt (unsigned_abs ((a +ℤ x) +ℤ y)) (2 ^ 126)) where
  by : (unsigned_abs ((a +ℤ x) +ℤ y) < 2 ^ 126) ⊎ (2 ^ 126 ≤ unsigned_abs ((a +ℤ x) +ℤ y)) → sum_of_ends (end_of (a +ℤ x)) (Some y) ≡ sum_of_ends (end_of (a +ℤ y)) (Some x)
  by (inl h) = small-turned a x y (omega (arith, ints, h, ha, hx, hy)) (omega (arith, ints, h, ha, hx, hy))
  by (inr h) = large-sum a x y h ∙ sym (large-sum a y x (omega (arith, ints, h)))

module _ (Room Fits : ℤ → Type 0) (turned : (a x y : ℤ) → Room a → Fits x → Fits y → sum_of_ends (end_of (a +ℤ x)) (Some y) ≡ sum_of_ends (end_of (a +ℤ y)) (Some x)) where
  ends-turned : (a x y : Option ℤ) → IfSome a Room → IfSome x Fits → IfSome y Fits → sum_of_ends (sum_of_ends a x) y ≡ sum_of_ends (sum_of_ends a y) x
  ends-turned None x y ha hx hy = refl
  ends-turned (Some a) None None ha hx hy = refl
  ends-turned (Some a) None (Some y) ha hx hy = sym (none-added (end_of (a +ℤ y)))
  ends-turned (Some a) (Some x) None ha hx hy = none-added (end_of (a +ℤ x))
  ends-turned (Some a) (Some x) (Some y) ha hx hy = turned a x y ha hx hy

  pub add-turned : (a x y : Interval) → Ends Room a → Ends Fits x → Ends Fits y → add_of (add_of a x) y ≡ add_of (add_of a y) x
  unfolding add_of
  add-turned a x y ha hx hy = both _ _ _ _ (ends-turned a.lo x.lo y.lo ha.0 hx.0 hy.0) (ends-turned a.hi x.hi y.hi ha.1 hx.1 hy.1) where
    both : (l m h k : Option ℤ) → l ≡ m → h ≡ k → ◌≡◌ {A = Interval} (record { lo = l; hi = h }) (record { lo = m; hi = k })
    both l m h k e f = rw (e, f)

-- ---- sums of formulas

pub enc-fold : (total : Tree) (terms : List Tree) → enc (fold Add total terms) ≡ fold add_of (enc total) (map enc terms)
enc-fold total [] = refl
enc-fold total (term ∷ terms) = enc-fold (Add total term) terms

-- ---- sums of energies, which aren't negative

-- the sum of several intervals, 0 of none
abbrev pub sum_of : List Interval → Interval
sum_of terms = fold add_of (enc (Const (pos 0) 1)) terms

positive-sums-alike : {xs ys : List Interval} → Shuffled xs ys → Each IsPositive xs → sum_of xs ≡ sum_of ys
positive-sums-alike h positive =
    fold-shuffled add_of (λ n total. IsPositive total) IsPositive (λ n total x. add-positive total x)
    (λ n total x y. add-turned NotNegative NotNegative positive-turned total x y) (enc (Const (pos 0) 1)) h (ratio-positive 0 1) positive

pub sums-alike : (ts us : List Tree) → Shuffled (map enc ts) (map enc us) → Each IsPositive (map enc ts) → enc (fold Add (Const (pos 0) 1) ts) ≡ enc (fold Add (Const (pos 0) 1) us)
sums-alike ts us h positive = enc-fold (Const (pos 0) 1) ts ∙ positive-sums-alike h positive ∙ sym (enc-fold (Const (pos 0) 1) us)

sum-positive-from : (total : Tree) (ts : List Tree) → IsPositive (enc total) → Each IsPositive (map enc ts) → IsPositive (enc (fold Add total ts))
sum-positive-from total [] h positive = h
sum-positive-from total (t ∷ ts) h positive = sum-positive-from (Add total t) ts (add-positive (enc total) (enc t) h positive.0) positive.1

pub sum-positive : (ts : List Tree) → Each IsPositive (map enc ts) → IsPositive (enc (fold Add (Const (pos 0) 1) ts))
sum-positive ts positive = sum-positive-from (Const (pos 0) 1) ts (ratio-positive 0 1) positive

-- what a rule makes of things is positive
pub each-made : {X : Type 0} (f : X → Tree) → ((x : X) → IsPositive (enc (f x))) → (xs : List X) → Each IsPositive (map enc (map f xs))
each-made f positive [] = tt
each-made f positive (x ∷ xs) = (positive x, each-made f positive xs)

-- ---- sums of terms that have a bound

-- there is room in a total for so many more terms of a bound
abbrev HasRoom : ℕ → ℕ → Interval → Type 0
HasRoom m n total = Ends (λ z. unsigned_abs z + n * m < 2 ^ 126) total

module _ (m : ℕ) where
  room-step : (n : ℕ) (total x : Interval) → HasRoom m (suc n) total → AreWithin m x → HasRoom m n (add_of total x)
  room-step n total x room within =
      add-keeps (λ z. unsigned_abs z + suc n * m < 2 ^ 126) (AtMost m) (λ z. unsigned_abs z + n * m < 2 ^ 126) (λ y z h k. omega (arith, ints, h, k, one-more n)) total x room within
    where
      one-more : (n : ℕ) → suc n * m ≡ n * m + m
      one-more n = omega arith

  room-turned : (n : ℕ) (total x y : Interval) → HasRoom m (suc (suc n)) total → AreWithin m x → AreWithin m y → add_of (add_of total x) y ≡ add_of (add_of total y) x
  room-turned n total x y room hx hy =
      add-turned (λ z. unsigned_abs z + suc (suc n) * m < 2 ^ 126) (AtMost m)
      (λ z p q h k l. small-turned z p q (omega (arith, ints, h, k, more n)) (omega (arith, ints, h, l, more n))) total x y room hx hy
    where
      more : (n : ℕ) → m ≤ suc (suc n) * m
      more n = omega arith

  bounded-sums-alike : (total : Interval) {xs ys : List Interval} → Shuffled xs ys → HasRoom m (length xs) total → Each (AreWithin m) xs → fold add_of total xs ≡ fold add_of total ys
  bounded-sums-alike total h room within = fold-shuffled add_of (HasRoom m) (AreWithin m) room-step room-turned total h room within

-- ---- sums of few terms

enc-plus_all : (total : Tree) (terms : List Tree) → enc (plus_all total terms) ≡ fold add_of (enc total) (map enc terms)
enc-plus_all total [] = refl
enc-plus_all total (term ∷ terms) = enc-plus_all (Add total term) terms

room-for : (n : ℕ) (total : Interval) → n ≤ 1024 → AreWithin (2 ^ 32) total → HasRoom (2 ^ 108) n total
room-for n total few within = (room total.lo within.0, room total.hi within.1) where
  room : (end : Option ℤ) → IfSome end (AtMost (2 ^ 32)) → IfSome end (λ z. unsigned_abs z + n * 2 ^ 108 < 2 ^ 126)
  room None h = tt
  room (Some z) h = omega (arith, h, few)

-- a term of a sum of few
abbrev pub IsTerm : Tree → Type 0
IsTerm t = AreWithin (2 ^ 108) (enc t)

each-enc : (ts : List Tree) → Each IsTerm ts → Each (AreWithin (2 ^ 108)) (map enc ts)
each-enc [] each = tt
each-enc (t ∷ ts) each = (each.0, each-enc ts each.1)

length-enc : (ts : List Tree) → length (map enc ts) ≡ length ts
length-enc [] = refl
length-enc (t ∷ ts) = ap suc (length-enc ts)

pub few-sums-alike : (total : Tree) {ts us : List Tree} → Shuffled ts us → length ts ≤ 1024 → AreWithin (2 ^ 32) (enc total) → Each IsTerm ts
    → enc (plus_all total ts) ≡ enc (plus_all total us)
few-sums-alike total {ts = ts} {us = us} h few small each =
    enc-plus_all total ts
    ∙ bounded-sums-alike (2 ^ 108) (enc total) (map-shuffled enc h) (room-for _ (enc total) (omega (arith, length-enc ts, few)) small) (each-enc ts each)
    ∙ sym (enc-plus_all total us)
