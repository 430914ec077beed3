-- Sums of energies.
use Rattle.std.proofs.Common.{◌≡◌, ℕ, ◌+◌, ◌-◌, ◌*◌, ◌<◌, ◌≤◌, ◌^◌, ℤ, pos, negsuc, neg_ℤ, ◌+ℤ◌, ◌≤ℤ◌, ◌<ℤ◌, unsigned_abs, Bool, true, false, List, [], ◌∷◌, ◌++◌, length, get_or, take, map, Option, refl, sym, ap, ◌∙◌, subst, inl, inr, arith, lit<}
use Rattle.std.specs.Prelude.{◌⊎◌, Some, None, fold, sum_by, IsSomeAnd, if◌then◌else◌}
use Rattle.std.proofs.lemmas.Int.{ints}
use Rattle.std.proofs.lemmas.List.{take_more}
use Rattle.std.proofs.lemmas.List.Sums.{sum_by_more_le, sum_by_more}
use Rattle.std.proofs.Math.IntN.{zero-*ℤ, +ℤ_idl, +ℤ_idr}
use Rattle.fix_interval.specs.Interval.{Interval, IsEnd}
use Rattle.fix_interval.specs.Bounds.{IsBetween, AreBetween}
use Rattle.fix_interval.specs.Units.{unit}
use Rattle.fix_interval.specs.Values.{ratio_of, add_of, neg_of, sum_of_ends, is_small, lesser_low, greater_high, hull_of, pick_of}
use Rattle.fix_interval.specs.declared.truth.Truth.{Truth}
use Rattle.fix_interval.specs.declared.truth.Truth.TheVariants.{Sure, Never, Unsure}
use Rattle.fix_interval.specs.Tree.{Tree, Known, Const, Add, enc}
use Rattle.fix_interval.proofs.Ratios.{ratio_of-one, ratio_of-small}
use Rattle.fix_interval.proofs.Multiplying.{end_of-small}
use Rattle.energy_sum.specs.Sums.{units_of}
use Rattle.std.specs.Option.{option_map}
use Rattle.path_calc.specs.Energies.{sum_form}
use Rattle.path_calc.specs.inner.Strings.{listed}
use Rattle.path_calc.specs.inner.Hearing.{with_energy}
use Rattle.path_calc.specs.Bundles.{IsEnergy, energy_limit, few_bundles}
use Rattle.path_calc.specs.inner.Ranges.{IsSumOf, IsSmall, sound_limit}

-- ---- nothing added

abbrev nothing : Interval
nothing = record { lo = Some (pos 0); hi = Some (pos 0) }

pub nothing-is : ratio_of (pos 0) 1 ≡ nothing
nothing-is = ratio_of-one (pos 0) (lit< tt) ∙ ap (λ (z : ℤ). record { lo = Some z; hi = Some z }) (zero-*ℤ (pos unit))

nothing-tenth : ratio_of (pos 0) 10 ≡ nothing
unfolding unit
nothing-tenth = ratio_of-small (pos 0) 10 (lit< tt)

-- two ends that are so small that nothing is lost where they are added
pub record AreSmall (i : Interval) : Type 0 where
  pub lo : IsEnd i.lo
  pub hi : IsEnd i.hi

abs-between : (z : ℤ) → neg_ℤ (pos (2 ^ 120)) ≤ℤ z → z ≤ℤ pos (2 ^ 120) → unsigned_abs z < 2 ^ 126
abs-between (pos n) low high = omega (arith, ints, high)
abs-between (negsuc n) low high = omega (arith, ints, low)

small-end : (l h : ℤ) (end : Option ℤ) → IsBetween l h end → neg_ℤ (pos (2 ^ 120)) ≤ℤ l → h ≤ℤ pos (2 ^ 120) → IsEnd end
small-end l h None p low high = absurd p
small-end l h (Some z) p low high = abs-between z (omega (arith, ints, p.0, low)) (omega (arith, ints, p.1, high))

pub are-small : (l h : ℤ) (i : Interval) → AreBetween l h i → neg_ℤ (pos (2 ^ 120)) ≤ℤ l → h ≤ℤ pos (2 ^ 120) → AreSmall i
are-small l h i p low high = record { lo = small-end l h i.lo p.lo low high; hi = small-end l h i.hi p.hi low high }

end-and-nothing : (end : Option ℤ) → IsEnd end → sum_of_ends end (Some (pos 0)) ≡ end
end-and-nothing None is = refl
end-and-nothing (Some z) is = rw (+ℤ_idr z) (end_of-small z is)

nothing-and-end : (end : Option ℤ) → IsEnd end → sum_of_ends (Some (pos 0)) end ≡ end
nothing-and-end None is = refl
nothing-and-end (Some z) is = rw (+ℤ_idl z) (end_of-small z is)

abbrev ends : Option ℤ → Option ℤ → Interval
ends lo hi = record { lo = lo; hi = hi }

pub and-nothing : (i : Interval) → AreSmall i → add_of i (ratio_of (pos 0) 10) ≡ i
unfolding add_of
and-nothing i is =
    rw nothing-tenth (ap (λ (e : Option ℤ). ends e (sum_of_ends i.hi (Some (pos 0)))) (end-and-nothing i.lo is.lo) ∙ ap (ends i.lo) (end-and-nothing i.hi is.hi))

-- and so it is less nothing
pub less-nothing : (i : Interval) → AreSmall i → add_of i (neg_of (ratio_of (pos 0) 1)) ≡ i
unfolding add_of neg_of
less-nothing i is =
    rw nothing-is (ap (λ (e : Option ℤ). ends e (sum_of_ends i.hi (Some (pos 0)))) (end-and-nothing i.lo is.lo) ∙ ap (ends i.lo) (end-and-nothing i.hi is.hi))

-- nothing by its ends
pub nothing-by-ends : (i : Interval) → i.lo ≡ Some (pos 0) → i.hi ≡ Some (pos 0) → i ≡ ratio_of (pos 0) 1
nothing-by-ends i low high = ap (λ (e : Option ℤ). ends e i.hi) low ∙ ap (ends (Some (pos 0))) high ∙ sym nothing-is

pub nothing-and : (i : Interval) → AreSmall i → add_of (ratio_of (pos 0) 1) i ≡ i
unfolding add_of
nothing-and i is =
    rw nothing-is (ap (λ (e : Option ℤ). ends e (sum_of_ends (Some (pos 0)) i.hi)) (nothing-and-end i.lo is.lo) ∙ ap (ends i.lo) (nothing-and-end i.hi is.hi))

-- and nothing more
pub nothing-more : (i : Interval) → IsSmall i → i ≡ add_of i (ratio_of (pos 0) 1)
unfolding add_of
nothing-more i is =
    let small = are-small _ _ i is (omega (arith, ints)) (omega (arith, ints)) in
    rw nothing-is (sym (ap (λ (e : Option ℤ). ends e (sum_of_ends i.hi (Some (pos 0)))) (end-and-nothing i.lo small.lo) ∙ ap (ends i.lo) (end-and-nothing i.hi small.hi)))

-- an energy and nothing else
pub nothing-and-energy : (e : Interval) → IsSumOf 1 e → add_of (ratio_of (pos 0) 1) e ≡ e
nothing-and-energy e is = nothing-and e (are-small _ _ e is (omega (arith, ints)) (omega (arith, ints)))

-- ---- bounds of sums

pub no-sum : (count : ℕ) → IsSumOf count (ratio_of (pos 0) 1)
no-sum count = rw nothing-is (record { lo = (omega (arith, ints), omega (arith, ints)); hi = (omega (arith, ints), omega (arith, ints)) })

sum-bounded : (m n : ℕ) (x y : Option ℤ) → m + n < 2 ^ 18 → IsBetween (pos 0) (pos (m * sound_limit)) x → IsBetween (pos 0) (pos (n * sound_limit)) y → IsBetween (pos 0) (pos ((m + n) * sound_limit)) (sum_of_ends x y)
sum-bounded m n None y few p q = absurd p
sum-bounded m n (Some x) None few p q = absurd q
sum-bounded m n (Some x) (Some y) few p q =
    rw (end_of-small (x +ℤ y) (abs-between (x +ℤ y) (omega (arith, ints, p.0, q.0)) (omega (arith, ints, p.1, q.1, few)))) (omega (arith, ints, p.0, q.0), omega (arith, ints, p.1, q.1))

-- sums of the energies of fewer than 2^18 sounds
pub sums-added : (a b : Interval) (m n : ℕ) → m + n < 2 ^ 18 → IsSumOf m a → IsSumOf n b → IsSumOf (m + n) (add_of a b)
unfolding add_of
sums-added a b m n few p q = record { lo = sum-bounded m n a.lo b.lo few p.lo q.lo; hi = sum-bounded m n a.hi b.hi few p.hi q.hi }

-- a sum of fewer is one of more
more-end : (n : ℕ) (end : Option ℤ) → IsBetween (pos 0) (pos (n * sound_limit)) end → IsBetween (pos 0) (pos ((n + 1) * sound_limit)) end
more-end n None h = absurd h
more-end n (Some z) h = (h.0, omega (arith, ints, h.1))

pub more-sounds : (n : ℕ) (e : Interval) → IsSumOf n e → IsSumOf (n + 1) e
more-sounds n e h = record { lo = more-end n e.lo h.lo; hi = more-end n e.hi h.hi }

up-to-end : (m n : ℕ) (end : Option ℤ) → m ≤ n → IsBetween (pos 0) (pos (m * sound_limit)) end → IsBetween (pos 0) (pos (n * sound_limit)) end
up-to-end m n None few h = absurd h
up-to-end m n (Some z) few h = (h.0, omega (arith, ints, h.1, few))

pub up-to : (m n : ℕ) (e : Interval) → m ≤ n → IsSumOf m e → IsSumOf n e
up-to m n e few h = record { lo = up-to-end m n e.lo few h.lo; hi = up-to-end m n e.hi few h.hi }

-- ---- sums of lists

-- the interval of a sum is the sum of the intervals
pub sum-of-intervals : (t : Tree) (ts : List Tree) (es : List Interval) → es ≡ map enc ts → enc (fold Add t (map Known es)) ≡ enc (fold Add t ts)
sum-of-intervals t ts es is = ap (λ (xs : List Interval). enc (fold Add t (map Known xs))) is ∙ known t t ts refl where
  known : (t u : Tree) (ts : List Tree) → enc t ≡ enc u → enc (fold Add t (map Known (map enc ts))) ≡ enc (fold Add u ts)
  known t u [] is = is
  known t u (x ∷ xs) is = known (Add t (Known (enc x))) (Add u x) xs (ap (λ (i : Interval). add_of i (enc x)) is)

abbrev pub summed : {X : Type 0} → (X → Interval) → List X → Interval
summed f xs = enc (sum_form (map (λ x. Known (f x)) xs))

sum-more : {X : Type 0} (f : X → Interval) (t : Tree) (xs : List X) (x : X) → enc (fold Add t (map (λ x. Known (f x)) (xs ++ x ∷ []))) ≡ add_of (enc (fold Add t (map (λ x. Known (f x)) xs))) (f x)
sum-more f t [] x = refl
sum-more f t (y ∷ ys) x = sum-more f (Add t (Known (f y))) ys x

-- the sum of one item more
pub next-sum : {X : Type 0} (f : X → Interval) (xs : List X) (i : ℕ) (x : X) (before after e : Interval) → i < length xs → x ≡ get_or xs i x → before ≡ summed f (take i xs) → e ≡ f x → after ≡ add_of before e → after ≡ summed f (take (i + 1) xs)
next-sum f xs i x before after e below item before-is e-is after-is =
    after-is ∙ ap (λ (j : Interval). add_of j e) before-is ∙ ap (add_of (summed f (take i xs))) e-is
    ∙ sym (sum-more f (Const (pos 0) 1) (take i xs) x)
    ∙ ap (summed f) (sym (take_more xs i x below ∙ ap (λ y. take i xs ++ y ∷ []) (sym item)))

known-map : {X : Type 0} (f : X → Interval) (xs : List X) → map Known (map f xs) ≡ map (λ x. Known (f x)) xs
known-map f [] = refl
known-map f (x ∷ xs) = ap (λ ts. Known (f x) ∷ ts) (known-map f xs)

pub sum-of-map : {X : Type 0} (f : X → Interval) (xs : List X) → enc (sum_form (map Known (map f xs))) ≡ summed f xs
sum-of-map f xs = ap (λ ts. enc (sum_form ts)) (known-map f xs)

-- ---- room for one bundle more

end-units-by : (b : Bool) (z : ℤ) (n : ℕ) → unsigned_abs z ≤ n → units_of (if b then Some z else None) ≤ n
end-units-by true z n h = h
end-units-by false z n h = omega arith

abs-sum : (x y : ℤ) → unsigned_abs (x +ℤ y) ≤ unsigned_abs x + unsigned_abs y
abs-sum x y = omega (arith, ints)

units-added : (x y : Option ℤ) → units_of (sum_of_ends x y) ≤ units_of x + units_of y
units-added None y = omega arith
units-added (Some x) None = omega arith
units-added (Some x) (Some y) = end-units-by (is_small (x +ℤ y)) (x +ℤ y) (unsigned_abs x + unsigned_abs y) (abs-sum x y)

units-below : (end : Option ℤ) → IsSomeAnd end (λ z. (pos 0 ≤ℤ z) × (z <ℤ pos energy_limit)) → units_of end < energy_limit
units-below None p = absurd p
units-below (Some (pos n)) p = omega (arith, ints, p.1)
units-below (Some (negsuc n)) p = absurd (omega (arith, ints, p.0))

-- how much a sum of so many energies may be
pub record IsCounted {X : Type 0} (f : X → Interval) (xs : List X) (count : ℕ) (sum : Interval) : Type 0 where
  pub each : units_of sum.hi ≤ count * (energy_limit - 1)
  pub items : units_of sum.hi ≤ sum_by (λ x. units_of (f x).hi) (take count xs)

pub none-counted : {X : Type 0} (f : X → Interval) (xs : List X) → IsCounted f xs 0 (ratio_of (pos 0) 1)
none-counted f xs = rw nothing-is (record { each = omega arith; items = omega arith })

pub one-counted : {X : Type 0} (f : X → Interval) (xs : List X) (i : ℕ) (x : X) (before after e : Interval) → i < length xs → x ≡ get_or xs i x → IsCounted f xs i before → e ≡ f x → IsEnergy e → after ≡ add_of before e → IsCounted f xs (i + 1) after
unfolding add_of
one-counted f xs i x before after e below item is e-is energy after-is =
    subst (IsCounted f xs (i + 1)) (sym after-is) (record {
      each = omega (arith, units-added before.hi e.hi, units-below e.hi energy.high, is.each);
      items = rw (sum_by_more (λ x. units_of (f x).hi) xs i x below) (
          let value : units_of e.hi ≡ units_of (f (get_or xs i x)).hi = ap (λ (j : Interval). units_of j.hi) e-is ∙ ap (λ y. units_of (f y).hi) item in
          omega (arith, units-added before.hi e.hi, is.items, value));
    })

pub room : {X : Type 0} (f : X → Interval) (xs : List X) (i : ℕ) (x : X) (before e : Interval) → i < length xs → x ≡ get_or xs i x → IsCounted f xs i before → e ≡ f x → IsEnergy e → (length xs ≤ few_bundles) ⊎ (sum_by (λ x. units_of (f x).hi) xs < 2 ^ 126) → units_of before.hi + units_of e.hi < 2 ^ 126
room f xs i x before e below item is e-is energy (inl few) = omega (arith, units-below e.hi energy.high, is.each, below, few)
room f xs i x before e below item is e-is energy (inr fits) =
    let value : units_of e.hi ≡ units_of (f (get_or xs i x)).hi = ap (λ (j : Interval). units_of j.hi) e-is ∙ ap (λ y. units_of (f y).hi) item in
    omega (arith, is.items, value, sum_by_more_le (λ x. units_of (f x).hi) xs i x below, fits)

-- the interval of a sum is that of another whose items have the same intervals, as they come of the intervals of some
-- formulas and of the formulas themselves
sums-from : (f : Interval → Tree) (g : Tree → Tree) → ((t : Tree) → enc (f (enc t)) ≡ enc (g t)) → (x y : Tree) → enc x ≡ enc y → (ts : List Tree)
    → enc (fold Add x (map f (map enc ts))) ≡ enc (fold Add y (map g ts))
sums-from f g same x y e [] = e
sums-from f g same x y e (t ∷ ts) =
    sums-from f g same (Add x (f (enc t))) (Add y (g t)) (ap (λ (i : Interval). add_of i (enc (f (enc t)))) e ∙ ap (add_of (enc y)) (same t)) ts

pub same-sums : (f : Interval → Tree) (g : Tree → Tree) → ((t : Tree) → enc (f (enc t)) ≡ enc (g t)) → (ts : List Tree)
    → enc (sum_form (map f (map enc ts))) ≡ enc (sum_form (map g ts))
same-sums f g same ts = sums-from f g same (Const (pos 0) 1) (Const (pos 0) 1) refl ts

one-from : {X : Type 0} (f : X → Tree) (t : Tree) (xs : List X) (x : X) → enc (fold Add t (map f (xs ++ x ∷ []))) ≡ add_of (enc (fold Add t (map f xs))) (enc (f x))
one-from f t [] x = refl
one-from f t (y ∷ ys) x = one-from f (Add t (f y)) ys x

-- a sum that began with some formula, with one more
pub next-from : {X : Type 0} (f : X → Tree) (start : Tree) (xs : List X) (i : ℕ) (x : X) (before after : Interval) → i < length xs → x ≡ get_or xs i x
    → before ≡ enc (fold Add start (map f (take i xs))) → after ≡ add_of before (enc (f x)) → after ≡ enc (fold Add start (map f (take (i + 1) xs)))
next-from f start xs i x before after below item before-is after-is =
    after-is ∙ ap (λ (j : Interval). add_of j (enc (f x))) before-is
    ∙ sym (one-from f start (take i xs) x)
    ∙ ap (λ ys. enc (fold Add start (map f ys))) (sym (take_more xs i x below ∙ ap (λ y. take i xs ++ y ∷ []) (sym item)))

-- an energy where it counts, and else another
low-picked : (m : ℤ) (x y : Option ℤ) → IsBetween (pos 0) m x → IsBetween (pos 0) m y → IsBetween (pos 0) m (lesser_low x y)
low-picked m None y p q = absurd p
low-picked m (Some x) None p q = absurd q
low-picked m (Some x) (Some y) p q = grind (arith, ints)

high-picked : (m : ℤ) (x y : Option ℤ) → IsBetween (pos 0) m x → IsBetween (pos 0) m y → IsBetween (pos 0) m (greater_high x y)
high-picked m None y p q = absurd p
high-picked m (Some x) None p q = absurd q
high-picked m (Some x) (Some y) p q = grind (arith, ints)

pub picked : (truth : Truth) (a b : Interval) (n : ℕ) → IsSumOf n a → IsSumOf n b → IsSumOf n (pick_of truth a b)
unfolding pick_of hull_of
picked Sure a b n p q = p
picked Never a b n p q = q
picked Unsure a b n p q = record { lo = low-picked (pos (n * sound_limit)) a.lo b.lo p.lo q.lo; hi = high-picked (pos (n * sound_limit)) a.hi b.hi p.hi q.hi }

-- the sum of the energies of one sound, and of more where there are more
pub sound-and-more : (f : Interval → Tree) (over : Interval) (left right : Option Interval) (e : Interval) → IsSumOf 1 (enc (f over))
    → e ≡ with_energy (with_energy (enc (f over)) (option_map (λ i. enc (f i)) left)) (option_map (λ i. enc (f i)) right)
    → e ≡ enc (sum_form (map f (over ∷ (listed left ++ listed right))))
sound-and-more f over None None e h is = is ∙ sym (nothing-and-energy (enc (f over)) h)
sound-and-more f over None (Some r) e h is = is ∙ ap (λ (i : Interval). add_of i (enc (f r))) (sym (nothing-and-energy (enc (f over)) h))
sound-and-more f over (Some l) None e h is = is ∙ ap (λ (i : Interval). add_of i (enc (f l))) (sym (nothing-and-energy (enc (f over)) h))
sound-and-more f over (Some l) (Some r) e h is =
    is ∙ ap (λ (i : Interval). add_of (add_of i (enc (f l))) (enc (f r))) (sym (nothing-and-energy (enc (f over)) h))
