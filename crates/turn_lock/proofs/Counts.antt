-- Sums over all views, of which one changes.
use Rattle.std.proofs.Common.{◌≡◌, ◌≢◌, ℕ, zero, suc, ◌+◌, ◌≤◌, ◌<◌, eqb, cond, List, [], ◌∷◌, map, set, refl, sym, ap, subst, ⊎_elim, arith, eq-eqb}
use Rattle.std.specs.Prelude.{sum_by, count_by, All, AllPairs}
use Rattle.std.proofs.lemmas.List.Sums.{sum_by-cons}
use Rattle.std.proofs.lemmas.List.Elements.{All-nil, All-cons, All-map}
use Rattle.std.proofs.lemmas.List.Kept.{AllPairs-cons}
use mathlib.Core.Logic.{dite}
use native.Mathlib.Decide.{ℕ_discrete}
use mathlib.Core.Option.{some, some-injective, some-ne-none}
use lib.ListN.{get_elem?}

module _ {A : Type 0} (f : A → ℕ) where
  pub sum_set : (l : List A) (i : ℕ) (v w : A) → get_elem? l i ≡ some v → sum_by f (set l i w) + f v ≡ sum_by f l + f w
  sum_set [] i v w e = absurd (some-ne-none v (sym e))
  sum_set (x ∷ xs) zero v w e =
      let is : f x ≡ f v = ap f (some-injective x v e) in omega (arith, sum_by-cons f w xs, sum_by-cons f x xs)
  sum_set (x ∷ xs) (suc i) v w e =
      let r = sum_set xs i v w e in omega (arith, sum_by-cons f x (set xs i w), sum_by-cons f x xs)

  -- where f is the same of the old and the new
  pub sum_same : (l : List A) (i : ℕ) (v w : A) → get_elem? l i ≡ some v → f w ≡ f v → sum_by f (set l i w) ≡ sum_by f l
  sum_same l i v w e same = omega (arith, sum_set l i v w e)

  pub one_below : (l : List A) (i : ℕ) (v : A) → get_elem? l i ≡ some v → f v ≤ sum_by f l
  one_below [] i v e = absurd (some-ne-none v (sym e))
  one_below (x ∷ xs) zero v e = let is : f x ≡ f v = ap f (some-injective x v e) in omega (arith, sum_by-cons f x xs)
  one_below (x ∷ xs) (suc i) v e = let r = one_below xs i v e in omega (arith, sum_by-cons f x xs)

  pub two_below : (l : List A) (i j : ℕ) (v w : A) → i ≢ j → get_elem? l i ≡ some v → get_elem? l j ≡ some w → f v + f w ≤ sum_by f l
  two_below [] i j v w ne e d = absurd (some-ne-none v (sym e))
  two_below (x ∷ xs) zero zero v w ne e d = absurd (ne refl)
  two_below (x ∷ xs) zero (suc j) v w ne e d =
      let is : f x ≡ f v = ap f (some-injective x v e) in let r = one_below xs j w d in omega (arith, sum_by-cons f x xs)
  two_below (x ∷ xs) (suc i) zero v w ne e d =
      let is : f x ≡ f w = ap f (some-injective x w d) in let r = one_below xs i v e in omega (arith, sum_by-cons f x xs)
  two_below (x ∷ xs) (suc i) (suc j) v w ne e d =
      let r = two_below xs i j v w (λ h. ne (ap suc h)) e d in omega (arith, sum_by-cons f x xs)

  -- a sum that is not 0 has a term that is not 0
  pub one_there : (l : List A) → 0 < sum_by f l → (i : ℕ) × (v : A) × (get_elem? l i ≡ some v) × (0 < f v)
  one_there [] h = absurd (omega arith)
  one_there (x ∷ xs) h = dite (ℕ_discrete (f x) 0)
      (λ none_here. let r = one_there xs (omega (arith, sum_by-cons f x xs)) in (suc r.0, r.1, r.2, r.3))
      (λ some_here. (0, x, refl, omega arith))

module _ {A : Type 0} where
  -- what holds of each element, after one was changed
  pub each_set : (P : A → Type 0) (l : List A) (i : ℕ) (w : A) → P w → ((j : ℕ) (u : A) → j ≢ i → get_elem? l j ≡ some u → P u) → (j : ℕ) (u : A) → get_elem? (set l i w) j ≡ some u → P u
  each_set P l i w mine others j u e =
      ⊎_elim (λ (t : (j ≡ i) × (w ≡ u)). subst P t.1 mine) (λ (t : (j ≢ i) × (get_elem? l j ≡ some u)). others j u t.0 t.1) (Rattle.atomic_table.proofs.Lists.at_set l i j w u e)

-- the numbers that stand in a list at most once all differ
pub differ_from_counts : {A : Type 0} (number : A → ℕ) (l : List A) → ((x : ℕ) → count_by (λ a. eqb (number a) x) l ≤ 1) → AllPairs ◌≢◌ (map number l)
differ_from_counts number [] h = λ i j d lt in_range. absurd (omega arith)
differ_from_counts {A} number (a ∷ l) h =
    AllPairs-cons ◌≢◌ (number a) (map number l)
    (All-map (λ y. number a ≢ y) number l (others l (none_left (h (number a)))))
    (differ_from_counts number l (λ x. fewer x (h x)))
  where
    fewer : (x : ℕ) → count_by (λ b. eqb (number b) x) (a ∷ l) ≤ 1 → count_by (λ b. eqb (number b) x) l ≤ 1
    fewer x le = omega (arith, sum_by-cons (λ b. cond (eqb (number b) x) 1 0) a l)

    none_left : count_by (λ b. eqb (number b) (number a)) (a ∷ l) ≤ 1 → count_by (λ b. eqb (number b) (number a)) l ≡ 0
    none_left le =
        let one : cond {A = ℕ} (eqb (number a) (number a)) 1 0 ≡ 1 = rw (eq-eqb (number a) (number a) refl) in
        omega (arith, sum_by-cons (λ b. cond (eqb (number b) (number a)) 1 0) a l)

    others : (m : List A) → count_by (λ b. eqb (number b) (number a)) m ≡ 0 → All (λ b. number a ≢ number b) m
    others [] none_there = All-nil (λ b. number a ≢ number b)
    others (b ∷ m) none_there =
        All-cons (λ c. number a ≢ number c) b m
        (λ same. let one : cond {A = ℕ} (eqb (number b) (number a)) 1 0 ≡ 1 = rw (eq-eqb (number b) (number a) (sym same)) in
        absurd (omega (arith, sum_by-cons (λ c. cond (eqb (number c) (number a)) 1 0) b m)))
        (others m (omega (arith, sum_by-cons (λ c. cond (eqb (number c) (number a)) 1 0) b m)))
