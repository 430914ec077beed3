-- What is made of the sources within reach, one source of the scene after another.
use Rattle.std.proofs.Common.{◌≡◌, ℕ, ◌+◌, ◌<◌, ◌≤◌, Bool, true, false, List, [], ◌∷◌, ◌++◌, length, map, flat_map, get_or, take, refl, sym, ap, subst, ◌∙◌, arith, zero-add}
use Rattle.std.proofs.lemmas.List.Sums.{sum_by-cons, sum_by_more_le}
use Rattle.std.specs.Prelude.{filter, sum_by, count_by, if◌then◌else◌}

pub flat-within : {X Y : Type 0} (p : X → Bool) (f : X → Y) (xs : List X) → flat_map (λ x. if p x then f x ∷ [] else []) xs ≡ map f (filter p xs)
flat-within p f [] = refl
flat-within {X} {Y} p f (x ∷ xs) = ap (λ ys. (if p x then f x ∷ [] else []) ++ ys) (flat-within p f xs) ∙ next (p x) where
  next : (test : Bool) → (if test then f x ∷ [] else []) ++ map f (filter p xs) ≡ map f (if test then x ∷ filter p xs else filter p xs)
  next true = refl
  next false = refl

pub count-within : {X : Type 0} (p q : X → Bool) (xs : List X) → sum_by (λ x. if p x then (if q x then 1 else 0) else 0) xs ≡ count_by q (filter p xs)
count-within p q [] = refl
count-within {X} p q (x ∷ xs) =
    sum_by-cons (λ y. if p y then (if q y then 1 else 0) else 0) x xs
    ∙ (ap (λ n. (if p x then (if q x then 1 else 0) else 0) + n) (count-within p q xs) ∙ next (p x)) where
      next : (test : Bool) → (if test then (if q x then 1 else 0) else 0) + count_by q (filter p xs) ≡ count_by q (if test then x ∷ filter p xs else filter p xs)
      next true = sym (sum_by-cons (λ y. if q y then 1 else 0) x (filter p xs))
      next false = zero-add (count_by q (filter p xs))

pub few-within : {X Y : Type 0} (p : X → Bool) (f : X → Y) (xs : List X) → length (map f (filter p xs)) ≤ length xs
few-within p f [] = omega arith
few-within {X} {Y} p f (x ∷ xs) = next (p x) (few-within p f xs) where
  next : (test : Bool) → length (map f (filter p xs)) ≤ length xs → length (map f (if test then x ∷ filter p xs else filter p xs)) ≤ length (x ∷ xs)
  next true h = omega arith
  next false h = omega arith

-- what is counted up to an element, and of that, is no more than what is counted of all
pub count-so-far : {X : Type 0} (f : X → ℕ) (xs : List X) (i : ℕ) (x : X) (old so-far new total : ℕ) → x ≡ get_or xs i x → i < length xs
    → so-far ≡ old + sum_by f (take i xs) → new ≡ so-far + f x → sum_by f xs ≡ total → new ≤ old + total
count-so-far f xs i x old so-far new total at below counted now all =
    let with_it : sum_by f (take i xs) + f x ≤ sum_by f xs = subst (λ y. sum_by f (take i xs) + f y ≤ sum_by f xs) (sym at) (sum_by_more_le f xs i x below) in
    omega (arith, counted, now, all, with_it)
