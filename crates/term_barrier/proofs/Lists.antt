-- Lists of pairs, of marked things and of numbered things.
use Rattle.std.proofs.Common.{◌≡◌, ℕ, zero, suc, ap, refl, ◌∙◌, Bool, true, false, List, [], ◌∷◌, ◌++◌, map, drop}
use Rattle.std.specs.Prelude.{filter, flat_map, ◌&&◌, if◌then◌else◌, Option, Some, None, slice_get}
use Rattle.std.proofs.lemmas.List.{map-append}
use Rattle.std.proofs.lemmas.List.Elements.{filter-append}
use Rattle.term_barrier.specs.Screening.{marked, both_ways, pairs_of}
use Rattle.term_barrier.specs.inner.Prepared.{is_marked}

-- ---- maps and filters

pub map-map : {A B C : Type 0} (g : B → C) (f : A → B) (xs : List A) → map g (map f xs) ≡ map (λ x. g (f x)) xs
map-map g f [] = refl
map-map g f (x ∷ xs) = ap (λ ys. g (f x) ∷ ys) (map-map g f xs)

pub map-same : {A B : Type 0} (f g : A → B) → ((x : A) → f x ≡ g x) → (xs : List A) → map f xs ≡ map g xs
map-same f g same [] = refl
map-same f g same (x ∷ xs) = rw (same x, map-same f g same xs) refl

pub filter-map : {A B : Type 0} (p : B → Bool) (f : A → B) (xs : List A) → filter p (map f xs) ≡ map f (filter (λ x. p (f x)) xs)
filter-map p f [] = refl
filter-map p f (x ∷ xs) = by_test (p (f x)) refl (filter-map p f xs) where
  by_test : (test : Bool) → p (f x) ≡ test → filter p (map f xs) ≡ map f (filter (λ x. p (f x)) xs) → filter p (map f (x ∷ xs)) ≡ map f (filter (λ x. p (f x)) (x ∷ xs))
  by_test true e h = rw (e, h) refl
  by_test false e h = rw (e, h) refl

-- ---- pairs

-- both of a pair pass a test
abbrev pub both : {A : Type 0} → (A → Bool) → A × A → Bool
both p pair = p pair.0 && p pair.1

-- both of a pair changed
abbrev pub each : {A B : Type 0} → (A → B) → A × A → B × B
each f pair = (f pair.0, f pair.1)

kept-with : {A : Type 0} (p : A → Bool) (a : A) (xs : List A) → p a ≡ true → filter (both p) (flat_map (both_ways a) xs) ≡ flat_map (both_ways a) (filter p xs)
kept-with p a [] e = refl
kept-with p a (x ∷ xs) e = by_test (p x) refl (kept-with p a xs e) where
  by_test : (test : Bool) → p x ≡ test → filter (both p) (flat_map (both_ways a) xs) ≡ flat_map (both_ways a) (filter p xs)
      → filter (both p) (flat_map (both_ways a) (x ∷ xs)) ≡ flat_map (both_ways a) (filter p (x ∷ xs))
  by_test true f h = rw (e, f, h) refl
  by_test false f h = rw (e, f, h) refl

dropped-with : {A : Type 0} (p : A → Bool) (a : A) (xs : List A) → p a ≡ false → filter (both p) (flat_map (both_ways a) xs) ≡ []
dropped-with p a [] e = refl
dropped-with p a (x ∷ xs) e = by_test (p x) refl (dropped-with p a xs e) where
  by_test : (test : Bool) → p x ≡ test → filter (both p) (flat_map (both_ways a) xs) ≡ [] → filter (both p) (flat_map (both_ways a) (x ∷ xs)) ≡ []
  by_test true f h = rw (e, f, h) refl
  by_test false f h = rw (e, f, h) refl

-- the pairs of those that pass are the pairs of which both pass
pub filter-pairs : {A : Type 0} (p : A → Bool) (xs : List A) → filter (both p) (pairs_of xs) ≡ pairs_of (filter p xs)
filter-pairs p [] = refl
filter-pairs p (x ∷ xs) =
    filter-append (both p) (flat_map (both_ways x) xs) (pairs_of xs) ∙ by_test (p x) refl (filter-pairs p xs)
  where
    by_test : (test : Bool) → p x ≡ test → filter (both p) (pairs_of xs) ≡ pairs_of (filter p xs)
        → filter (both p) (flat_map (both_ways x) xs) ++ filter (both p) (pairs_of xs) ≡ pairs_of (filter p (x ∷ xs))
    by_test true e h = rw (kept-with p x xs e, h, e) refl
    by_test false e h = rw (dropped-with p x xs e, h, e) refl

map-with : {A B : Type 0} (f : A → B) (a : A) (xs : List A) → map (each f) (flat_map (both_ways a) xs) ≡ flat_map (both_ways (f a)) (map f xs)
map-with f a [] = refl
map-with f a (x ∷ xs) = rw (map-with f a xs) refl

pub map-pairs : {A B : Type 0} (f : A → B) (xs : List A) → map (each f) (pairs_of xs) ≡ pairs_of (map f xs)
map-pairs f [] = refl
map-pairs f (x ∷ xs) =
    map-append (each f) (flat_map (both_ways x) xs) (pairs_of xs) ∙ rw (map-with f x xs, map-pairs f xs) refl

-- ---- marks

pub marked-map : {A B : Type 0} (f : A → B) (marks : List Bool) (xs : List A) → marked marks (map f xs) ≡ map f (marked marks xs)
marked-map f [] xs = refl
marked-map f (mark ∷ marks) [] = refl
marked-map f (true ∷ marks) (x ∷ xs) = ap (λ ys. f x ∷ ys) (marked-map f marks xs)
marked-map f (false ∷ marks) (x ∷ xs) = marked-map f marks xs

pub marked-none : {A : Type 0} (marks : List Bool) → marked {A = A} marks [] ≡ []
marked-none [] = refl
marked-none (mark ∷ marks) = refl

pub drop-get : {A : Type 0} (xs : List A) (i : ℕ) (x : A) → slice_get xs i ≡ Some x → drop i xs ≡ x ∷ drop (suc i) xs
drop-get [] i x e = cc
drop-get (y ∷ xs) zero x e = cc
drop-get (y ∷ xs) (suc i) x e = drop-get xs i x e

pub drop-none : {A : Type 0} (xs : List A) (i : ℕ) → slice_get xs i ≡ None → drop i xs ≡ []
drop-none [] zero e = refl
drop-none [] (suc i) e = refl
drop-none (y ∷ xs) zero e = cc
drop-none (y ∷ xs) (suc i) e = drop-none xs i e

drop-later : {A : Type 0} (xs : List A) (i : ℕ) → slice_get xs i ≡ None → drop (suc i) xs ≡ []
drop-later [] zero e = refl
drop-later [] (suc i) e = refl
drop-later (y ∷ xs) zero e = cc
drop-later (y ∷ xs) (suc i) e = drop-later xs i e

-- the first of some things counts where it is marked
pub marked-step : {A : Type 0} (marks : List Bool) (i : ℕ) (x : A) (xs : List A)
    → marked (drop i marks) (x ∷ xs) ≡ (if is_marked marks i then x ∷ marked (drop (suc i) marks) xs else marked (drop (suc i) marks) xs)
marked-step marks i x xs = by_mark (slice_get marks i) refl where
  by_mark : (mark : Option Bool) → slice_get marks i ≡ mark
      → marked (drop i marks) (x ∷ xs) ≡ (if is_marked marks i then x ∷ marked (drop (suc i) marks) xs else marked (drop (suc i) marks) xs)
  by_mark None e = rw (drop-none marks i e, e, drop-later marks i e) refl
  by_mark (Some mark) e = rw (drop-get marks i mark e, e) refl
