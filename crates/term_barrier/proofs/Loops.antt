-- The greatest of what a walk along a list finds: a step of the walk.
use Rattle.std.proofs.Common.{◌≡◌, ℕ, ◌+◌, ◌<◌, ◌≤◌, add-one, Bool, true, false, List, [], ◌∷◌, length, map, drop, ap, sym, refl, ◌∙◌, get_or}
use Rattle.std.specs.Prelude.{filter, flat_map, Option}
use Rattle.std.proofs.lemmas.List.{drop_more, drop_all, map-append}
use Rattle.fix_interval.specs.Interval.{Interval}
use Rattle.term_barrier.specs.Screening.{marked, both_ways, pairs_of}
use Rattle.term_barrier.specs.inner.Prepared.{max_with_of, greatest_from, is_marked}
use Rattle.term_barrier.proofs.Lists.{marked-none, marked-step}
use Rattle.term_barrier.proofs.Greatest.{greatest-append}

pub drop-item : {A : Type 0} (xs : List A) (i : ℕ) (x : A) → i < length xs → x ≡ get_or xs i x → drop i xs ≡ x ∷ drop (i + 1) xs
drop-item xs i x below is = drop_more xs i x below ∙ ap (λ y. y ∷ drop (i + 1) xs) (sym is)

-- one that counts, one that doesn't, and one of a list whose items all count
pub kept-step : {A : Type 0} (f : A → Interval) (p : A → Bool) (x : A) (here next : List A) (best more total : Option Interval)
    → here ≡ x ∷ next → p x ≡ true → more ≡ max_with_of best (f x)
    → greatest_from best (map f (filter p here)) ≡ total → greatest_from more (map f (filter p next)) ≡ total
kept-step f p x here next best more total e t m h = rw m (rw (e, t) at h)

pub left-step : {A : Type 0} (f : A → Interval) (p : A → Bool) (x : A) (here next : List A) (best more total : Option Interval)
    → here ≡ x ∷ next → p x ≡ false → more ≡ best
    → greatest_from best (map f (filter p here)) ≡ total → greatest_from more (map f (filter p next)) ≡ total
left-step f p x here next best more total e t m h = rw m (rw (e, t) at h)

pub every-step : {A : Type 0} (f : A → Interval) (x : A) (here next : List A) (best more total : Option Interval)
    → here ≡ x ∷ next → more ≡ max_with_of best (f x)
    → greatest_from best (map f here) ≡ total → greatest_from more (map f next) ≡ total
every-step f x here next best more total e m h = rw m (rw e at h)

-- all pairs of the first item, where it counts
pub kept-pairs : {A : Type 0} (f : A × A → Interval) (p : A → Bool) (x : A) (here next : List A) (best more total : Option Interval)
    → here ≡ x ∷ next → p x ≡ true → more ≡ greatest_from best (map f (flat_map (both_ways x) (filter p next)))
    → greatest_from best (map f (pairs_of (filter p here))) ≡ total → greatest_from more (map f (pairs_of (filter p next))) ≡ total
kept-pairs f p x here next best more total e t m h =
    rw m (sym (greatest-append best (map f (flat_map (both_ways x) (filter p next))) (map f (pairs_of (filter p next))))
    ∙ ap (greatest_from best) (sym (map-append f (flat_map (both_ways x) (filter p next)) (pairs_of (filter p next))))
    ∙ (rw (e, t) at h))

pub left-pairs : {A : Type 0} (f : A × A → Interval) (p : A → Bool) (x : A) (here next : List A) (best more total : Option Interval)
    → here ≡ x ∷ next → p x ≡ false → more ≡ best
    → greatest_from best (map f (pairs_of (filter p here))) ≡ total → greatest_from more (map f (pairs_of (filter p next))) ≡ total
left-pairs f p x here next best more total e t m h = rw m (rw (e, t) at h)

-- the pairs of an item with the first of some, where that counts
pub kept-both : {A : Type 0} (f : A × A → Interval) (p : A → Bool) (x y : A) (here next : List A) (best more total : Option Interval)
    → here ≡ y ∷ next → p y ≡ true → more ≡ max_with_of (max_with_of best (f (x, y))) (f (y, x))
    → greatest_from best (map f (flat_map (both_ways x) (filter p here))) ≡ total
    → greatest_from more (map f (flat_map (both_ways x) (filter p next))) ≡ total
kept-both f p x y here next best more total e t m h = rw m (rw (e, t) at h)

pub left-both : {A : Type 0} (f : A × A → Interval) (p : A → Bool) (x y : A) (here next : List A) (best more total : Option Interval)
    → here ≡ y ∷ next → p y ≡ false → more ≡ best
    → greatest_from best (map f (flat_map (both_ways x) (filter p here))) ≡ total
    → greatest_from more (map f (flat_map (both_ways x) (filter p next))) ≡ total
left-both f p x y here next best more total e t m h = rw m (rw (e, t) at h)

-- of marked items: one that is marked, and one that isn't
pub marked-kept : {A : Type 0} (marks : List Bool) (xs : List A) (i : ℕ) (x : A) → drop i xs ≡ x ∷ drop (i + 1) xs → is_marked marks i ≡ true
    → marked (drop i marks) (drop i xs) ≡ x ∷ marked (drop (i + 1) marks) (drop (i + 1) xs)
marked-kept marks xs i x e t = rw e (marked-step marks i x (drop (i + 1) xs) ∙ rw (t, add-one) refl)

pub marked-left : {A : Type 0} (marks : List Bool) (xs : List A) (i : ℕ) (x : A) → drop i xs ≡ x ∷ drop (i + 1) xs → is_marked marks i ≡ false
    → marked (drop i marks) (drop i xs) ≡ marked (drop (i + 1) marks) (drop (i + 1) xs)
marked-left marks xs i x e t = rw e (marked-step marks i x (drop (i + 1) xs) ∙ rw (t, add-one) refl)

pub same-step : {A : Type 0} (f : List A → List Interval) (here next : List A) (best more total : Option Interval)
    → here ≡ next → more ≡ best → greatest_from best (f here) ≡ total → greatest_from more (f next) ≡ total
same-step f here next best more total e m h = rw m (rw e at h)

-- after the last
pub marked-end : {A : Type 0} (marks : List Bool) (xs : List A) (i : ℕ) → length xs ≤ i → marked (drop i marks) (drop i xs) ≡ []
marked-end marks xs i h = ap (marked (drop i marks)) (drop_all i xs h) ∙ marked-none (drop i marks)
