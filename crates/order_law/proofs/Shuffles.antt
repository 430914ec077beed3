-- Lists with the same members in any order.
use Rattle.std.proofs.Common.{◌≡◌, suc, ◌≤◌, arith, Bool, true, false, List, [], ◌∷◌, ◌++◌, length, map, filter, refl, ap, subst, ◌∙◌, inl, inr}
use Rattle.std.specs.Prelude.{Option, Some, None, flat_map, cond, ◌||◌, ◌&&◌}
use Rattle.std.specs.List.{list_any, list_all, filter_map}
use Rattle.scene_book.specs.Orders.{Shuffled, same, under, exchange, after}
use Rattle.edge_chain.proofs.Tight.{In}

-- each thing of a list keeps P
abbrev pub Each : {A : Type 0} → (A → Type 0) → List A → Type 0
Each P [] = Unit {0}
Each P (x ∷ xs) = P x × Each P xs

-- two tests in either order
either-order : (a b c : Bool) → (a || (b || c)) ≡ (b || (a || c))
either-order true true c = refl
either-order true false c = refl
either-order false b c = refl

both-order : (a b c : Bool) → (a && (b && c)) ≡ (b && (a && c))
both-order true b c = refl
both-order false true c = refl
both-order false false c = refl

module _ {A : Type 0} where
  pub turned : {xs ys : List A} → Shuffled xs ys → Shuffled ys xs
  turned (same xs) = same xs
  turned (under x h) = under x (turned h)
  turned (exchange x y xs) = exchange y x xs
  turned (after h k) = after (turned k) (turned h)

  pub length-shuffled : {xs ys : List A} → Shuffled xs ys → length xs ≡ length ys
  length-shuffled (same xs) = refl
  length-shuffled (under x h) = ap suc (length-shuffled h)
  length-shuffled (exchange x y xs) = refl
  length-shuffled (after h k) = length-shuffled h ∙ length-shuffled k

  pub in-shuffled : (z : A) {xs ys : List A} → Shuffled xs ys → In z xs → In z ys
  in-shuffled z (same xs) m = m
  in-shuffled z (under x h) (inl e) = inl e
  in-shuffled z (under x h) (inr m) = inr (in-shuffled z h m)
  in-shuffled z (exchange x y xs) (inl e) = inr (inl e)
  in-shuffled z (exchange x y xs) (inr (inl e)) = inl e
  in-shuffled z (exchange x y xs) (inr (inr m)) = inr (inr m)
  in-shuffled z (after h k) m = in-shuffled z k (in-shuffled z h m)

  pub each-shuffled : (P : A → Type 0) {xs ys : List A} → Shuffled xs ys → Each P xs → Each P ys
  each-shuffled P (same xs) all = all
  each-shuffled P (under x h) all = (all.0, each-shuffled P h all.1)
  each-shuffled P (exchange x y xs) all = (all.1.0, (all.0, all.1.1))
  each-shuffled P (after h k) all = each-shuffled P k (each-shuffled P h all)

  -- ---- tests

  pub any-shuffled : (test : A → Bool) {xs ys : List A} → Shuffled xs ys → list_any test xs ≡ list_any test ys
  any-shuffled test (same xs) = refl
  any-shuffled test (under x h) = ap (λ b. test x || b) (any-shuffled test h)
  any-shuffled test (exchange x y xs) = either-order (test x) (test y) (list_any test xs)
  any-shuffled test (after h k) = any-shuffled test h ∙ any-shuffled test k

  pub all-shuffled : (test : A → Bool) {xs ys : List A} → Shuffled xs ys → list_all test xs ≡ list_all test ys
  all-shuffled test (same xs) = refl
  all-shuffled test (under x h) = ap (λ b. test x && b) (all-shuffled test h)
  all-shuffled test (exchange x y xs) = both-order (test x) (test y) (list_all test xs)
  all-shuffled test (after h k) = all-shuffled test h ∙ all-shuffled test k

  -- ---- filters

  kept : (b : Bool) (x : A) {xs ys : List A} → Shuffled xs ys → Shuffled (cond b (x ∷ xs) xs) (cond b (x ∷ ys) ys)
  kept true x h = under x h
  kept false x h = h

  kept-exchange : (a b : Bool) (x y : A) (xs : List A) → Shuffled (cond a (x ∷ cond b (y ∷ xs) xs) (cond b (y ∷ xs) xs)) (cond b (y ∷ cond a (x ∷ xs) xs) (cond a (x ∷ xs) xs))
  kept-exchange true true x y xs = exchange x y xs
  kept-exchange true false x y xs = same (x ∷ xs)
  kept-exchange false true x y xs = same (y ∷ xs)
  kept-exchange false false x y xs = same xs

  pub filter-shuffled : (test : A → Bool) {xs ys : List A} → Shuffled xs ys → Shuffled (filter test xs) (filter test ys)
  filter-shuffled test (same xs) = same (filter test xs)
  filter-shuffled test (under x h) = kept (test x) x (filter-shuffled test h)
  filter-shuffled test (exchange x y xs) = kept-exchange (test x) (test y) x y (filter test xs)
  filter-shuffled test (after h k) = after (filter-shuffled test h) (filter-shuffled test k)

  -- ---- lists one after another

  pub append-first : {xs ys : List A} → Shuffled xs ys → (zs : List A) → Shuffled (xs ++ zs) (ys ++ zs)
  append-first (same xs) zs = same (xs ++ zs)
  append-first (under x h) zs = under x (append-first h zs)
  append-first (exchange x y xs) zs = exchange x y (xs ++ zs)
  append-first (after h k) zs = after (append-first h zs) (append-first k zs)

  pub append-second : (xs : List A) {ys zs : List A} → Shuffled ys zs → Shuffled (xs ++ ys) (xs ++ zs)
  append-second [] h = h
  append-second (x ∷ xs) h = under x (append-second xs h)

  pub append-shuffled : {xs ys us vs : List A} → Shuffled xs ys → Shuffled us vs → Shuffled (xs ++ us) (ys ++ vs)
  append-shuffled {ys = ys} {us = us} h k = after (append-first h us) (append-second ys k)

  -- a thing moved behind a list, and a list behind another
  moved-in : (x : A) (xs ys : List A) → Shuffled (x ∷ (xs ++ ys)) (xs ++ x ∷ ys)
  moved-in x [] ys = same (x ∷ ys)
  moved-in x (z ∷ xs) ys = after (exchange x z (xs ++ ys)) (under z (moved-in x xs ys))

  pub swapped : (xs ys zs : List A) → Shuffled (xs ++ (ys ++ zs)) (ys ++ (xs ++ zs))
  swapped [] ys zs = same (ys ++ zs)
  swapped (x ∷ xs) ys zs = after (under x (swapped xs ys zs)) (moved-in x ys (xs ++ zs))

-- ---- few things

-- at most 1,024 things, each of which keeps P
pub record AreFew {A : Type 0} (P : A → Type 0) (xs : List A) : Type 0 where
  pub count : length xs ≤ 1024
  pub each : Each P xs

pub length-filter : {X : Type 0} (test : X → Bool) (xs : List X) → length (filter test xs) ≤ length xs
length-filter test [] = omega arith
length-filter test (x ∷ xs) = by (test x) (length-filter test xs) where
  by : (b : Bool) → length (filter test xs) ≤ length xs → length (cond b (x ∷ filter test xs) (filter test xs)) ≤ length (x ∷ xs)
  by true h = omega (arith, h)
  by false h = omega (arith, h)

pub each-filter : {X : Type 0} (P : X → Type 0) (test : X → Bool) (xs : List X) → Each P xs → Each P (filter test xs)
each-filter P test [] h = tt
each-filter P test (x ∷ xs) h = by (test x) (each-filter P test xs h.1) where
  by : (b : Bool) → Each P (filter test xs) → Each P (cond b (x ∷ filter test xs) (filter test xs))
  by true k = (h.0, k)
  by false k = k

pub length-made : {X Y : Type 0} (f : X → Y) (xs : List X) → length (map f xs) ≡ length xs
length-made f [] = refl
length-made f (x ∷ xs) = ap suc (length-made f xs)

pub fewer : {X Y : Type 0} (f : X → Option Y) (xs : List X) → length (filter_map f xs) ≤ length xs
fewer f [] = omega arith
fewer {Y = Y} f (x ∷ xs) = by (f x) refl (fewer f xs) where
  by : (made : Option Y) → f x ≡ made → length (filter_map f xs) ≤ length xs → length (filter_map f (x ∷ xs)) ≤ suc (length xs)
  by None e h = rw e (omega (arith, h))
  by (Some y) e h = rw e (omega (arith, h))

-- ---- what is made of things

pub map-shuffled : {A B : Type 0} (f : A → B) {xs ys : List A} → Shuffled xs ys → Shuffled (map f xs) (map f ys)
map-shuffled f (same xs) = same (map f xs)
map-shuffled f (under x h) = under (f x) (map-shuffled f h)
map-shuffled f (exchange x y xs) = exchange (f x) (f y) (map f xs)
map-shuffled f (after h k) = after (map-shuffled f h) (map-shuffled f k)

-- by rules that make the same of each thing
pub maps-shuffled : {A B : Type 0} (f g : A → B) → ((x : A) → f x ≡ g x) → {xs ys : List A} → Shuffled xs ys → Shuffled (map f xs) (map g ys)
maps-shuffled {A = A} f g alike {xs = xs} {ys = ys} h = subst (Shuffled (map f xs)) (same-made ys) (map-shuffled f h) where
  same-made : (zs : List A) → map f zs ≡ map g zs
  same-made [] = refl
  same-made (z ∷ zs) = ap (λ y. y ∷ map f zs) (alike z) ∙ ap (λ ys. g z ∷ ys) (same-made zs)

pub flat_map-shuffled : {A B : Type 0} (f : A → List B) {xs ys : List A} → Shuffled xs ys → Shuffled (flat_map f xs) (flat_map f ys)
flat_map-shuffled f (same xs) = same (flat_map f xs)
flat_map-shuffled f (under x h) = append-second (f x) (flat_map-shuffled f h)
flat_map-shuffled f (exchange x y xs) = swapped (f x) (f y) (flat_map f xs)
flat_map-shuffled f (after h k) = after (flat_map-shuffled f h) (flat_map-shuffled f k)

-- by a rule that makes nothing of some
module _ {A B : Type 0} (f : A → Option B) where
  one-made : (x : A) (xs ys : List A) → Shuffled (filter_map f xs) (filter_map f ys) → Shuffled (filter_map f (x ∷ xs)) (filter_map f (x ∷ ys))
  one-made x xs ys h = by (f x) refl where
    by : (made : Option B) → f x ≡ made → Shuffled (filter_map f (x ∷ xs)) (filter_map f (x ∷ ys))
    by None e = rw e h
    by (Some y) e = rw e (under y h)

  two-made : (x y : A) (xs : List A) → Shuffled (filter_map f (x ∷ y ∷ xs)) (filter_map f (y ∷ x ∷ xs))
  two-made x y xs = by (f x) (f y) refl refl where
    by : (one other : Option B) → f x ≡ one → f y ≡ other → Shuffled (filter_map f (x ∷ y ∷ xs)) (filter_map f (y ∷ x ∷ xs))
    by None None e h = rw (e, h) (same (filter_map f xs))
    by None (Some b) e h = rw (e, h) (same (b ∷ filter_map f xs))
    by (Some a) None e h = rw (e, h) (same (a ∷ filter_map f xs))
    by (Some a) (Some b) e h = rw (e, h) (exchange a b (filter_map f xs))

  pub filter_map-shuffled : {xs ys : List A} → Shuffled xs ys → Shuffled (filter_map f xs) (filter_map f ys)
  filter_map-shuffled (same xs) = same (filter_map f xs)
  filter_map-shuffled (under x {xs = xs} {ys = ys} h) = one-made x xs ys (filter_map-shuffled h)
  filter_map-shuffled (exchange x y xs) = two-made x y xs
  filter_map-shuffled (after h k) = after (filter_map-shuffled h) (filter_map-shuffled k)
