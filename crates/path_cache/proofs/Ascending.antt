-- Places that ascend, and the bundles at them.
use Rattle.std.proofs.Common.{◌≡◌, ℕ, zero, suc, true, ◌+◌, ◌-◌, ◌<◌, ◌≤◌, List, [], ◌∷◌, ◌++◌, length, get_or, drop, take, refl, sym, ap, ◌∙◌, subst, add-one, arith}
use Rattle.std.proofs.Math.Seq.{drop-cons}
use Rattle.std.specs.Prelude.{Option, Some, None, is_some, slice_get, Box}
use Rattle.std.specs.declared.alloc.Global.{Global}
use Rattle.std.specs.Option.{option_to_list}
use Rattle.std.proofs.lemmas.Grind.{flat_map-append}
use Rattle.std.proofs.lemmas.Bool.{false≢true}
use Rattle.std.proofs.lemmas.List.Concat.{flat_map-cons}
use Rattle.std.proofs.lemmas.Option.{slice_get-get_or}
use Rattle.std.proofs.lemmas.List.{append-nil, append_assoc, take_more, get_or_default}
use Rattle.path_calc.specs.Bundles.{Bundle}
use Rattle.path_cache.specs.declared.origins.Origin.{Origin}
use Rattle.path_cache.specs.declared.origins.Origin.TheVariants.{Kept, New}
use Rattle.path_cache.specs.Origins.{bundle_from, bundles_from, Ascend}
use Rattle.path_cache.specs.inner.Origins.{IsBetween, place_after}

pub ascend-le : (from : ℕ) (origins : List Origin) (to : ℕ) → Ascend from origins to → from ≤ to
ascend-le from [] to h = h
ascend-le from (Kept place ∷ origins) to h = omega (arith, h.0, ascend-le (suc place) origins to h.1)
ascend-le from (New bundle ∷ origins) to h = ascend-le from origins to h

pub ascend-up : (from : ℕ) (origins : List Origin) (to more : ℕ) → Ascend from origins to → to ≤ more → Ascend from origins more
ascend-up from [] to more h up = omega (arith, h, up)
ascend-up from (Kept place ∷ origins) to more h up = (h.0, ascend-up (suc place) origins to more h.1 up)
ascend-up from (New bundle ∷ origins) to more h up = ascend-up from origins to more h up

pub ascend-more : (from : ℕ) (origins : List Origin) (to count : ℕ) (origin : Origin) → Ascend from origins to → IsBetween to count origin
    → Ascend from (origins ++ origin ∷ []) (place_after to origin)
ascend-more from [] to count (Kept place) h is = (omega (arith, h, is.0), omega arith)
ascend-more from [] to count (New bundle) h is = h
ascend-more from (Kept place ∷ origins) to count origin h is = (h.0, ascend-more (suc place) origins to count origin h.1 is)
ascend-more from (New bundle ∷ origins) to count origin h is = ascend-more from origins to count origin h is

-- one origin more
pub from-more : (kept : List Bundle) (origins : List Origin) (origin : Origin)
    → bundles_from kept (origins ++ origin ∷ []) ≡ bundles_from kept origins ++ bundle_from kept origin
from-more kept origins origin =
    flat_map-append (bundle_from kept) origins (origin ∷ []) ∙ ap (λ bs. bundles_from kept origins ++ bs) (append-nil (bundle_from kept origin))

-- the bundle that is kept at a place
pub kept-at : (kept : List Bundle) (place : ℕ) (d : Bundle) → place < length kept → bundle_from kept (Kept place) ≡ get_or kept place d ∷ []
kept-at kept place d below = ap option_to_list (slice_get-get_or kept place d below)

-- a bundle for each origin
pub count-from : (kept : List Bundle) (from : ℕ) (origins : List Origin) → Ascend from origins (length kept) → length (bundles_from kept origins) ≡ length origins
count-from kept from [] h = refl
count-from kept from (New bundle ∷ origins) h = ap suc (count-from kept from origins h)
count-from [] from (Kept place ∷ origins) h = absurd (omega (arith, ascend-le (suc place) origins 0 h.1))
count-from (b ∷ bs) from (Kept place ∷ origins) h =
    ap (λ front. length (front ++ bundles_from (b ∷ bs) origins)) (kept-at (b ∷ bs) place b (ascend-le (suc place) origins (length (b ∷ bs)) h.1))
    ∙ ap suc (count-from (b ∷ bs) (suc place) origins h.1)

-- no more bundles than origins
one-at-most : (o : Option Bundle) (bundles : List Bundle) (count : ℕ) → length bundles ≤ count → length (option_to_list o ++ bundles) ≤ suc count
one-at-most None bundles count few = omega (arith, few)
one-at-most (Some b) bundles count few = omega (arith, few)

pub few-from : (kept : List Bundle) (origins : List Origin) → length (bundles_from kept origins) ≤ length origins
few-from kept [] = omega arith
few-from kept (New bundle ∷ origins) = omega (arith, few-from kept origins)
few-from kept (Kept place ∷ origins) = one-at-most (slice_get kept place) (bundles_from kept origins) (length origins) (few-from kept origins)

-- the list from a place on has the element at that place in front
pub drop-here : {A : Type 0} (xs : List A) (i : ℕ) (x : A) → i < length xs → x ≡ get_or xs i x → drop i xs ≡ x ∷ drop (i + 1) xs
drop-here xs i x below is = rw (add-one) (drop-cons xs i x below ∙ ap (λ y. y ∷ drop (suc i) xs) (sym is))

-- the bundles of the origins so far, of one more, and those that are still kept
pub and-then : (kept : List Bundle) (origins : List Origin) (i : ℕ) (origin : Origin) (bundle : Bundle) (rest : List Bundle) → i < length origins → origin ≡ get_or origins i origin
    → bundle_from kept origin ≡ bundle ∷ []
    → bundles_from kept (take i origins) ++ bundle ∷ rest ≡ bundles_from kept (take (i + 1) origins) ++ rest
and-then kept origins i origin bundle rest below is one =
    let so_far = take i origins in
    sym (append_assoc (bundles_from kept so_far) (bundle ∷ []) rest)
    ∙ ap (λ bs. bs ++ rest)
    (ap (λ bs. bundles_from kept so_far ++ bs) (sym one)
    ∙ sym (from-more kept so_far origin)
    ∙ ap (bundles_from kept) (ap (λ o. so_far ++ o ∷ []) is ∙ sym (take_more origins i origin below)))

-- an origin at a place, where the places of that and of those behind it ascend
pub here-kept : (origins : List Origin) (i : ℕ) (origin : Origin) (place from to : ℕ) → i < length origins → origin ≡ get_or origins i origin → origin ≡ Kept place
    → Ascend from (drop i origins) to → (from ≤ place) × Ascend (place + 1) (drop (i + 1) origins) to
here-kept origins i origin place from to below is kept h =
    let there : Ascend from (Kept place ∷ drop (i + 1) origins) to = subst (λ os. Ascend from os to) (drop-here origins i origin below is ∙ ap (λ o. o ∷ drop (i + 1) origins) kept) h in
    (there.0, subst (λ k. Ascend k (drop (i + 1) origins) to) (sym (add-one place)) there.1)

pub here-new : (origins : List Origin) (i : ℕ) (origin : Origin) (bundle : Box Bundle Global) (from to : ℕ) → i < length origins → origin ≡ get_or origins i origin → origin ≡ New bundle
    → Ascend from (drop i origins) to → Ascend from (drop (i + 1) origins) to
here-new origins i origin bundle from to below is new h =
    subst (λ os. Ascend from os to) (drop-here origins i origin below is ∙ ap (λ o. o ∷ drop (i + 1) origins) new) h

-- there is an element at each place below the length
pub some-at : {A : Type 0} (xs : List A) (place : ℕ) → place < length xs → (x : A) × (x ≡ get_or xs place x)
some-at [] place below = absurd (omega (arith, below))
some-at (x ∷ xs) place below = (get_or (x ∷ xs) place x, get_or_default (x ∷ xs) place x (get_or (x ∷ xs) place x) below)

-- ---- lists that are taken one by one from the front

-- the first of origins, where their places ascend
pub first-kept : (origins : List Origin) (origin : Origin) (rest : List Origin) (place from to : ℕ) → origins ≡ origin ∷ rest → origin ≡ Kept place → Ascend from origins to
    → (from ≤ place) × Ascend (place + 1) rest to
first-kept origins origin rest place from to is kept h =
    let there : Ascend from (Kept place ∷ rest) to = subst (λ os. Ascend from os to) (is ∙ ap (λ o. o ∷ rest) kept) h in
    (there.0, subst (λ k. Ascend k rest to) (sym (add-one place)) there.1)

pub first-new : (origins : List Origin) (origin : Origin) (rest : List Origin) (bundle : Box Bundle Global) (from to : ℕ) → origins ≡ origin ∷ rest → origin ≡ New bundle → Ascend from origins to
    → Ascend from rest to
first-new origins origin rest bundle from to is new h = subst (λ os. Ascend from os to) (is ∙ ap (λ o. o ∷ rest) new) h

-- the bundles so far and those to come are all, also after the first of those to come
pub one-moved : (kept so_far : List Bundle) (origins : List Origin) (origin : Origin) (rest : List Origin) (bundle : Bundle) (all : List Bundle) → origins ≡ origin ∷ rest
    → bundle_from kept origin ≡ bundle ∷ [] → so_far ++ bundles_from kept origins ≡ all → (so_far ++ bundle ∷ []) ++ bundles_from kept rest ≡ all
one-moved kept so_far origins origin rest bundle all is one total =
    append_assoc so_far (bundle ∷ []) (bundles_from kept rest)
    ∙ ap (λ bs. so_far ++ bs) (ap (λ bs. bs ++ bundles_from kept rest) (sym one) ∙ sym (flat_map-cons (bundle_from kept) origin rest) ∙ ap (bundles_from kept) (sym is))
    ∙ total

-- the list behind the place of an element, and that element
pub behind-it : {A : Type 0} (xs : List A) (i : ℕ) (x : A) (rest : List A) → drop i xs ≡ x ∷ rest → drop (i + 1) xs ≡ rest
behind-it {A} xs i x rest is = ap (λ k. drop k xs) (add-one i) ∙ go i xs is where
  go : (i : ℕ) (xs : List A) → drop i xs ≡ x ∷ rest → drop (suc i) xs ≡ rest
  go zero [] is = absurd (omega (arith, ap length is))
  go zero (y ∷ ys) is = ap (drop 1) is
  go (suc i) [] is = absurd (omega (arith, ap length is))
  go (suc i) (y ∷ ys) is = go i ys is

pub there-is : {A : Type 0} (xs : List A) (i : ℕ) (x : A) (rest : List A) → drop i xs ≡ x ∷ rest → slice_get xs i ≡ Some x
there-is [] zero x rest is = absurd (omega (arith, ap length is))
there-is [] (suc i) x rest is = absurd (omega (arith, ap length is))
there-is {A} (y ∷ ys) zero x rest is = ap head is where
  head : List A → Option A
  head [] = None
  head (z ∷ zs) = Some z
there-is (y ∷ ys) (suc i) x rest is = there-is ys i x rest is

-- an iterator of a list has lost so many items, and one more
pub one-passed : {A : Type 0} (xs ys rest : List A) (n : ℕ) (o : Option A) → is_some o ≡ true → drop n xs ≡ ys → ys ≡ option_to_list o ++ rest → drop (n + 1) xs ≡ rest
one-passed xs ys rest n None some so_far is = absurd (false≢true some)
one-passed xs ys rest n (Some x) some so_far is = behind-it xs n x rest (so_far ∙ is)

pub one-long : {A : Type 0} (o : Option A) → is_some o ≡ true → length (option_to_list o) ≡ 1
one-long None some = absurd (false≢true some)
one-long (Some x) some = refl

-- a list from a place on, in two steps
pub drop-on : {A : Type 0} (xs : List A) (from to : ℕ) → from ≤ to → drop to xs ≡ drop (to - from) (drop from xs)
drop-on xs zero to up = let same : to ≡ to - 0 = omega arith in ap (λ k. drop k xs) same
drop-on xs (suc from) zero up = absurd (omega (arith, up))
drop-on {A} [] (suc from) (suc to) up = sym (none (suc to - suc from)) where
  none : (n : ℕ) → drop {A = A} n [] ≡ []
  none zero = refl
  none (suc n) = refl
drop-on (x ∷ xs) (suc from) (suc to) up =
    let same : to - from ≡ suc to - suc from = omega arith in
    drop-on xs from to (omega (arith, up)) ∙ ap (λ k. drop k (drop from xs)) same
