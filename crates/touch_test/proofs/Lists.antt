-- Lists of which some elements are read, and lists after an edit.
use Rattle.std.proofs.Common.{◌≡◌, ℕ, zero, suc, ◌+◌, ◌<◌, length, take, arith, refl, sym, ap, subst, ◌∙◌, Bool, true, false, cond, ◌||◌, ◌⊎◌, inl, inr, List, [], ◌∷◌, ◌++◌, map}
use Rattle.std.specs.Prelude.{Option, Some, None, is_some, flat_map, filter, if◌then◌else◌, Contains, slice_index_or, slice_get}
use Rattle.std.specs.List.{list_any, filter_map, cons_option}
use Rattle.std.proofs.lemmas.List.Folds.{list_any_more, list_any_at}
use Rattle.std.proofs.lemmas.Option.{slice_get_within, get_or_from_slice_get}
use Rattle.scene_book.specs.Laws.{Edited}
use Rattle.scene_book.proofs.EditLemmas as edits

-- ---- truth values

pub neither : (b c : Bool) → (b || c) ≡ false → (b ≡ false) × (c ≡ false)
neither true c h = cc
neither false c h = (refl, h)

pub or_false : (b : Bool) → (b || false) ≡ b
or_false true = refl
or_false false = refl

pub not_some : {A : Type 0} (x : Option A) → is_some x ≡ false → x ≡ None
not_some None h = refl
not_some (Some x) h = cc

-- ---- elements

pub data In {A : Type 0} (x : A) : List A → Type 0 where
  here : (xs : List A) → In x (x ∷ xs)
  there : (y : A) (xs : List A) → In x xs → In x (y ∷ xs)

module _ {A : Type 0} where
  pub in-left : (x : A) (xs ys : List A) → In x xs → In x (xs ++ ys)
  in-left x _ ys (here xs) = here (xs ++ ys)
  in-left x _ ys (there y xs i) = there y (xs ++ ys) (in-left x xs ys i)

  pub in-right : (x : A) (xs ys : List A) → In x ys → In x (xs ++ ys)
  in-right x [] ys i = i
  in-right x (y ∷ xs) ys i = there y (xs ++ ys) (in-right x xs ys i)

  pub in-split : (x : A) (xs ys : List A) → In x (xs ++ ys) → In x xs ⊎ In x ys
  in-split x [] ys i = inr i
  in-split x (y ∷ xs) ys (here _) = inl (here xs)
  in-split x (y ∷ xs) ys (there _ _ i) = elim (in-split x xs ys i) [ inl j ↦ inl (there y xs j) | inr j ↦ inr j ]

  -- a test that no element passes fails at each
  pub fails-at : (test : A → Bool) (x : A) (xs : List A) → In x xs → list_any test xs ≡ false → test x ≡ false
  fails-at test x _ (here xs) h = (neither (test x) (list_any test xs) h).0
  fails-at test x _ (there y xs i) h = fails-at test x xs i (neither (test y) (list_any test xs) h).1

  -- a test fails at all elements that fails at each
  pub none-passes : (test : A → Bool) (xs : List A) → ((x : A) → In x xs → test x ≡ false) → list_any test xs ≡ false
  none-passes test [] h = refl
  none-passes test (x ∷ xs) h =
      rw (h x (here xs)) (none-passes test xs (λ y i. h y (there x xs i)))

  pub any-agrees : (p q : A → Bool) (xs : List A) → ((x : A) → In x xs → p x ≡ q x) → list_any p xs ≡ list_any q xs
  any-agrees p q [] h = refl
  any-agrees p q (x ∷ xs) h = rw (h x (here xs), any-agrees p q xs (λ y i. h y (there x xs i))) refl

  pub filter-agrees : (p q : A → Bool) (xs : List A) → ((x : A) → In x xs → p x ≡ q x) → filter p xs ≡ filter q xs
  filter-agrees p q [] h = refl
  filter-agrees p q (x ∷ xs) h = rw (h x (here xs), filter-agrees p q xs (λ y i. h y (there x xs i))) refl

  pub none-kept : (test : A → Bool) (xs : List A) → ((x : A) → In x xs → test x ≡ false) → filter test xs ≡ []
  none-kept test [] h = refl
  none-kept test (x ∷ xs) h = rw (h x (here xs)) (none-kept test xs (λ y i. h y (there x xs i)))

  -- what passes a test and is an element is among what is kept
  pub in-filter : (test : A → Bool) (x : A) (xs : List A) → In x xs → test x ≡ true → In x (filter test xs)
  in-filter test x _ (here xs) h = rw h (here (filter test xs))
  in-filter test x _ (there y xs i) h = behind (test y) (in-filter test x xs i h)
    where
      behind : (b : Bool) → In x (filter test xs) → In x (cond b (y ∷ filter test xs) (filter test xs))
      behind true j = there y (filter test xs) j
      behind false j = j

  from-kept : (test : A → Bool) (x y : A) (xs kept : List A) (b : Bool) → test y ≡ b
      → (In x kept → In x xs × (test x ≡ true)) → In x (cond b (y ∷ kept) kept) → In x (y ∷ xs) × (test x ≡ true)
  from-kept test x _ xs kept true e rest (here _) = (here xs, e)
  from-kept test x y xs kept true e rest (there _ _ j) = (there y xs (rest j).0, (rest j).1)
  from-kept test x y xs kept false e rest j = (there y xs (rest j).0, (rest j).1)

  pub from-filter : (test : A → Bool) (x : A) (xs : List A) → In x (filter test xs) → In x xs × (test x ≡ true)
  from-filter test x [] i = elim i [ ]
  from-filter test x (y ∷ xs) i = from-kept test x y xs (filter test xs) (test y) refl (from-filter test x xs) i

-- between elements by their places and elements by recursion
pub contains : {A : Type 0} (x : A) (xs : List A) → In x xs → Contains xs x
contains x _ (here xs) = (0, omega arith, refl)
contains x _ (there y xs i) = let found = contains x xs i in (suc found.0, omega arith, found.2)

pub found-in : {A : Type 0} (x : A) (xs : List A) → Contains xs x → In x xs
found-in {A} x xs found = at xs found.0 found.1 found.2
  where
    at : (xs : List A) (k : ℕ) → k < length xs → slice_index_or xs k x ≡ x → In x xs
    at [] k below e = absurd (omega arith)
    at (y ∷ xs) zero below e = subst (λ (z : A). In x (z ∷ xs)) (sym e) (here xs)
    at (y ∷ xs) (suc k) below e = there y xs (at xs k (omega arith) e)

-- some element passes one of two tests where some passes the one or some the other
pub any-or : {A : Type 0} (p q : A → Bool) (xs : List A) → list_any (λ x. p x || q x) xs ≡ (list_any p xs || list_any q xs)
any-or p q [] = refl
any-or p q (x ∷ xs) =
    ap (λ (b : Bool). (p x || q x) || b) (any-or p q xs) ∙ mixed (p x) (q x) (list_any p xs) (list_any q xs)
  where
    mixed : (a b c d : Bool) → ((a || b) || (c || d)) ≡ ((a || c) || (b || d))
    mixed true b c d = refl
    mixed false true true d = refl
    mixed false true false d = refl
    mixed false false c d = refl

module _ {A B : Type 0} where
  pub flat-agrees : (f g : A → List B) (xs : List A) → ((x : A) → In x xs → f x ≡ g x) → flat_map f xs ≡ flat_map g xs
  flat-agrees f g [] h = refl
  flat-agrees f g (x ∷ xs) h = rw (h x (here xs), flat-agrees f g xs (λ y i. h y (there x xs i))) refl

  pub map-agrees : (f g : A → B) (xs : List A) → ((x : A) → In x xs → f x ≡ g x) → map f xs ≡ map g xs
  map-agrees f g [] h = refl
  map-agrees f g (x ∷ xs) h = rw (h x (here xs), map-agrees f g xs (λ y i. h y (there x xs i))) refl

  pub options-agree : (f g : A → Option B) (xs : List A) → ((x : A) → In x xs → f x ≡ g x) → filter_map f xs ≡ filter_map g xs
  options-agree f g [] h = refl
  options-agree f g (x ∷ xs) h = rw (h x (here xs), options-agree f g xs (λ y i. h y (there x xs i))) refl

  pub any-map : (test : B → Bool) (f : A → B) (xs : List A) → list_any test (map f xs) ≡ list_any (λ x. test (f x)) xs
  any-map test f [] = refl
  any-map test f (x ∷ xs) = ap (λ (b : Bool). test (f x) || b) (any-map test f xs)

  pub none-made : (f : A → List B) (xs : List A) → ((x : A) → In x xs → f x ≡ []) → flat_map f xs ≡ []
  none-made f [] h = refl
  none-made f (x ∷ xs) h = rw (h x (here xs)) (none-made f xs (λ y i. h y (there x xs i)))

  pub none-there : (f : A → Option B) (xs : List A) → ((x : A) → In x xs → f x ≡ None) → filter_map f xs ≡ []
  none-there f [] h = refl
  none-there f (x ∷ xs) h = rw (h x (here xs)) (none-there f xs (λ y i. h y (there x xs i)))

  pub in-map : (f : A → B) (x : A) (xs : List A) → In x xs → In (f x) (map f xs)
  in-map f x _ (here xs) = here (map f xs)
  in-map f x _ (there y xs i) = there (f y) (map f xs) (in-map f x xs i)

  pub in-flat : (f : A → List B) (x : A) (y : B) (xs : List A) → In x xs → In y (f x) → In y (flat_map f xs)
  in-flat f x y _ (here xs) j = in-left y (f x) (flat_map f xs) j
  in-flat f x y _ (there z xs i) j = in-right y (f z) (flat_map f xs) (in-flat f x y xs i j)

  pub in-options : (f : A → Option B) (x : A) (y : B) (xs : List A) → In x xs → f x ≡ Some y → In y (filter_map f xs)
  in-options f x y _ (here xs) e = rw e (here (filter_map f xs))
  in-options f x y _ (there z xs i) e = behind (f z) (in-options f x y xs i e)
    where
      behind : (found : Option B) → In y (filter_map f xs) → In y (cons_option found (filter_map f xs))
      behind None j = j
      behind (Some w) j = there w (filter_map f xs) j

-- a list made of the elements that pass a test
pub flat-filter : {A B : Type 0} (f : A → List B) (test : A → Bool) (xs : List A)
    → flat_map f (filter test xs) ≡ flat_map (λ x. if test x then f x else []) xs
flat-filter f test [] = refl
flat-filter {A} {B} f test (x ∷ xs) = by (test x) (flat-filter f test xs)
  where
    by : (b : Bool) → flat_map f (filter test xs) ≡ flat_map (λ x. if test x then f x else []) xs
        → flat_map f (cond b (x ∷ filter test xs) (filter test xs)) ≡ (if b then f x else []) ++ flat_map (λ x. if test x then f x else []) xs
    by true rest = ap (λ (l : List B). f x ++ l) rest
    by false rest = rest

-- ---- a test of one element after another

-- the element at a place passes, or it fails as those before it
pub passes-there : {A : Type 0} (test : A → Bool) (xs : List A) (i : ℕ) (x : A) (answer : Bool) → slice_get xs i ≡ Some x
    → answer ≡ test x → answer ≡ true → true ≡ list_any test xs
passes-there test xs i x answer e is h =
    sym (list_any_at test xs i x (slice_get_within xs i x e) (rw (get_or_from_slice_get xs i x x e) (sym is ∙ h)))

pub fails-too : {A : Type 0} (test : A → Bool) (xs : List A) (i : ℕ) (x : A) (answer : Bool) → slice_get xs i ≡ Some x
    → answer ≡ test x → answer ≡ false → list_any test (take i xs) ≡ false → list_any test (take (i + 1) xs) ≡ false
fails-too test xs i x answer e is h before =
    list_any_more test xs i x (slice_get_within xs i x e)
    ∙ rw (before, get_or_from_slice_get xs i x x e) (sym is ∙ h)

-- a test of both lists' elements in either order
pub exchanged : {A B : Type 0} (test : A → B → Bool) (xs : List A) (ys : List B)
    → list_any (λ x. list_any (test x) ys) xs ≡ list_any (λ y. list_any (λ x. test x y) xs) ys
exchanged test [] ys = sym (none-passes (λ y. false) ys (λ y i. refl))
exchanged {A} {B} test (x ∷ xs) ys = ap (λ (b : Bool). list_any (test x) ys || b) (exchanged test xs ys) ∙ sym (any-or (test x) (λ (y : B). list_any (λ x. test x y) xs) ys)

-- ---- edits
module _ {A : Type 0} (old new xs ys : List A) (e : Edited old new xs ys) where
  -- where neither piece has an element that passes, or of which something is made, all stays
  pub flat-stays : {B : Type 0} (f : A → List B) → ((x : A) → In x old → f x ≡ []) → ((x : A) → In x new → f x ≡ [])
      → flat_map f xs ≡ flat_map f ys
  flat-stays f h k =
      edits.flat-stays f old new xs ys e (none-made f old h) (none-made f new k)

  pub filter-stays : (test : A → Bool) → ((x : A) → In x old → test x ≡ false) → ((x : A) → In x new → test x ≡ false)
      → filter test xs ≡ filter test ys
  filter-stays test h k =
      edits.filter-stays test old new xs ys e (none-kept test old h) (none-kept test new k)

  pub any-stays : (test : A → Bool) → ((x : A) → In x old → test x ≡ false) → ((x : A) → In x new → test x ≡ false)
      → list_any test xs ≡ list_any test ys
  any-stays test h k =
      edits.any-stays test old new xs ys e (none-passes test old h) (none-passes test new k)

  -- the same of what is made of the elements that pass a test
  pub kept-stays : {B : Type 0} (test : A → Bool) (f : A → List B) → ((x : A) → In x old → f x ≡ [])
      → ((x : A) → In x new → f x ≡ []) → flat_map f (filter test xs) ≡ flat_map f (filter test ys)
  kept-stays {B} test f h k =
      flat-filter f test xs
      ∙ flat-stays (λ x. if test x then f x else []) (λ x i. nothing x (h x i)) (λ x i. nothing x (k x i))
      ∙ sym (flat-filter f test ys)
    where
      either : (b : Bool) (l : List B) → (if b then l else l) ≡ l
      either true l = refl
      either false l = refl

      nothing : (x : A) → f x ≡ [] → (if test x then f x else []) ≡ []
      nothing x e = rw e (either (test x) [])

  -- what isn't in the old piece stays in the list
  pub in-stays : (x : A) → (In x old → ⊥) → In x xs → In x ys
  in-stays x away i = subst (In x) (sym e.is) (placed (in-split x e.before (old ++ e.after) (subst (In x) e.was i)))
    where
      behind : In x old ⊎ In x e.after → In x (e.before ++ (new ++ e.after))
      behind (inl j) = absurd (away j)
      behind (inr j) = in-right x e.before (new ++ e.after) (in-right x new e.after j)

      placed : In x e.before ⊎ In x (old ++ e.after) → In x (e.before ++ (new ++ e.after))
      placed (inl j) = in-left x e.before (new ++ e.after) j
      placed (inr j) = behind (in-split x old e.after j)
