-- Named things in lists.
use Rattle.std.proofs.Common.{◌≡◌, ℕ, Bool, true, false, cond, List, [], ◌∷◌, map, Some, refl, sym, ap, ◌∙◌, ◌⊎◌, inl, inr}
use Rattle.std.specs.Prelude.{bytes_eq, Option}
use Rattle.std.specs.Option.{option_map}
use Rattle.std.proofs.lemmas.Slice.Eq.{bytes_eq-Decides}
use Rattle.scene_book.specs.Lists.{named}

-- two names are one, or their bytes tell them apart
pub same_or_not : (a b : List ℕ) → (a ≡ b) ⊎ (bytes_eq a b ≡ false)
same_or_not a b = go (bytes_eq a b) refl where
  go : (test : Bool) → bytes_eq a b ≡ test → (a ≡ b) ⊎ (bytes_eq a b ≡ false)
  go true e = inl ((bytes_eq-Decides a b).0 e)
  go false e = inr e

pub same-name : (a b : List ℕ) → bytes_eq a b ≡ true → a ≡ b
same-name a b e = (bytes_eq-Decides a b).0 e

pub itself : (a : List ℕ) → bytes_eq a a ≡ true
itself a = (bytes_eq-Decides a a).1 refl

pub turned : (a b : List ℕ) → bytes_eq a b ≡ false → bytes_eq b a ≡ false
turned a b e = go (same_or_not b a) where
  go : (b ≡ a) ⊎ (bytes_eq b a ≡ false) → bytes_eq b a ≡ false
  go (inl same) = absurd (no (sym e ∙ (ap (bytes_eq a) same ∙ itself a))) where
    no : false ≡ true → ⊥
    no h = cc
  go (inr other) = other

module _ {A B : Type 0} (name_a : A → List ℕ) (name_b : B → List ℕ) (f : A → B) (same : (a : A) → name_b (f a) ≡ name_a a) where
  named-map-step : (name : List ℕ) (x : A) (xs : List A) (test : Bool) → bytes_eq name (name_a x) ≡ test
      → named name_b name (map f xs) ≡ option_map f (named name_a name xs)
      → named name_b name (map f (x ∷ xs)) ≡ option_map f (named name_a name (x ∷ xs))
  named-map-step name x xs true e rest =
      let mapped : bytes_eq name (name_b (f x)) ≡ true = ap (bytes_eq name) (same x) ∙ e in
      rw e (rw mapped refl)
  named-map-step name x xs false e rest =
      let mapped : bytes_eq name (name_b (f x)) ≡ false = ap (bytes_eq name) (same x) ∙ e in
      rw e (rw mapped rest)

  -- what bears the names of other things is found as they are
  pub named-map : (name : List ℕ) (xs : List A) → named name_b name (map f xs) ≡ option_map f (named name_a name xs)
  named-map name [] = refl
  named-map name (x ∷ xs) = named-map-step name x xs (bytes_eq name (name_a x)) refl (named-map name xs)

module _ {A : Type 0} (name_of : A → List ℕ) where
  named-is-step : (name : List ℕ) (x a : A) (rest : Option A) (test : Bool) → bytes_eq name (name_of x) ≡ test
      → (rest ≡ Some a → bytes_eq name (name_of a) ≡ true) → cond test (Some x) rest ≡ Some a → bytes_eq name (name_of a) ≡ true
  named-is-step name x a rest true e later found = let is : x ≡ a = cc in ap (λ y. bytes_eq name (name_of y)) (sym is) ∙ e
  named-is-step name x a rest false e later found = later found

  -- what is found bears the name
  pub named-is : (name : List ℕ) (xs : List A) (a : A) → named name_of name xs ≡ Some a → bytes_eq name (name_of a) ≡ true
  named-is name [] a found = absurd (cc)
  named-is name (x ∷ xs) a found =
      named-is-step name x a (named name_of name xs) (bytes_eq name (name_of x)) refl (named-is name xs a) found
