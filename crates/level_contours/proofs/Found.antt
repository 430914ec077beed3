-- What is found by a name among the entries of a map that were inserted from the last to the first.
use Rattle.std.proofs.Common.{◌≡◌, ℕ, ◌+◌, ◌<◌, refl, sym, ◌∙◌, ap, Bool, true, false, cond, List, [], ◌∷◌, drop, get_or, length, map}
use Rattle.std.specs.Prelude.{bytes_eq, Vec, Option, Some, None, option_map, is_some, find}
use Rattle.std.specs.Map.{lookup}
use Rattle.std.specs.declared.alloc.Global.{Global}
use Rattle.std.proofs.lemmas.Bool.{false≢true}
use Rattle.std.proofs.lemmas.List.{drop_more}
use Rattle.std.proofs.lemmas.Slice.Eq.{bytes_eq-Decides}
use Rattle.indexmap.specs.IndexMap.{insert_entry}
use Rattle.scene_book.specs.inner.Filed.{same_key}
use Rattle.scene_book.specs.Lists.{named}
use Rattle.level_contours.specs.inner.Filing.{is_key}

module _ {A : Type 0} where
  -- an entry inserted is found by its key, and hides no other
  pub found-inserted : (name : List ℕ) (es : List (Vec ℕ Global × A)) (key : Vec ℕ Global) (v : A)
      → lookup (is_key name) (insert_entry same_key es key v) ≡ cond (bytes_eq name key.items) (Some v) (lookup (is_key name) es)
  found-inserted name [] key v = refl
  found-inserted name (e ∷ es) key v = by_test (same_key key e.0) refl (bytes_eq name e.0.items) refl (found-inserted name es key v) where
    by_test : (t : Bool) → same_key key e.0 ≡ t → (b : Bool) → bytes_eq name e.0.items ≡ b
        → lookup (is_key name) (insert_entry same_key es key v) ≡ cond (bytes_eq name key.items) (Some v) (lookup (is_key name) es)
        → lookup (is_key name) (insert_entry same_key (e ∷ es) key v) ≡ cond (bytes_eq name key.items) (Some v) (lookup (is_key name) (e ∷ es))
    by_test true is true here rest = let k = (bytes_eq-Decides key.items e.0.items).0 is in rw (is, k, here) refl
    by_test true is false here rest = let k = (bytes_eq-Decides key.items e.0.items).0 is in rw (is, k, here) refl
    by_test false is false here rest = rw (is, here) rest
    by_test false is true here rest = rw (is, here) (other (bytes_eq name key.items) refl) where
      other : (b : Bool) → bytes_eq name key.items ≡ b → Some e.1 ≡ cond (bytes_eq name key.items) (Some v) (Some e.1)
      other false no_key = rw no_key refl
      other true key_is =
          let k = (bytes_eq-Decides name key.items).0 key_is in
          absurd (false≢true (sym is ∙ ap (λ n. bytes_eq n e.0.items) (sym k) ∙ here))

module _ {T A : Type 0} (name_of : T → List ℕ) (value_of : T → A) where
  mapped : (b : Bool) (x : T) (o : Option T) → cond b (Some (value_of x)) (option_map value_of o) ≡ option_map value_of (cond b (Some x) o)
  mapped true x o = refl
  mapped false x o = refl

  -- what is found after the thing before is inserted
  pub found-step : (things : List T) (i j : ℕ) (x : T) (old new : List (Vec ℕ Global × A)) (key : Vec ℕ Global) (v : A) (name : List ℕ)
      → i + 1 ≡ j → i < length things → x ≡ get_or things i x → new ≡ insert_entry same_key old key v → key.items ≡ name_of x → v ≡ value_of x
      → lookup (is_key name) old ≡ option_map value_of (named name_of name (drop j things))
      → lookup (is_key name) new ≡ option_map value_of (named name_of name (drop i things))
  found-step things i j x old new key v name next below is inserted is_key_of is_value h =
      let here : drop i things ≡ x ∷ drop j things = drop_more things i x below ∙ ap (λ y. y ∷ drop (i + 1) things) (sym is) ∙ ap (λ n. x ∷ drop n things) next in
      ap (lookup (is_key name)) inserted ∙ found-inserted name old key v
      ∙ ap (λ n. cond (bytes_eq name n) (Some v) (lookup (is_key name) old)) is_key_of
      ∙ ap (λ w. cond (bytes_eq name (name_of x)) (Some w) (lookup (is_key name) old)) is_value
      ∙ ap (λ o. cond (bytes_eq name (name_of x)) (Some (value_of x)) o) h
      ∙ mapped (bytes_eq name (name_of x)) x (named name_of name (drop j things))
      ∙ ap (λ l. option_map value_of (named name_of name l)) (sym here)

pub is_some-map : {T A : Type 0} (f : T → A) (o : Option T) → is_some (option_map f o) ≡ is_some o
is_some-map f None = refl
is_some-map f (Some x) = refl

-- functions that agree at each element
pub map-agree : {A B : Type 0} (f g : A → B) → ((x : A) → f x ≡ g x) → (xs : List A) → map f xs ≡ map g xs
map-agree f g h [] = refl
map-agree f g h (x ∷ xs) = ap (λ y. y ∷ map f xs) (h x) ∙ ap (λ l. g x ∷ l) (map-agree f g h xs)

pub find-agree : {A : Type 0} (p q : A → Bool) → ((x : A) → p x ≡ q x) → (xs : List A) → find p xs ≡ find q xs
find-agree p q h [] = refl
find-agree p q h (x ∷ xs) = ap (λ b. cond b (Some x) (find p xs)) (h x) ∙ ap (λ o. cond (q x) (Some x) o) (find-agree p q h xs)
