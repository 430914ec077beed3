-- A scan of a list, one place after another.
use Rattle.std.proofs.Common.{◌≡◌, ℕ, suc, ◌+◌, ◌<◌, ◌≤◌, Bool, true, false, List, ◌∷◌, length, get_or, drop, sym, ap, ◌∙◌, add-one}
use Rattle.std.specs.List.{list_any}
use Rattle.std.proofs.Math.Seq.{drop-cons}
use Rattle.std.proofs.Math.ListN.{drop_of_length-le}

module _ {A : Type 0} (p : A → Bool) where
  any-other : (x : A) (xs : List A) → p x ≡ false → list_any p (x ∷ xs) ≡ list_any p xs
  any-other x xs fails = rw fails

  pub past-one : (xs : List A) (i : ℕ) (x : A) → i < length xs → x ≡ get_or xs i x → p x ≡ false → list_any p xs ≡ list_any p (drop i xs)
      → list_any p xs ≡ list_any p (drop (i + 1) xs)
  past-one xs i x below is fails so_far =
      let here : drop i xs ≡ x ∷ drop (suc i) xs = drop-cons xs i x below ∙ ap (λ y. y ∷ drop (suc i) xs) (sym is) in
      rw (add-one) (so_far ∙ (ap (list_any p) here ∙ any-other x (drop (suc i) xs) fails))

  pub none-left : (xs : List A) (i : ℕ) → length xs ≤ i → list_any p xs ≡ list_any p (drop i xs) → list_any p xs ≡ false
  none-left xs i past so_far = so_far ∙ ap (list_any p) (drop_of_length-le xs past)

  pub found-one : (xs : List A) (i : ℕ) (x : A) → i < length xs → x ≡ get_or xs i x → p x ≡ true → list_any p xs ≡ list_any p (drop i xs)
      → true ≡ list_any p xs
  found-one xs i x below is passes so_far =
      let here : drop i xs ≡ x ∷ drop (suc i) xs = drop-cons xs i x below ∙ ap (λ y. y ∷ drop (suc i) xs) (sym is) in
      sym (so_far ∙ (ap (list_any p) here ∙ yes x (drop (suc i) xs) passes)) where
        yes : (x : A) (xs : List A) → p x ≡ true → list_any p (x ∷ xs) ≡ true
        yes x xs passes = rw passes
