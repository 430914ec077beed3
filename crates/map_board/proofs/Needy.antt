-- A place before which no row is needy, as rows change.
use Rattle.std.proofs.Common.{◌≡◌, ℕ, zero, suc, ◌≤◌, Bool, true, false, List, [], ◌∷◌, take, set, refl, ap, ◌∙◌, arith}
use Rattle.std.specs.Prelude.{not, ◌||◌, ◌&&◌}
use Rattle.std.specs.List.{list_any}
use Rattle.std.proofs.lemmas.List.{take-set-le}
use Rattle.map_board.specs.declared.rows.HeldRow.{HeldRow}
use Rattle.map_board.specs.inner.Boards.{is_held_current, is_held_needy, row_out}

first-fails : (a b : Bool) → (a || b) ≡ false → a ≡ false
first-fails true b none = absurd (cc none)
first-fails false b none = refl

others-fail : (a b : Bool) → (a || b) ≡ false → b ≡ false
others-fail true b none = absurd (cc none)
others-fail false b none = none

module _ {A : Type 0} (p : A → Bool) where
  none-first : (x : A) (xs : List A) → p x ≡ false → list_any p xs ≡ false → list_any p (x ∷ xs) ≡ false
  none-first x xs fails rest = (λ i. fails i || rest i)

  -- none before a place, so none before an earlier one
  pub none-earlier : (xs : List A) (n m : ℕ) → n ≤ m → list_any p (take m xs) ≡ false → list_any p (take n xs) ≡ false
  none-earlier [] zero m below none = refl
  none-earlier [] (suc n) m below none = refl
  none-earlier (x ∷ xs) zero m below none = refl
  none-earlier (x ∷ xs) (suc n) zero below none = absurd (omega (arith, below))
  none-earlier (x ∷ xs) (suc n) (suc m) below none =
      none-first x (take n xs) (first-fails (p x) (list_any p (take m xs)) none)
      (none-earlier xs n m (omega (arith, below)) (others-fail (p x) (list_any p (take m xs)) none))

  -- an element that fails is put at any place
  pub none-put : (xs : List A) (n i : ℕ) (y : A) → p y ≡ false → list_any p (take n xs) ≡ false → list_any p (take n (set xs i y)) ≡ false
  none-put [] n i y fails none = none
  none-put (x ∷ xs) zero zero y fails none = refl
  none-put (x ∷ xs) zero (suc i) y fails none = refl
  none-put (x ∷ xs) (suc n) zero y fails none = none-first y (take n xs) fails (others-fail (p x) (list_any p (take n xs)) none)
  none-put (x ∷ xs) (suc n) (suc i) y fails none =
      none-first x (take n (set xs i y)) (first-fails (p x) (list_any p (take n xs)) none)
      (none-put xs n i y fails (others-fail (p x) (list_any p (take n xs)) none))

  -- any element is put at a place from there on
  pub none-put-past : (xs : List A) (n m i : ℕ) (y : A) → n ≤ m → n ≤ i → list_any p (take m xs) ≡ false → list_any p (take n (set xs i y)) ≡ false
  none-put-past xs n m i y below past none = ap (list_any p) (take-set-le n xs i y past) ∙ none-earlier xs n m below none

-- a row that is out isn't needy
pub out-rests : (version : ℕ) (held : HeldRow) → is_held_needy (row_out version held) ≡ false
out-rests version held = go (not (is_held_current (row_out version held))) where
  go : (stale : Bool) → (stale && false) ≡ false
  go true = refl
  go false = refl
