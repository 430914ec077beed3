-- Arrays of JSON, item by item.
use Rattle.std.proofs.Common.{◌≡◌, ℕ, suc, ◌+◌, ◌<◌, refl, sym, ◌∙◌, ap, List, [], ◌∷◌, ◌++◌, length, get_or, drop, drop-cons, arith, add-one, append_assoc, Some, None}
use Rattle.std.specs.Prelude.{Option, ℤ, ◌==◌, if◌then◌else◌}
use Rattle.serde_json.specs.Data.{Data}
use Rattle.serde_json.specs.Find.{as_array}
use Rattle.serde_json.specs.View.{view, items_view}
use Rattle.serde_json.specs.declared.value.Value.{Value}
use Rattle.command_lines.specs.Values.{◌>>=◌, all_of, pair_of, power_of, powers_of}

-- the items that are left, behind what the first ones gave
abbrev pub after : {A : Type 0} → (Data → Option A) → List A → List Value → Option (List A)
after read done left = all_of read (items_view left) >>= λ ys. Some (done ++ ys)

regroup : {B : Type 0} (r : Option (List B)) (done : List B) (y : B)
    → ((r >>= λ ys. Some (y ∷ ys)) >>= λ ys. Some (done ++ ys)) ≡ (r >>= λ ys. Some ((done ++ y ∷ []) ++ ys))
regroup (Some ys) done y = ap Some (sym (append_assoc done (y ∷ []) ys))
regroup None done y = refl

pub after-step : {A : Type 0} (read : Data → Option A) (done : List A) (vs : List Value) (i : ℕ) (d : Value) (y : A) → i < length vs → Some y ≡ read (view (get_or vs i d))
    → after read done (drop i vs) ≡ after read (done ++ y ∷ []) (drop (i + 1) vs)
after-step read done vs i d y h e = rw (drop-cons vs i d, add-one, ← e) (regroup (all_of read (items_view (drop (suc i) vs))) done y)

pub after-stop : {A : Type 0} (read : Data → Option A) (done : List A) (vs : List Value) (i : ℕ) (d : Value) → i < length vs → None ≡ read (view (get_or vs i d))
    → after read done (drop i vs) ≡ None
after-stop read done vs i d h e = rw (drop-cons vs i d, ← e) refl

-- a point has exactly two items
pub pair_of-not_two : (vs : List Value) → (length vs ≡ 2 → ⊥) → None ≡ pair_of (items_view vs)
pair_of-not_two [] h = refl
pair_of-not_two (v ∷ []) h = refl
pair_of-not_two (v ∷ w ∷ []) h = absurd (h refl)
pair_of-not_two (v ∷ w ∷ x ∷ vs) h = refl

-- what is read of an array has an item for each of its items
counted : {A : Type 0} (n : ℕ) (x : Option A) (xs : Option (List A)) (all : List A) → ((ys : List A) → xs ≡ Some ys → length ys ≡ n)
    → (x >>= λ y. xs >>= λ ys. Some (y ∷ ys)) ≡ Some all → length all ≡ n + 1
counted n None xs all rest is = grind (arith, is)
counted n (Some y) None all rest is = grind (arith, is)
counted n (Some y) (Some ys) all rest is = grind (arith, is, rest ys refl)

length-all_of : {A : Type 0} (read : Data → Option A) (vs : List Value) (xs : List A) → all_of read (items_view vs) ≡ Some xs → length xs ≡ length vs
length-all_of read [] xs is = grind (arith, is)
length-all_of read (v ∷ vs) xs is = counted (length vs) (read (view v)) (all_of read (items_view vs)) xs (length-all_of read vs) is ∙ add-one (length vs)

only_eight : (found : Option (List (Option ℤ))) → ((ps : List (Option ℤ)) → found ≡ Some ps → length ps ≡ 8 → ⊥)
    → None ≡ (found >>= λ ps. if length ps == 8 then Some ps else None)
only_eight None h = refl
only_eight (Some ps) h = grind (arith, h ps refl)

pub powers_of-not_eight : (value : Data) (vs : List Value) → Some (items_view vs) ≡ as_array value → (length vs ≡ 8 → ⊥) → None ≡ powers_of value
unfolding powers_of
powers_of-not_eight value vs is h = rw (← is) (only_eight (all_of power_of (items_view vs)) (λ ps found eight. h (sym (length-all_of power_of vs ps found) ∙ eight)))

eight_stay : (found : Option (List (Option ℤ))) → ((ps : List (Option ℤ)) → found ≡ Some ps → length ps ≡ 8)
    → found ≡ (found >>= λ ps. if length ps == 8 then Some ps else None)
eight_stay None h = refl
eight_stay (Some ps) h = grind (arith, h ps refl)

pub powers_of-eight : (value : Data) (vs : List Value) → Some (items_view vs) ≡ as_array value → length vs ≡ 8 → all_of power_of (items_view vs) ≡ powers_of value
unfolding powers_of
powers_of-eight value vs is h = rw (← is) (eight_stay (all_of power_of (items_view vs)) (λ ps found. length-all_of power_of vs ps found ∙ h))

pub eight_items : (vs : List Value) (a b c d e f g h : Value) → length vs ≡ 8
    → a ≡ get_or vs 0 a → b ≡ get_or vs 1 b → c ≡ get_or vs 2 c → d ≡ get_or vs 3 d → e ≡ get_or vs 4 e → f ≡ get_or vs 5 f → g ≡ get_or vs 6 g → h ≡ get_or vs 7 h
    → (a ∷ b ∷ c ∷ d ∷ e ∷ f ∷ g ∷ h ∷ []) ≡ vs
eight_items (s ∷ t ∷ u ∷ v ∷ w ∷ x ∷ y ∷ z ∷ []) a b c d e f g h is at_0 at_1 at_2 at_3 at_4 at_5 at_6 at_7 = rw (at_0, at_1, at_2, at_3, at_4, at_5, at_6, at_7) refl
eight_items vs a b c d e f g h is at_0 at_1 at_2 at_3 at_4 at_5 at_6 at_7 = absurd (omega (arith, is))
