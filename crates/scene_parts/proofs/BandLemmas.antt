-- Eight bands, and their levels tested one after another.
use Rattle.std.proofs.Common.{◌≡◌, ◌∙◌, ℕ, ◌+◌, ◌<◌, ◌≤◌, ℤ, refl, sym, ap, subst, List, [], ◌∷◌, length, take, drop, set, get_or, arith}
use Rattle.std.proofs.lemmas.List.{take_all, drop_all, append-nil, take_more_set}
use Rattle.std.specs.Prelude.{Bool, true, false, IsTrue, ◌&&◌, int_le, Option, None, Some, Result, Ok, Err, if◌then◌else◌}
use Rattle.std.specs.List.{list_all}
use Rattle.scene_parts.specs.declared.kinds.Field.TheVariants as fields
use Rattle.scene_parts.specs.declared.faults.PartFault.{PartFault}
use Rattle.scene_parts.specs.declared.faults.PartFault.TheVariants.{OutOfRange}
use Rattle.scene_parts.specs.Answers.{◌>>=◌, each}
use Rattle.scene_parts.specs.Checking.{power_within}
use Rattle.scene_parts.specs.Parts.{is_power_within}
use Rattle.scene_parts.proofs.AnswerLemmas.{after, after-step}

-- a list of eight items is its items
pub eight : {A : Type 0} (xs : List A) (d : A) → length xs ≡ 8
    → xs ≡ get_or xs 0 d ∷ get_or xs 1 d ∷ get_or xs 2 d ∷ get_or xs 3 d ∷ get_or xs 4 d ∷ get_or xs 5 d ∷ get_or xs 6 d ∷ get_or xs 7 d ∷ []
eight (p ∷ q ∷ r ∷ s ∷ t ∷ u ∷ v ∷ w ∷ []) d n = refl
eight [] d n = absurd (omega arith)
eight (p ∷ []) d n = absurd (omega arith)
eight (p ∷ q ∷ []) d n = absurd (omega arith)
eight (p ∷ q ∷ r ∷ []) d n = absurd (omega arith)
eight (p ∷ q ∷ r ∷ s ∷ []) d n = absurd (omega arith)
eight (p ∷ q ∷ r ∷ s ∷ t ∷ []) d n = absurd (omega arith)
eight (p ∷ q ∷ r ∷ s ∷ t ∷ u ∷ []) d n = absurd (omega arith)
eight (p ∷ q ∷ r ∷ s ∷ t ∷ u ∷ v ∷ []) d n = absurd (omega arith)
eight (p ∷ q ∷ r ∷ s ∷ t ∷ u ∷ v ∷ w ∷ x ∷ xs) d n = absurd (omega arith)

-- a level that passes stands behind those before it
pub level-kept : {A B : Type 0} (test : A → Result B PartFault) (lw : List A) (powers : List B) (i : ℕ) (d : A) (y : B)
    → i < length lw → i < length powers → Ok y ≡ test (get_or lw i d)
    → after test (take i powers) (drop i lw) ≡ after test (take (i + 1) (set powers i y)) (drop (i + 1) lw)
level-kept test lw powers i d y given made e =
    after-step test (take i powers) lw i d y given e
    ∙ ap (λ done. after test done (drop (i + 1) lw)) (sym (take_more_set powers i y made))

-- at the end all stand
pub all-kept : {A B : Type 0} (test : A → Result B PartFault) (lw : List A) (powers : List B) (n : ℕ)
    → length lw ≤ n → length powers ≤ n → after test (take n powers) (drop n lw) ≡ Ok powers
all-kept test lw powers n given made = rw (drop_all n lw given, take_all n powers made) (ap Ok (append-nil powers))

both : (p q : Bool) → IsTrue p → IsTrue q → IsTrue (p && q)
both true q h k = k
both false q h k = cc

-- what passes is in its range
pub levels-within : (low high : ℤ) (lw : List (Option ℤ)) (powers : List (Option ℤ))
    → each (power_within low high) lw ≡ Ok powers → IsTrue (list_all (is_power_within low high) powers)
unfolding power_within
levels-within low high [] powers e =
    let is : [] ≡ powers = cc in subst (λ ys. IsTrue (list_all (is_power_within low high) ys)) is refl
levels-within low high (None ∷ xs) powers e = by (each (power_within low high) xs) (levels-within low high xs) e
  where
    by : (rest : Result (List (Option ℤ)) PartFault) → ((ys : List (Option ℤ)) → rest ≡ Ok ys → IsTrue (list_all (is_power_within low high) ys))
        → (rest >>= λ ys. Ok (None ∷ ys)) ≡ Ok powers → IsTrue (list_all (is_power_within low high) powers)
    by (Ok ys) within e =
        let is : None ∷ ys ≡ powers = cc in subst (λ ys. IsTrue (list_all (is_power_within low high) ys)) is (within ys refl)
    by (Err fault) within e = cc
levels-within low high (Some level ∷ xs) powers e =
    by (int_le low level && int_le level high) refl (each (power_within low high) xs) (levels-within low high xs) e
  where
    by : (inside : Bool) → (int_le low level && int_le level high) ≡ inside → (rest : Result (List (Option ℤ)) PartFault)
        → ((ys : List (Option ℤ)) → rest ≡ Ok ys → IsTrue (list_all (is_power_within low high) ys))
        → (((if inside then Ok level else Err (OutOfRange fields.Lw level)) >>= λ y. Ok (Some y)) >>= λ y. rest >>= λ ys. Ok (y ∷ ys)) ≡ Ok powers
        → IsTrue (list_all (is_power_within low high) powers)
    by true inside (Ok ys) within e =
        let is : Some level ∷ ys ≡ powers = cc in
        subst (λ ys. IsTrue (list_all (is_power_within low high) ys)) is
        (both (int_le low level && int_le level high) (list_all (is_power_within low high) ys) inside (within ys refl))
    by true inside (Err fault) within e = cc
    by false inside rest within e = cc
