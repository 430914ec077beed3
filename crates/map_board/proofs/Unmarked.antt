-- Unmarked bundles after an edit's marks.
use Rattle.std.proofs.Common.{◌≡◌, ℕ, Bool, true, false, cond, List, [], ◌∷◌, length, Some, None, refl, sym, ap, ◌∙◌, subst, arith}
use Rattle.std.specs.Prelude.{bytes_eq, Option, ◌||◌}
use Rattle.std.proofs.lemmas.Slice.Eq.{bytes_eq-Decides}
use Rattle.scene_book.specs.Lists.{NoneNamed, AreApart}
use Rattle.path_calc.specs.Bundles.{Bundle}
use Rattle.path_cache.specs.Refreshed.{unmarked}
use Rattle.map_board.proofs.InTurn.{marks_of}

-- ---- one bundle in front of others

first-is : (name : List ℕ) (b : Bundle) (bs : List Bundle) (ms : List Bool) → bytes_eq name b.source ≡ true
    → unmarked name (b ∷ bs) (false ∷ ms) ≡ Some b
first-is name b bs ms same = rw same

pub first-other : (name : List ℕ) (b : Bundle) (bs : List Bundle) (m : Bool) (ms : List Bool) → bytes_eq name b.source ≡ false
    → unmarked name (b ∷ bs) (m ∷ ms) ≡ unmarked name bs ms
first-other name b bs true ms other = refl
first-other name b bs false ms other = rw other

-- none of a name: no unmarked one either
none-unmarked : (name : List ℕ) (kept : List Bundle) (marks : List Bool) → NoneNamed (λ b. b.source) name kept → unmarked name kept marks ≡ None
none-unmarked name [] marks none = refl
none-unmarked name (x ∷ xs) [] none = refl
none-unmarked name (x ∷ xs) (m ∷ ms) none = first-other name x xs m ms none.0 ∙ none-unmarked name xs ms none.1

-- ---- marks by a test of bundles

module _ (touch : Bundle → Bool) where
  -- a bundle, unless it passes the test
  abbrev pub left : Option Bundle → Option Bundle
  left None = None
  left (Some b) = cond (touch b) None (Some b)

  pub length-marks : (bs : List Bundle) (ms : List Bool) → length ms ≡ length bs → length (marks_of touch bs ms) ≡ length bs
  length-marks [] ms same = refl
  length-marks (x ∷ xs) [] same = absurd (omega arith)
  length-marks (x ∷ xs) (m ∷ ms) same = let rest = length-marks xs ms (omega arith) in omega arith

  -- the unmarked bundle of a name after the marks is that before them, unless it passes the test
  pub unmarked-after : (name : List ℕ) (bs : List Bundle) (ms : List Bool) → AreApart (λ b. b.source) bs
      → unmarked name bs (marks_of touch bs ms) ≡ left (unmarked name bs ms)
  unmarked-after name [] ms apart = refl
  unmarked-after name (x ∷ xs) [] apart = refl
  unmarked-after name (x ∷ xs) (m ∷ ms) apart = by_name (bytes_eq name x.source) refl (unmarked-after name xs ms apart.1) where
    none : bytes_eq name x.source ≡ true → (marks : List Bool) → unmarked name xs marks ≡ None
    none named marks =
        none-unmarked name xs marks (subst (λ (n : List ℕ). NoneNamed (λ b. b.source) n xs) (sym ((bytes_eq-Decides name x.source).0 named)) apart.0)

    here : bytes_eq name x.source ≡ true → (mark touched : Bool) → touch x ≡ touched
        → unmarked name (x ∷ xs) ((mark || touched) ∷ marks_of touch xs ms) ≡ left (unmarked name (x ∷ xs) (mark ∷ ms))
    here named true touched t = none named (marks_of touch xs ms) ∙ sym (ap left (none named ms))
    here named false true t = none named (marks_of touch xs ms) ∙ sym (ap left (first-is name x xs ms named) ∙ ap (λ test. cond test None (Some x)) t)
    here named false false t =
        first-is name x xs (marks_of touch xs ms) named ∙ sym (ap left (first-is name x xs ms named) ∙ ap (λ test. cond test None (Some x)) t)

    by_name : (test : Bool) → bytes_eq name x.source ≡ test → unmarked name xs (marks_of touch xs ms) ≡ left (unmarked name xs ms)
        → unmarked name (x ∷ xs) ((m || touch x) ∷ marks_of touch xs ms) ≡ left (unmarked name (x ∷ xs) (m ∷ ms))
    by_name true named later = here named m (touch x) refl
    by_name false named later =
        first-other name x xs (m || touch x) (marks_of touch xs ms) named ∙ (later ∙ ap left (sym (first-other name x xs m ms named)))
