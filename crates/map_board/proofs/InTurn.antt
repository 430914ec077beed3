-- Marks of things by a test of each, one place after another.
use Rattle.std.proofs.Common.{◌≡◌, ℕ, suc, ◌+◌, ◌<◌, Bool, true, false, List, [], ◌∷◌, ◌++◌, length, map, get_or, set, take, drop, refl, sym, ap, ◌∙◌, arith, add-one, append_assoc}
use Rattle.std.specs.Prelude.{◌||◌, ◌&&◌}
use Rattle.std.specs.List.{zip, list_any}
use Rattle.std.proofs.lemmas.List.Folds.{list_any-append}
use Rattle.std.proofs.Math.Seq.{drop-cons, take-suc, take-suc-set}
use Rattle.std.proofs.lemmas.List.{drop-set-lt}

module _ {A : Type 0} (touch : A → Bool) where
  abbrev pub mark_of : A × Bool → Bool
  mark_of kept = kept.1 || touch kept.0

  abbrev pub marks_of : List A → List Bool → List Bool
  marks_of bundles marks = map mark_of (zip bundles marks)

  or-same : (m t : Bool) → t ≡ false → m ≡ (m || t)
  or-same true t plain = refl
  or-same false t plain = sym plain

  or-set : (m t : Bool) → t ≡ true → true ≡ (m || t)
  or-set true t set = refl
  or-set false t set = sym set

  here-at : (bs : List A) (ms : List Bool) (i : ℕ) (b : A) → i < length bs → length ms ≡ length bs → b ≡ get_or bs i b
      → marks_of (drop i bs) (drop i ms) ≡ (get_or ms i false || touch b) ∷ marks_of (drop (suc i) bs) (drop (suc i) ms)
  here-at bs ms i b below same is =
      let inside : i < length ms = omega arith in
      let bundles : drop i bs ≡ b ∷ drop (suc i) bs = drop-cons bs i b below ∙ ap (λ x. x ∷ drop (suc i) bs) (sym is) in
      ap (λ xs. marks_of xs (drop i ms)) bundles ∙ ap (marks_of (b ∷ drop (suc i) bs)) (drop-cons ms i false inside)

  pub past-set : (bs : List A) (ms all : List Bool) (i : ℕ) (b : A) (mark : Bool) → i < length bs → length ms ≡ length bs → b ≡ get_or bs i b
      → mark ≡ (get_or ms i false || touch b) → take i ms ++ marks_of (drop i bs) (drop i ms) ≡ all
      → take (i + 1) (set ms i mark) ++ marks_of (drop (i + 1) bs) (drop (i + 1) (set ms i mark)) ≡ all
  past-set bs ms all i b mark below same is set_to so_far =
      let inside : i < length ms = omega arith in
      rw (add-one) (ap (λ xs. take (suc i) (set ms i mark) ++ marks_of (drop (suc i) bs) xs) (drop-set-lt (suc i) ms i mark (omega arith))
      ∙ (ap (λ xs. xs ++ marks_of (drop (suc i) bs) (drop (suc i) ms)) (take-suc-set ms i mark inside)
      ∙ (append_assoc (take i ms) (mark ∷ []) (marks_of (drop (suc i) bs) (drop (suc i) ms))
      ∙ (ap (λ m. take i ms ++ m ∷ marks_of (drop (suc i) bs) (drop (suc i) ms)) set_to
      ∙ (ap (λ xs. take i ms ++ xs) (sym (here-at bs ms i b below same is)) ∙ so_far)))))

  pub past-touched : (bs : List A) (ms all : List Bool) (i : ℕ) (b : A) → i < length bs → length ms ≡ length bs → b ≡ get_or bs i b → touch b ≡ true
      → take i ms ++ marks_of (drop i bs) (drop i ms) ≡ all
      → take (i + 1) (set ms i true) ++ marks_of (drop (i + 1) bs) (drop (i + 1) (set ms i true)) ≡ all
  past-touched bs ms all i b below same is touched so_far =
      past-set bs ms all i b true below same is (or-set (get_or ms i false) (touch b) touched) so_far

  pub past-plain : (bs : List A) (ms all : List Bool) (i : ℕ) (b : A) → i < length bs → length ms ≡ length bs → b ≡ get_or bs i b → touch b ≡ false
      → take i ms ++ marks_of (drop i bs) (drop i ms) ≡ all
      → take (i + 1) ms ++ marks_of (drop (i + 1) bs) (drop (i + 1) ms) ≡ all
  past-plain bs ms all i b below same is plain so_far =
      let inside : i < length ms = omega arith in
      let mark : get_or ms i false ≡ (get_or ms i false || touch b) = or-same (get_or ms i false) (touch b) plain in
      rw (add-one) (ap (λ xs. xs ++ marks_of (drop (suc i) bs) (drop (suc i) ms)) (take-suc ms i false inside)
      ∙ (append_assoc (take i ms) (get_or ms i false ∷ []) (marks_of (drop (suc i) bs) (drop (suc i) ms))
      ∙ (ap (λ m. take i ms ++ m ∷ marks_of (drop (suc i) bs) (drop (suc i) ms)) mark
      ∙ (ap (λ xs. take i ms ++ xs) (sym (here-at bs ms i b below same is)) ∙ so_far))))

  one-next : (bs : List A) (i : ℕ) (b : A) → i < length bs → b ≡ get_or bs i b
      → list_any touch (take (i + 1) bs) ≡ (list_any touch (take i bs) || touch b)
  one-next bs i b below is =
      rw (add-one) (ap (list_any touch) (take-suc bs i b below)
      ∙ (list_any-append touch (take i bs) (get_or bs i b ∷ [])
      ∙ ap (λ x. list_any touch (take i bs) || x) (or-last (touch (get_or bs i b)) ∙ ap touch (sym is)))) where
        or-last : (t : Bool) → (t || false) ≡ t
        or-last true = refl
        or-last false = refl

  -- one of the first things passes the test
  pub one-touched : (bs : List A) (i : ℕ) (b : A) → i < length bs → b ≡ get_or bs i b → touch b ≡ true → true ≡ list_any touch (take (i + 1) bs)
  one-touched bs i b below is touched =
      sym (one-next bs i b below is ∙ (ap (λ t. list_any touch (take i bs) || t) touched ∙ or-true (list_any touch (take i bs)))) where
        or-true : (x : Bool) → (x || true) ≡ true
        or-true true = refl
        or-true false = refl

  pub one-plain : (bs : List A) (i : ℕ) (b : A) → i < length bs → b ≡ get_or bs i b → touch b ≡ false → list_any touch (take i bs) ≡ list_any touch (take (i + 1) bs)
  one-plain bs i b below is plain =
      sym (one-next bs i b below is ∙ (ap (λ t. list_any touch (take i bs) || t) plain ∙ or-false (list_any touch (take i bs)))) where
        or-false : (x : Bool) → (x || false) ≡ x
        or-false true = refl
        or-false false = refl

  -- ---- tests that were made before, of things that may have been marked

  -- a thing, with its mark where the marks count
  abbrev pub counting : Bool → A × Bool → A × Bool
  counting counts kept = (kept.0, counts && kept.1)

  abbrev pub tests_by : Bool → List A → List Bool → List Bool
  tests_by counts bs ms = map mark_of (map (counting counts) (zip bs ms))

  either : (counts m t : Bool) → (m || ((counts && m) || t)) ≡ (m || t)
  either counts true t = refl
  either true false t = refl
  either false false t = refl

  pub marks-tested : (counts : Bool) (bs : List A) (ms : List Bool) → map (λ pair. pair.1 || pair.0) (zip (tests_by counts bs ms) ms) ≡ marks_of bs ms
  marks-tested counts [] ms = refl
  marks-tested counts (b ∷ bs) [] = refl
  marks-tested counts (b ∷ bs) (m ∷ ms) = λ i. either counts m (touch b) i ∷ marks-tested counts bs ms i

  pub count-tested : (counts : Bool) (bs : List A) (ms : List Bool) → length ms ≡ length bs → length (tests_by counts bs ms) ≡ length ms
  count-tested counts [] [] same = refl
  count-tested counts [] (m ∷ ms) same = absurd (omega arith)
  count-tested counts (b ∷ bs) [] same = refl
  count-tested counts (b ∷ bs) (m ∷ ms) same = let rest = count-tested counts bs ms (omega arith) in omega (arith, rest)

  pub one-tested : (bs : List A) (ms : List Bool) → length ms ≡ length bs → list_any (λ test. test) (tests_by false bs ms) ≡ list_any touch bs
  one-tested [] ms same = refl
  one-tested (b ∷ bs) [] same = absurd (omega arith)
  one-tested (b ∷ bs) (m ∷ ms) same = ap (λ t. touch b || t) (one-tested bs ms (omega arith))
