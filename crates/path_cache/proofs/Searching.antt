-- Searching bundles and marks, one place after another, for an unmarked bundle.
use Rattle.std.proofs.Common.{◌≡◌, ℕ, zero, suc, ◌+◌, ◌<◌, Bool, true, false, cond, List, [], ◌∷◌, length, get_or, drop, Some, None, refl, sym, ap, ◌∙◌, subst, arith, add-one}
use Rattle.std.proofs.lemmas.Slice.Eq.{bytes_eq-Decides}
use Rattle.std.proofs.lemmas.Option.{same_Some}
use Rattle.std.specs.Prelude.{bytes_eq}
use Rattle.std.proofs.Math.Seq.{drop-cons}
use Rattle.scene_book.specs.Lists.{NoneNamed, AreApart}
use Rattle.path_calc.specs.Bundles.{Bundle}
use Rattle.path_cache.specs.Refreshed.{unmarked}

first-is : (name : List ℕ) (b : Bundle) (bs : List Bundle) (m : Bool) (ms : List Bool) → m ≡ false → bytes_eq name b.source ≡ true
    → unmarked name (b ∷ bs) (m ∷ ms) ≡ Some b
first-is name b bs m ms plain same = rw plain (rw same)

first-marked : (name : List ℕ) (b : Bundle) (bs : List Bundle) (m : Bool) (ms : List Bool) → m ≡ true
    → unmarked name (b ∷ bs) (m ∷ ms) ≡ unmarked name bs ms
first-marked name b bs m ms marked = rw marked

first-other : (name : List ℕ) (b : Bundle) (bs : List Bundle) (m : Bool) (ms : List Bool) → bytes_eq name b.source ≡ false
    → unmarked name (b ∷ bs) (m ∷ ms) ≡ unmarked name bs ms
first-other name b bs true ms other = refl
first-other name b bs false ms other = rw other

-- the search from a place on looks at that place first
at-place : (name : List ℕ) (kept : List Bundle) (marks : List Bool) (i : ℕ) (b : Bundle) → i < length kept → length marks ≡ length kept → b ≡ get_or kept i b
    → unmarked name (drop i kept) (drop i marks) ≡ unmarked name (b ∷ drop (suc i) kept) (get_or marks i false ∷ drop (suc i) marks)
at-place name kept marks i b below same is =
    let inside : i < length marks = omega arith in
    let bundles : drop i kept ≡ b ∷ drop (suc i) kept = drop-cons kept i b below ∙ ap (λ x. x ∷ drop (suc i) kept) (sym is) in
    ap (λ bs. unmarked name bs (drop i marks)) bundles ∙ ap (unmarked name (b ∷ drop (suc i) kept)) (drop-cons marks i false inside)

pub found-at : (name : List ℕ) (kept : List Bundle) (marks : List Bool) (i : ℕ) (b : Bundle) → i < length kept → length marks ≡ length kept → b ≡ get_or kept i b
    → get_or marks i false ≡ false → bytes_eq name b.source ≡ true → unmarked name kept marks ≡ unmarked name (drop i kept) (drop i marks)
    → Some b ≡ unmarked name kept marks
found-at name kept marks i b below same is plain named so_far =
    sym (so_far ∙ (at-place name kept marks i b below same is ∙ first-is name b (drop (suc i) kept) (get_or marks i false) (drop (suc i) marks) plain named))

pub past-marked : (name : List ℕ) (kept : List Bundle) (marks : List Bool) (i : ℕ) (b : Bundle) → i < length kept → length marks ≡ length kept → b ≡ get_or kept i b
    → get_or marks i false ≡ true → unmarked name kept marks ≡ unmarked name (drop i kept) (drop i marks)
    → unmarked name kept marks ≡ unmarked name (drop (i + 1) kept) (drop (i + 1) marks)
past-marked name kept marks i b below same is marked so_far =
    rw (add-one) (so_far ∙ (at-place name kept marks i b below same is ∙ first-marked name b (drop (suc i) kept) (get_or marks i false) (drop (suc i) marks) marked))

pub past-other : (name : List ℕ) (kept : List Bundle) (marks : List Bool) (i : ℕ) (b : Bundle) → i < length kept → length marks ≡ length kept → b ≡ get_or kept i b
    → bytes_eq name b.source ≡ false → unmarked name kept marks ≡ unmarked name (drop i kept) (drop i marks)
    → unmarked name kept marks ≡ unmarked name (drop (i + 1) kept) (drop (i + 1) marks)
past-other name kept marks i b below same is other so_far =
    rw (add-one) (so_far ∙ (at-place name kept marks i b below same is ∙ first-other name b (drop (suc i) kept) (get_or marks i false) (drop (suc i) marks) other))

-- an unmarked bundle of a name is that of its source
pub unmarked-named : (name : List ℕ) (kept : List Bundle) (marks : List Bool) (b : Bundle) → unmarked name kept marks ≡ Some b → name ≡ b.source
unmarked-named name [] marks b is = cc
unmarked-named name (x ∷ xs) [] b is = cc
unmarked-named name (x ∷ xs) (true ∷ ms) b is = unmarked-named name xs ms b (sym (first-marked name x xs true ms refl) ∙ is)
unmarked-named name (x ∷ xs) (false ∷ ms) b is = go (bytes_eq name x.source) refl (unmarked-named name xs ms b) where
  go : (test : Bool) → bytes_eq name x.source ≡ test → (unmarked name xs ms ≡ Some b → name ≡ b.source) → name ≡ b.source
  go true same rest =
      let found : Some x ≡ Some b = sym (first-is name x xs false ms refl same) ∙ is in
      (bytes_eq-Decides name x.source).0 same ∙ ap (λ (y : Bundle). y.source) (same_Some x b found)
  go false other rest = rest (sym (first-other name x xs false ms other) ∙ is)

-- ---- where no two bundles are of one source

-- none of a name: no unmarked one either
none-unmarked : (name : List ℕ) (kept : List Bundle) (marks : List Bool) → NoneNamed (λ b. b.source) name kept → unmarked name kept marks ≡ None
none-unmarked name [] marks none = refl
none-unmarked name (x ∷ xs) [] none = refl
none-unmarked name (x ∷ xs) (m ∷ ms) none = first-other name x xs m ms none.0 ∙ none-unmarked name xs ms none.1

none-at : (name : List ℕ) (kept : List Bundle) (i : ℕ) (b : Bundle) → NoneNamed (λ b. b.source) name kept → i < length kept → b ≡ get_or kept i b
    → bytes_eq name b.source ≡ false
none-at name [] i b none below is = absurd (omega arith)
none-at name (x ∷ xs) zero b none below is = ap (λ (y : Bundle). bytes_eq name y.source) is ∙ none.0
none-at name (x ∷ xs) (suc i) b none below is = none-at name xs i b none.1 (omega arith) is

-- the bundle of a name at a place is the one, unless it is marked
at-hint : (name : List ℕ) (kept : List Bundle) (marks : List Bool) (i : ℕ) (b : Bundle) → AreApart (λ b. b.source) kept → i < length kept
    → length marks ≡ length kept → b ≡ get_or kept i b → bytes_eq name b.source ≡ true
    → unmarked name kept marks ≡ cond (get_or marks i false) None (Some b)
at-hint name [] marks i b apart below same is named = absurd (omega arith)
at-hint name (x ∷ xs) [] i b apart below same is named = absurd (omega arith)
at-hint name (x ∷ xs) (m ∷ ms) zero b apart below same is named = go m where
  here : bytes_eq name x.source ≡ true
  here = ap (λ (y : Bundle). bytes_eq name y.source) (sym is) ∙ named

  n : name ≡ x.source
  n = (bytes_eq-Decides name x.source).0 here

  go : (mark : Bool) → unmarked name (x ∷ xs) (mark ∷ ms) ≡ cond mark None (Some b)
  go true =
      first-marked name x xs true ms refl
      ∙ none-unmarked name xs ms (subst (λ (k : List ℕ). NoneNamed (λ b. b.source) k xs) (sym n) apart.0)
  go false = first-is name x xs false ms refl here ∙ ap (λ y. Some y) (sym is)
at-hint name (x ∷ xs) (m ∷ ms) (suc i) b apart below same is named =
    let n : name ≡ b.source = (bytes_eq-Decides name b.source).0 named in
    let away : bytes_eq x.source b.source ≡ false = none-at x.source xs i b apart.0 (omega arith) is in
    let other : bytes_eq name x.source ≡ false = apart-names name x.source (ap (bytes_eq x.source) n ∙ away) in
    first-other name x xs m ms other ∙ at-hint name xs ms i b apart.1 (omega arith) (omega arith) is named where
      apart-names : (a c : List ℕ) → bytes_eq c a ≡ false → bytes_eq a c ≡ false
      apart-names a c e = go (bytes_eq a c) refl where
        go : (test : Bool) → bytes_eq a c ≡ test → test ≡ false
        go false h = refl
        go true h = let is_same : c ≡ a = sym ((bytes_eq-Decides a c).0 h) in sym ((bytes_eq-Decides c a).1 is_same) ∙ e

pub hint-marked : (name : List ℕ) (kept : List Bundle) (marks : List Bool) (i : ℕ) (b : Bundle) → AreApart (λ b. b.source) kept → i < length kept
    → length marks ≡ length kept → b ≡ get_or kept i b → bytes_eq name b.source ≡ true → get_or marks i false ≡ true → None ≡ unmarked name kept marks
hint-marked name kept marks i b apart below same is named marked =
    sym (at-hint name kept marks i b apart below same is named ∙ ap (λ m. cond m None (Some b)) marked)

pub hint-plain : (name : List ℕ) (kept : List Bundle) (marks : List Bool) (i : ℕ) (b : Bundle) → AreApart (λ b. b.source) kept → i < length kept
    → length marks ≡ length kept → b ≡ get_or kept i b → bytes_eq name b.source ≡ true → get_or marks i false ≡ false → Some b ≡ unmarked name kept marks
hint-plain name kept marks i b apart below same is named plain =
    sym (at-hint name kept marks i b apart below same is named ∙ ap (λ m. cond m None (Some b)) plain)
