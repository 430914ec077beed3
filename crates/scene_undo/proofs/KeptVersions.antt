-- Kept versions: one list of them in the order of another, taken off the end, and asked for one.
use Rattle.std.proofs.Common.{◌≡◌, ℕ, ◌*◌, true, false, List, [], ◌∷◌, ◌++◌, refl, sym, ap, ◌∙◌, arith, append_assoc}
use Rattle.std.specs.Prelude.{Bool, IsErr, map, reverse, flat_map, nat_lt, ◌==◌, ◌||◌}
use Rattle.std.proofs.lemmas.Bool.Decides.{nat_tests}
use Rattle.std.proofs.lemmas.Grind.{flat_map-append}
use Rattle.std.proofs.lemmas.List.{append-nil, reverse-append, map-append}
use Rattle.std.specs.List.{list_any}
use Rattle.std.proofs.lemmas.List.Folds.{list_any-append}
use Rattle.scene_parts.specs.Parts.{Grid}
use Rattle.scene_book.specs.Book.{Book}
use Rattle.scene_book.specs.Applying.{apply_of, grid_of}
use Rattle.scene_book.specs.declared.edits.Edit.{Edit}
use Rattle.scene_book.specs.declared.edits.Edit.TheVariants as edits
use Rattle.scene_undo.specs.declared.versions.KeptVersion.{KeptVersion}
use Rattle.scene_undo.specs.Versions.{is_kept, kept_in}

pub reversed-cons : {X : Type 0} (x : X) (xs : List X) → reverse (x ∷ xs) ≡ reverse xs ++ x ∷ []
reversed-cons x xs = reverse-append (x ∷ []) xs

-- ---- versions

abbrev pub versions : List KeptVersion → List ℕ
versions kept = map (λ (one : KeptVersion). one.version) kept

-- those of two lists, the later ones first
pub versions-append : (xs ys : List KeptVersion) → kept_in (xs ++ ys) ≡ reverse (versions ys) ++ kept_in xs
versions-append xs ys =
    ap (λ vs. reverse vs ++ 0 ∷ []) (map-append (λ (one : KeptVersion). one.version) xs ys)
    ∙ (ap (λ vs. vs ++ 0 ∷ []) (reverse-append (versions xs) (versions ys)) ∙ append_assoc (reverse (versions ys)) (reverse (versions xs)) (0 ∷ []))

-- those of a list with one more
pub kept-one-more : (xs : List KeptVersion) (one : KeptVersion) → kept_in (xs ++ one ∷ []) ≡ one.version ∷ kept_in xs
kept-one-more xs one = versions-append xs (one ∷ [])

-- ---- too many at once

-- a grid of more receivers than a scene holds
pub large-refused : (grid : Grid) (book : Book) → nat_lt 4096 (grid.columns * grid.rows) ≡ true → IsErr (apply_of (edits.Grid grid) book)
unfolding apply_of grid_of
large-refused grid book h = rw h refl

-- ---- taken off the end

pub later-parts : (kept left later : List KeptVersion) (one : KeptVersion) → kept ≡ left ++ one ∷ [] → kept ++ later ≡ left ++ one ∷ later
later-parts kept left later one is = ap (λ (ks : List KeptVersion). ks ++ later) is ∙ append_assoc left (one ∷ []) later

pub later-edits : (later : List KeptVersion) (one : KeptVersion)
    → flat_map (λ (k : KeptVersion). k.back) (reverse later) ++ one.back ≡ flat_map (λ (k : KeptVersion). k.back) (reverse (one ∷ later))
later-edits later one =
    sym (ap (flat_map (λ (k : KeptVersion). k.back)) (reversed-cons one later)
    ∙ (flat_map-append (λ (k : KeptVersion). k.back) (reverse later) (one ∷ [])
    ∙ ap (λ (es : List Edit). flat_map (λ (k : KeptVersion). k.back) (reverse later) ++ es) (append-nil one.back)))

-- ---- whether a version is kept

kept-any-of : (version : ℕ) (kept : List KeptVersion) → list_any (λ v. v == version) (versions kept) ≡ list_any (λ (one : KeptVersion). one.version == version) kept
kept-any-of version [] = refl
kept-any-of version (one ∷ kept) = ap (λ b. (one.version == version) || b) (kept-any-of version kept)

any-reversed : (p : ℕ → Bool) (xs : List ℕ) → list_any p (reverse xs) ≡ list_any p xs
any-reversed p [] = refl
any-reversed p (x ∷ xs) =
    ap (list_any p) (reversed-cons x xs)
    ∙ (list_any-append p (reverse xs) (x ∷ [])
    ∙ (ap (λ b. b || list_any p (x ∷ [])) (any-reversed p xs) ∙ either (p x) (list_any p xs)))
  where
    either : (a b : Bool) → (b || (a || false)) ≡ (a || b)
    either true true = refl
    either true false = refl
    either false true = refl
    either false false = refl

kept-any-all : (version : ℕ) (kept : List KeptVersion) → is_kept version (kept_in kept) ≡ (list_any (λ (one : KeptVersion). one.version == version) kept || (0 == version))
kept-any-all version kept =
    list_any-append (λ v. v == version) (reverse (versions kept)) (0 ∷ [])
    ∙ (λ i. (any-reversed (λ v. v == version) (versions kept) ∙ kept-any-of version kept) i || last (0 == version) i)
  where
    last : (b : Bool) → (b || false) ≡ b
    last true = refl
    last false = refl

is_other : (version : ℕ) → (version ≡ 0 → ⊥) → (0 == version) ≡ false
is_other version h = grind (arith, nat_tests)

-- beside 0, those in the list
pub others-kept : (version : ℕ) (kept : List KeptVersion) → (version ≡ 0 → ⊥) → list_any (λ (one : KeptVersion). one.version == version) kept ≡ is_kept version (kept_in kept)
others-kept version kept other = sym (kept-any-all version kept ∙ (ap (λ b. list_any (λ (one : KeptVersion). one.version == version) kept || b) (is_other version other) ∙ no-more (list_any (λ (one : KeptVersion). one.version == version) kept))) where
  no-more : (b : Bool) → (b || false) ≡ b
  no-more true = refl
  no-more false = refl
