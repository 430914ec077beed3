-- Rows with new bundles in the places of kept ones.
use Rattle.std.proofs.Common.{◌≡◌, ℕ, zero, suc, ◌<◌, List, [], ◌∷◌, ◌++◌, length, take, drop, Some, refl, sym, ap, subst, ◌∙◌}
use Rattle.std.specs.Prelude.{All, slice_get, slice_set}
use Rattle.std.proofs.lemmas.Option.{same_Some, slice_get_within}
use Rattle.std.proofs.lemmas.List.{length-set, set_split}
use Rattle.std.proofs.lemmas.List.Elements.{All-head, All-tail, All-rest, All-set}
use Rattle.path_calc.specs.Bundles.{Bundle}
use Rattle.path_cache.specs.declared.sums.RowSums.{RowSums}
use Rattle.path_cache.specs.declared.replacing.Replaced.{Replaced}
use Rattle.path_cache.specs.Sums.{Fits}
use Rattle.path_cache.specs.Renewals.{with_each}

pub length-each : (news : List Replaced) (kept : List Bundle) → length (with_each news kept) ≡ length kept
length-each [] kept = refl
length-each (new ∷ news) kept = length-each news (slice_set kept new.place new.bundle.value) ∙ length-set kept new.place new.bundle.value

-- one new bundle more
pub each-push : (news : List Replaced) (new : Replaced) (kept : List Bundle) → with_each (news ++ new ∷ []) kept ≡ slice_set (with_each news kept) new.place new.bundle.value
each-push [] new kept = refl
each-push (x ∷ news) new kept = each-push news new (slice_set kept x.place x.bundle.value)

-- what holds of the kept bundles and of the new ones holds of all
pub All-each : (P : Bundle → Type 0) (news : List Replaced) (kept : List Bundle) → All P kept → All (λ new. P new.bundle.value) news → All P (with_each news kept)
All-each P [] kept olds all = olds
All-each P (new ∷ news) kept olds all =
    All-each P news (slice_set kept new.place new.bundle.value)
    (All-set P kept new.place new.bundle.value (All-head (λ x. P x.bundle.value) new news all) olds)
    (All-tail (λ x. P x.bundle.value) new news all)

-- a list with the element at a place between those before and behind it
pub split-here : {A : Type 0} (xs : List A) (i : ℕ) (x : A) → slice_get xs i ≡ Some x → xs ≡ take i xs ++ x ∷ drop (suc i) xs
split-here [] i x is = cc
split-here (y ∷ ys) zero x is = ap (λ z. z ∷ ys) (same_Some y x is)
split-here (y ∷ ys) (suc i) x is = ap (λ zs. y ∷ zs) (split-here ys i x is)

-- sums fit a row with a bundle in the place of another, where one was taken off them and the other added
pub fits-replaced : (row : List Bundle) (place : ℕ) (old new : Bundle) (before between after : RowSums) → slice_get row place ≡ Some old → Fits before row
    → ((front back : List Bundle) → Fits before (front ++ old ∷ back) → Fits between (front ++ back))
    → ((front back : List Bundle) → Fits between (front ++ back) → Fits after (front ++ new ∷ back))
    → Fits after (slice_set row place new)
fits-replaced row place old new before between after there fit off on =
    let front = take place row in
    let back = drop (suc place) row in
    subst (Fits after) (sym (set_split row place new (slice_get_within row place old there)))
    (on front back (off front back (subst (Fits before) (split-here row place old there) fit)))

-- ---- new bundles that are put one by one from the front

module _ (news rest : List Replaced) (replaced : Replaced) (is : news ≡ replaced ∷ rest) where
  pub put-on : (bundles all : List Bundle) (value : Bundle) → value ≡ replaced.bundle.value → with_each news bundles ≡ all
      → with_each rest (slice_set bundles replaced.place value) ≡ all
  put-on bundles all value same given =
      ap (λ v. with_each rest (slice_set bundles replaced.place v)) same ∙ ap (λ ns. with_each ns bundles) (sym is) ∙ given

  pub first-place : (n : ℕ) → All (λ (x : Replaced). x.place < n) news → replaced.place < n
  first-place n all = All-head (λ (x : Replaced). x.place < n) replaced rest (subst (All (λ (x : Replaced). x.place < n)) is all)

  pub still-places : (bundles : List Bundle) (value : Bundle) → All (λ (x : Replaced). x.place < length bundles) news
      → All (λ (x : Replaced). x.place < length (slice_set bundles replaced.place value)) rest
  still-places bundles value all =
      subst (λ n. All (λ (x : Replaced). x.place < n) rest) (sym (length-set bundles replaced.place value))
      (All-rest (λ (x : Replaced). x.place < length bundles) replaced rest news is all)
