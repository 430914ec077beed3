-- Rows that are empty from a place on, as an edit goes over them.
use Rattle.std.proofs.Common.{◌≡◌, ℕ, zero, suc, ◌-◌, ◌<◌, ◌≤◌, Bool, true, false, List, [], ◌∷◌, length, get_or, Some, None, refl, sym, ap, ◌∙◌, subst, arith, ◌⊎◌, inl, inr}
use Rattle.std.specs.Prelude.{slice_get, slice_set, not, ◌||◌, Option, IfSome, IsSomeAnd}
use Rattle.std.specs.List.{remove}
use Rattle.std.proofs.lemmas.Bool.{cases_lt}
use Rattle.std.proofs.lemmas.Option.{slice_get_within, slice_get_cases}
use Rattle.scene_parts.specs.Parts.{Receiver}
use Rattle.scene_parts.specs.declared.parts.Part.{Part}
use Rattle.scene_parts.specs.declared.parts.Part.TheVariants as parts
use Rattle.scene_book.specs.declared.edits.Edit.{Edit}
use Rattle.scene_book.specs.declared.edits.Edit.TheVariants as edits
use Rattle.touch_test.specs.Touches.{is_receiver}
use Rattle.map_board.specs.declared.rows.HeldRow.{HeldRow}
use Rattle.map_board.specs.declared.edits.renewing.Change.{Change}
use Rattle.map_board.specs.inner.Boards.{RowHolds, IsEmpty, EmptyFrom}
use Rattle.map_board.specs.inner.Changes.{is_receiver_part, may_name_any, without_place, IsChange, HasRow, IsRowAfter, AreRenewed, NamesNone}
use Rattle.map_board.proofs.AfterEdits.{empty-after}
use Rattle.map_board.proofs.Carrying.{some-item, some-within}

-- ---- edits that name no receiver

not-named : (name : List ℕ) (part : Part) → is_receiver_part part ≡ false → is_receiver name part ≡ false
not-named name (parts.Receiver r) other = absurd (cc other)
not-named name part other = refl

neither : (a b : Bool) → (a || b) ≡ false → (a ≡ false) × (b ≡ false)
neither true b none = absurd (cc none)
neither false b none = (refl, none)

pub names-none : (edit : Edit) (old : Option Part) → may_name_any edit old ≡ false → NamesNone edit old
names-none (edits.Put part) None other name =
    let both = neither (is_receiver_part part) false other in
    rw (not-named name part both.0) refl
names-none (edits.Put part) (Some old) other name =
    let both = neither (is_receiver_part part) (is_receiver_part old) other in
    rw (not-named name part both.0, not-named name old both.1) refl
names-none (edits.Remove gone) None other name = refl
names-none (edits.Remove gone) (Some old) other name = rw (not-named name old other) refl
names-none (edits.Grid grid) old other name = absurd (cc other)
names-none (edits.Set setting) None other name = refl
names-none (edits.Set setting) (Some old) other name = rw (not-named name old other) refl

-- ---- rows from a place on

module _ {A : Type 0} where
  -- what stands at a place after one was taken out stood there, or behind it
  removed-from : (xs : List A) (i k : ℕ) (x : A) → slice_get (remove xs i) k ≡ Some x → (slice_get xs k ≡ Some x) ⊎ (slice_get xs (suc k) ≡ Some x)
  removed-from [] zero k x there = inl there
  removed-from [] (suc i) k x there = inl there
  removed-from (y ∷ xs) zero k x there = inr there
  removed-from (y ∷ xs) (suc i) zero x there = inl there
  removed-from (y ∷ xs) (suc i) (suc k) x there = removed-from xs i k x there

pub empty-without : (n : ℕ) (gone : Option ℕ) (hs : List HeldRow) → EmptyFrom n hs → EmptyFrom n (without_place gone hs)
empty-without n None hs empty k held from there = empty k held from there
empty-without n (Some i) hs empty k held from there = go (removed-from hs i k held there) where
  go : (slice_get hs k ≡ Some held) ⊎ (slice_get hs (suc k) ≡ Some held) → IsEmpty held
  go (inl here) = empty k held from here
  go (inr behind) = empty (suc k) held (omega (arith, from)) behind

if-empty : (n k : ℕ) (hs : List HeldRow) → EmptyFrom n hs → n ≤ k → IfSome (slice_get hs k) IsEmpty
if-empty n k hs empty from = go (slice_get hs k) refl where
  go : (o : Option HeldRow) → slice_get hs k ≡ o → IfSome o IsEmpty
  go None is = tt
  go (Some held) is = empty k held from is

-- a row that is set lies before the place
pub empty-set : (n i : ℕ) (held : HeldRow) (hs : List HeldRow) → i < n → EmptyFrom n hs → EmptyFrom n (slice_set hs i held)
empty-set n i held [] below empty k y from there = empty k y from there
empty-set zero i held (x ∷ hs) below empty k y from there = absurd (omega (arith, below))
empty-set (suc n) zero held (x ∷ hs) below empty zero y from there = absurd (omega (arith, from))
empty-set (suc n) zero held (x ∷ hs) below empty (suc k) y from there = empty (suc k) y from there
empty-set (suc n) (suc i) held (x ∷ hs) below empty zero y from there = absurd (omega (arith, from))
empty-set (suc n) (suc i) held (x ∷ hs) below empty (suc k) y from there =
    empty-set n i held hs (omega (arith, below)) (λ j z past at. empty (suc j) z (omega (arith, past)) at) k y (omega (arith, from)) there

pub empty-later : (n m : ℕ) (hs : List HeldRow) → n ≤ m → EmptyFrom n hs → EmptyFrom m hs
empty-later n m hs below empty k held from there = empty k held (omega (arith, below, from)) there

-- ---- rows after an edit

module _ (change : Change) (news : List Receiver) (before made : List HeldRow) (n : ℕ) (empty : EmptyFrom n before) where
  receiver-at : (k : ℕ) → k < length news → (r : Receiver) × (slice_get news k ≡ Some r)
  receiver-at k below = go (slice_get_cases news k).1 where
    go : ((r : Receiver) × (k < length news) × (slice_get news k ≡ Some r) × (get_or news k r ≡ r)) ⊎ ((length news ≤ k) × (slice_get news k ≡ None)) → (r : Receiver) × (slice_get news k ≡ Some r)
    go (inl at) = (at.0, at.2)
    go (inr past) = absurd (omega (arith, below, past.0))

  pub empty-made : length made ≡ length news
      → ((k : ℕ) (r : Receiver) → slice_get news k ≡ Some r → IsSomeAnd (slice_get made k) (IsRowAfter change r (slice_get before k))) → EmptyFrom n made
  empty-made many are k held from there =
      let r = receiver-at k (omega (arith, many, slice_get_within made k held there)) in
      let row = subst (λ o. IsSomeAnd o (IsRowAfter change r.0 (slice_get before k))) there (are k r.0 r.1) in
      row.empty (if-empty n k before empty from)

  module _ (is : IsChange change) (count : ℕ) (fewer : count < length news → (n ≤ count) × NamesNone change.logged.edit change.logged.old)
      (has : (k : ℕ) (r : Receiver) → slice_get news k ≡ Some r → HasRow change r (slice_get before k))
      (renewed : AreRenewed change news before count made) where
    pub each-renewed : (k : ℕ) (r : Receiver) → slice_get news k ≡ Some r → IsSomeAnd (slice_get made k) (IsRowAfter change r (slice_get before k))
    each-renewed k r at = go (cases_lt k count) where
      go : (k < count) ⊎ (count ≤ k) → IsSomeAnd (slice_get made k) (IsRowAfter change r (slice_get before k))
      go (inl less) = renewed.done k r less at
      go (inr past) =
          let spared = fewer (omega (arith, past, slice_get_within news k r at)) in
          let old = some-item (RowHolds change.past.value r) before k (has k r at (ap not (spared.1 r.name))) in
          let row : IsRowAfter change r (Some old.item) old.item =
          empty-after change is r old.item spared.1 old.holds (empty k old.item (omega (arith, past, spared.0)) old.there) in
          subst (λ o. IsSomeAnd o (IsRowAfter change r (slice_get before k))) (sym (renewed.rest k past ∙ old.there))
          (subst (λ o. IsRowAfter change r o old.item) (sym old.there) row)

    pub count-renewed : length made ≡ length news
    count-renewed = omega (arith, renewed.few, whole (cases_lt count (length news))) where
      whole : (count < length news) ⊎ (length news ≤ count) → length news ≤ length made
      whole (inr past) = omega (arith, past, renewed.upto)
      whole (inl below) =
          let last = receiver-at (length news - 1) (omega (arith, below)) in
          let within = some-within (IsRowAfter change last.0 (slice_get before (length news - 1))) made (length news - 1) (each-renewed (length news - 1) last.0 last.1) in
          omega (arith, within, below)
