-- Rows at their places as they go over from the scene before an edit to the scene after it.
use Rattle.std.proofs.Common.{◌≡◌, ℕ, zero, suc, ◌+◌, ◌<◌, ◌≤◌, Bool, true, false, cond, List, [], ◌∷◌, ◌++◌, length, map, set, get_or, Some, refl, sym, ap, ◌∙◌, subst, arith, ◌⊎◌, inl, inr}
use Rattle.std.specs.Prelude.{slice_get, not, unwrap_or, Option, IfSome, IsSomeAnd}
use Rattle.std.proofs.lemmas.Bool.{cases_lt}
use Rattle.std.proofs.lemmas.Option.{slice_get_read}
use Rattle.scene_parts.specs.Parts.{Receiver}
use Rattle.scene_book.specs.Lists.{AreApart}
use Rattle.scene_book.specs.declared.edits.Edit.{Edit}
use Rattle.touch_test.specs.Touches.{names_receiver}
use Rattle.map_board.specs.declared.rows.HeldRow.{HeldRow}
use Rattle.map_board.specs.declared.edits.renewing.Change.{Change}
use Rattle.map_board.specs.Journal.{names}
use Rattle.map_board.specs.Rows.{Row, row_named}
use Rattle.map_board.specs.Machine.{new_row, row_after}
use Rattle.map_board.specs.Boards.{row_of, rows_of}
use Rattle.map_board.specs.inner.Boards.{RowHolds, EachHolds}
use Rattle.map_board.specs.inner.Changes.{scene_before, scene_after, journal_after, is_unnamed, removed_place, without_place, placed, IsChange, HasRow, IsRowAfter, AreRenewed}
use Rattle.map_board.proofs.Places.{row-at, each-lengths}
use Rattle.map_board.proofs.AfterEdits.{names-as, fresh-row, fresh-holds}
use Rattle.map_board.proofs.Staying.{receivers_after, accepted-receivers, Stays, stays, gone-within, rows-left}

-- ---- a thing put at a place

module _ {A : Type 0} where
  pub placed-there : (i : ℕ) (y : A) (xs : List A) → i ≤ length xs → slice_get (placed i y xs) i ≡ Some y
  placed-there zero y [] upto = refl
  placed-there (suc i) y [] upto = absurd (omega arith)
  placed-there zero y (x ∷ xs) upto = refl
  placed-there (suc i) y (x ∷ xs) upto = placed-there i y xs (omega arith)

  pub placed-other : (i k : ℕ) (y : A) (xs : List A) → i ≤ length xs → (i < k) ⊎ (k < i) → slice_get (placed i y xs) k ≡ slice_get xs k
  placed-other zero zero y [] upto (inl h) = absurd (omega arith)
  placed-other zero zero y [] upto (inr h) = absurd (omega arith)
  placed-other zero (suc k) y [] upto apart = refl
  placed-other (suc i) k y [] upto apart = absurd (omega arith)
  placed-other zero zero y (x ∷ xs) upto (inl h) = absurd (omega arith)
  placed-other zero zero y (x ∷ xs) upto (inr h) = absurd (omega arith)
  placed-other zero (suc k) y (x ∷ xs) upto apart = refl
  placed-other (suc i) zero y (x ∷ xs) upto apart = refl
  placed-other (suc i) (suc k) y (x ∷ xs) upto (inl h) = placed-other i k y xs (omega arith) (inl (omega arith))
  placed-other (suc i) (suc k) y (x ∷ xs) upto (inr h) = placed-other i k y xs (omega arith) (inr (omega arith))

  pub placed-within : (i : ℕ) (y : A) (xs : List A) → i ≤ length xs → i < length (placed i y xs)
  placed-within zero y [] upto = omega arith
  placed-within (suc i) y [] upto = omega arith
  placed-within zero y (x ∷ xs) upto = omega arith
  placed-within (suc i) y (x ∷ xs) upto = let rest = placed-within i y xs (omega arith) in omega (arith, rest)

  pub placed-longer : (i : ℕ) (y : A) (xs : List A) → length xs ≤ length (placed i y xs)
  placed-longer i y [] = omega arith
  placed-longer zero y (x ∷ xs) = omega arith
  placed-longer (suc i) y (x ∷ xs) = let rest = placed-longer i y xs in omega (arith, rest)

  pub placed-few : (i n : ℕ) (y : A) (xs : List A) → length xs ≤ n → i < n → i ≤ length xs → length (placed i y xs) ≤ n
  placed-few i n y [] few below upto = omega arith
  placed-few zero n y (x ∷ xs) few below upto = omega (arith, few)
  placed-few (suc i) zero y (x ∷ xs) few below upto = absurd (omega (arith, few))
  placed-few (suc i) (suc n) y (x ∷ xs) few below upto = let rest = placed-few i n y xs (omega arith) (omega arith) (omega arith) in omega (arith, rest)

  pub placed-set : (i : ℕ) (y : A) (xs : List A) → i < length xs → set xs i y ≡ placed i y xs
  placed-set i y [] below = absurd (omega arith)
  placed-set zero y (x ∷ xs) below = refl
  placed-set (suc i) y (x ∷ xs) below = ap (λ l. x ∷ l) (placed-set i y xs (omega arith))

  pub placed-push : (i : ℕ) (y : A) (xs : List A) → i ≤ length xs → length xs ≤ i → xs ++ y ∷ [] ≡ placed i y xs
  placed-push i y [] upto past = refl
  placed-push zero y (x ∷ xs) upto past = absurd (omega arith)
  placed-push (suc i) y (x ∷ xs) upto past = ap (λ l. x ∷ l) (placed-push i y xs (omega arith) (omega arith))

  pub placed-same : (i : ℕ) (x : A) (xs : List A) → slice_get xs i ≡ Some x → xs ≡ placed i x xs
  placed-same i x [] there = absurd (cc there)
  placed-same zero x (y ∷ xs) there = let is : y ≡ x = cc there in ap (λ z. z ∷ xs) is
  placed-same (suc i) x (y ∷ xs) there = ap (λ l. y ∷ l) (placed-same i x xs there)

-- ---- what stands at a place

module _ {A : Type 0} where
  pub item-holds : (P : A → Type 0) (xs : List A) (i : ℕ) (x : A) → IsSomeAnd (slice_get xs i) P → x ≡ get_or xs i x → P x
  item-holds P [] i x there is = absurd there
  item-holds P (y ∷ xs) zero x there is = subst P (sym is) there
  item-holds P (y ∷ xs) (suc i) x there is = item-holds P xs i x there is

  pub record Item (P : A → Type 0) (xs : List A) (i : ℕ) : Type 0 where
    pub item : A
    pub there : slice_get xs i ≡ Some item
    pub holds : P item

  pub some-item : (P : A → Type 0) (xs : List A) (i : ℕ) → IsSomeAnd (slice_get xs i) P → Item P xs i
  some-item P [] i there = absurd there
  some-item P (y ∷ xs) zero there = record { item = y; there = refl; holds = there }
  some-item P (y ∷ xs) (suc i) there = let rest = some-item P xs i there in record { item = rest.item; there = rest.there; holds = rest.holds }

  pub some-within : (P : A → Type 0) (xs : List A) (i : ℕ) → IsSomeAnd (slice_get xs i) P → i < length xs
  some-within P [] i there = absurd there
  some-within P (y ∷ xs) zero there = omega arith
  some-within P (y ∷ xs) (suc i) there = let rest = some-within P xs i there in omega (arith, rest)

  pub item-there : (P : A → Type 0) (xs : List A) (i : ℕ) (x : A) → i < length xs → x ≡ get_or xs i x → P x → IsSomeAnd (slice_get xs i) P
  item-there P xs i x below is holds = subst (λ o. IsSomeAnd o P) (sym (slice_get_read xs (length xs) i x refl below is)) holds

-- ---- rows by their places

pub record RowThere (journal : List Edit) (hs : List HeldRow) (i : ℕ) (r : Receiver) : Type 0 where
  pub held : HeldRow
  pub found : slice_get hs i ≡ Some held
  pub holds : RowHolds journal r held

each-there : (journal : List Edit) (rs : List Receiver) (hs : List HeldRow) (i : ℕ) (r : Receiver) → EachHolds journal rs hs → slice_get rs i ≡ Some r → RowThere journal hs i r
each-there journal [] hs i r each at = absurd (cc at)
each-there journal (x ∷ rs) [] i r each at = absurd each
each-there journal (x ∷ rs) (h ∷ hs) zero r each at =
    let is : x ≡ r = cc at in record { held = h; found = refl; holds = subst (λ (y : Receiver). RowHolds journal y h) is each.0 }
each-there journal (x ∷ rs) (h ∷ hs) (suc i) r each at =
    let rest = each-there journal rs hs i r each.1 at in record { held = rest.held; found = rest.found; holds = rest.holds }

each-of : (journal : List Edit) (rs : List Receiver) (hs : List HeldRow) → length hs ≡ length rs
    → ((k : ℕ) (r : Receiver) (h : HeldRow) → slice_get rs k ≡ Some r → slice_get hs k ≡ Some h → RowHolds journal r h) → EachHolds journal rs hs
each-of journal [] [] count each = tt
each-of journal [] (h ∷ hs) count each = absurd (omega arith)
each-of journal (r ∷ rs) [] count each = absurd (omega arith)
each-of journal (r ∷ rs) (h ∷ hs) count each =
    (each 0 r h refl refl, each-of journal rs hs (omega arith) (λ k x y at there. each (suc k) x y at there))

rows-map : (f : Receiver → Row) (rs : List Receiver) (hs : List HeldRow) → length hs ≡ length rs
    → ((k : ℕ) (r : Receiver) (h : HeldRow) → slice_get rs k ≡ Some r → slice_get hs k ≡ Some h → row_of r h ≡ f r) → rows_of rs hs ≡ map f rs
rows-map f [] hs count same = refl
rows-map f (r ∷ rs) [] count same = absurd (omega arith)
rows-map f (r ∷ rs) (h ∷ hs) count same =
    λ i. same 0 r h refl refl i ∷ rows-map f rs hs (omega arith) (λ k x y at there. same (suc k) x y at there) i

-- what the test of a receiver's name says
pub tested : (change : Change) (r : Receiver) (name : List ℕ) (result answer : Bool) → name ≡ r.name
    → result ≡ names_receiver name change.logged.edit change.logged.old → result ≡ answer → is_unnamed change r ≡ not answer
tested change r name result answer same is answered =
    ap (λ n. not (names_receiver n change.logged.edit change.logged.old)) (sym same) ∙ ap not (sym is ∙ answered)

-- ---- so far

module _ (change : Change) (news : List Receiver) (before : List HeldRow) where
  pub one-more : (place : ℕ) (rows : List HeldRow) (r : Receiver) (made : HeldRow) → AreRenewed change news before place rows → place < length news → slice_get news place ≡ Some r
      → IsRowAfter change r (slice_get rows place) made → AreRenewed change news before (place + 1) (placed place made rows)
  one-more place rows r made c below at is = record {
    upto = omega (arith, placed-within place made rows c.upto);
    few = placed-few place (length news) made rows c.few below c.upto;
    done = λ k x under there. by_place k x there under (cases_lt k place);
    rest = λ k past. placed-other place k made rows c.upto (inl (omega (arith, past))) ∙ c.rest k (omega (arith, past));
  } where
    by_place : (k : ℕ) (x : Receiver) → slice_get news k ≡ Some x → k < place + 1 → (k < place) ⊎ (place ≤ k)
        → IsSomeAnd (slice_get (placed place made rows) k) (IsRowAfter change x (slice_get before k))
    by_place k x there under (inl earlier) =
        subst (λ o. IsSomeAnd o (IsRowAfter change x (slice_get before k))) (sym (placed-other place k made rows c.upto (inr earlier))) (c.done k x earlier there)
    by_place k x there under (inr past) =
        let here : k ≡ place = omega (arith, under, past) in
        let x_is : r ≡ x = cc (at, ap (slice_get news) (sym here) ∙ there) in
        let found : slice_get (placed place made rows) k ≡ Some made = ap (slice_get (placed place made rows)) here ∙ placed-there place made rows c.upto in
        let old : slice_get rows place ≡ slice_get before k = c.rest place (omega arith) ∙ ap (slice_get before) (sym here) in
        subst (λ o. IsSomeAnd o (IsRowAfter change x (slice_get before k))) (sym found)
        (subst (λ (z : Receiver × Option HeldRow). IsRowAfter change z.0 z.1 made) (λ i. (x_is i, old i)) is)

-- ---- all of them

module _ (change : Change) (is : IsChange change) (rows : List HeldRow) (apart : AreApart (λ r. r.name) (scene_before change).receivers)
    (each : EachHolds change.past.value (scene_before change).receivers rows) where
  abbrev olds : List Receiver
  olds = (scene_before change).receivers

  abbrev news : List Receiver
  news = (scene_after change).receivers

  abbrev every : List Row
  every = rows_of olds rows

  abbrev after_it : Receiver → Row
  after_it = row_after change.logged.edit change.past.value every

  -- the rows without that of a receiver that is removed
  abbrev pub left : List HeldRow
  left = without_place (removed_place change) rows

  pub news-are : news ≡ receivers_after change.logged.edit change.logged.old olds
  news-are = accepted-receivers change.logged.edit (scene_before change) (scene_after change) change.logged.old is.accepted

  pub count : length rows ≡ length olds
  count = each-lengths change.past.value olds rows each

  stands : (k : ℕ) (r : Receiver) → slice_get news k ≡ Some r → is_unnamed change r ≡ true → Stays (removed_place change) olds k r
  stands k r at unnamed = stays change.logged.edit change.logged.old olds k r (ap (λ (rs : List Receiver). slice_get rs k) (sym news-are) ∙ at) unnamed

  pub gone-below : IfSome (removed_place change) (λ place. place < length rows)
  gone-below =
      subst (λ n. IfSome (removed_place change) (λ place. place < n)) (sym count) (gone-within change.logged.edit change.logged.old olds)

  pub few-left : length left ≤ length news
  few-left = omega (arith, ap length news-are, rows-left change.logged.edit change.logged.old olds rows count)

  pub has-row : (k : ℕ) (r : Receiver) → slice_get news k ≡ Some r → HasRow change r (slice_get left k)
  has-row k r at unnamed =
      let s = stands k r at unnamed in
      let there = each-there change.past.value olds rows s.place r each s.at in
      subst (λ o. IsSomeAnd o (RowHolds change.past.value r)) (sym (s.there rows count ∙ there.found)) there.holds

  -- the row of a receiver that the edit names, and of one that it doesn't name
  after-named : (r : Receiver) → is_unnamed change r ≡ false → after_it r ≡ new_row (suc (length change.past.value)) r
  after-named r named = go (names r.name change.logged.edit (scene_before change)) (ap not (names-as change is r.name) ∙ named) where
    go : (test : Bool) → not test ≡ false
        → cond test (new_row (suc (length change.past.value)) r) (unwrap_or (row_named r.name every) (new_row (suc (length change.past.value)) r)) ≡ new_row (suc (length change.past.value)) r
    go true e = refl
    go false e = absurd (cc e)

  after-unnamed : (i : ℕ) (r : Receiver) (held : HeldRow) → slice_get olds i ≡ Some r → slice_get rows i ≡ Some held
      → is_unnamed change r ≡ true → after_it r ≡ row_of r held
  after-unnamed i r held at there unnamed = go (names r.name change.logged.edit (scene_before change)) (ap not (names-as change is r.name) ∙ unnamed) where
    go : (test : Bool) → not test ≡ true
        → cond test (new_row (suc (length change.past.value)) r) (unwrap_or (row_named r.name every) (new_row (suc (length change.past.value)) r)) ≡ row_of r held
    go true e = absurd (cc e)
    go false e = ap (λ o. unwrap_or o (new_row (suc (length change.past.value)) r)) (row-at olds rows i r held apart at there)

  module _ (made : List HeldRow) (many : length made ≡ length news)
      (are : (k : ℕ) (r : Receiver) → slice_get news k ≡ Some r → IsSomeAnd (slice_get made k) (IsRowAfter change r (slice_get left k))) where
    one : (k : ℕ) (r : Receiver) (h : HeldRow) → slice_get news k ≡ Some r → slice_get made k ≡ Some h → IsRowAfter change r (slice_get left k) h
    one k r h at there = subst (λ o. IsSomeAnd o (IsRowAfter change r (slice_get left k))) there (are k r at)

    row : (k : ℕ) (r : Receiver) (h : HeldRow) → slice_get news k ≡ Some r → slice_get made k ≡ Some h → row_of r h ≡ after_it r
    row k r h at there = go (is_unnamed change r) refl where
      go : (test : Bool) → is_unnamed change r ≡ test → row_of r h ≡ after_it r
      go false named = fresh-row change is r h ((one k r h at there).anew named) ∙ sym (after-named r named)
      go true unnamed =
          let s = stands k r at unnamed in
          let old = each-there change.past.value olds rows s.place r each s.at in
          let same : row_of r h ≡ row_of r old.held =
          subst (λ o. IsSomeAnd o (λ held. row_of r h ≡ row_of r held)) (s.there rows count ∙ old.found) ((one k r h at there).same unnamed) in
          same ∙ sym (after-unnamed s.place r old.held s.at old.found unnamed)

    holds : (k : ℕ) (r : Receiver) (h : HeldRow) → slice_get news k ≡ Some r → slice_get made k ≡ Some h → RowHolds (journal_after change) r h
    holds k r h at there = go (is_unnamed change r) refl where
      go : (test : Bool) → is_unnamed change r ≡ test → RowHolds (journal_after change) r h
      go false named = fresh-holds change is r h ((one k r h at there).anew named)
      go true unnamed = (one k r h at there).holds unnamed

    pub each-after : EachHolds (journal_after change) news made
    each-after = each-of (journal_after change) news made many holds

    pub all-after : rows_of news made ≡ map after_it news
    all-after = rows-map after_it news made many row
