-- How rows go over from the scene before an edit to the scene after it.
use Rattle.std.specs.Prelude.{◌≡◌, ℕ, zero, suc, ◌-◌, ◌*◌, min, Bool, true, false, not, ◌&&◌, ◌||◌, ◌<◌, ◌≤◌, List, [], ◌∷◌, ◌++◌, length, slice_get, IfSome, IsSomeAnd, Option, Some, None, Ok}
use Rattle.std.specs.List.{remove}
use Rattle.scene_parts.specs.Parts.{Receiver, Grid}
use Rattle.scene_parts.specs.declared.parts.Part.{Part}
use Rattle.scene_parts.specs.declared.parts.Part.TheVariants as parts
use Rattle.scene_book.specs.Book.{most_receivers, Book}
use Rattle.scene_book.specs.Lists.{place_of}
use Rattle.scene_book.specs.Applying.{apply_of}
use Rattle.scene_book.specs.declared.edits.Edit.{Edit}
use Rattle.scene_book.specs.declared.edits.Edit.TheVariants as edits
use Rattle.touch_test.specs.Touches.{names_receiver}
use Rattle.map_board.specs.declared.rows.HeldRow.{HeldRow}
use Rattle.map_board.specs.declared.edits.renewing.Change.{Change}
use Rattle.map_board.specs.Journal.{book_after, newest_scene}
use Rattle.map_board.specs.Boards.{row_of}
use Rattle.map_board.specs.inner.Boards.{RowHolds, IsEmpty}
use Rattle.map_board.specs.inner.Marks.{touches_one}
use Rattle.path_calc.specs.Show.{bundles_of}

-- ---- an accepted edit of a journal's newest scene

abbrev pub scene_before : Change → Book
scene_before change = newest_scene change.past.value

abbrev pub scene_after : Change → Book
scene_after change = book_after change.logged.edit (scene_before change)

abbrev pub journal_after : Change → List Edit
journal_after change = change.past.value ++ change.logged.edit ∷ []

-- the edit doesn't name a receiver
abbrev pub is_unnamed : Change → Receiver → Bool
is_unnamed change r = not (names_receiver r.name change.logged.edit change.logged.old)

-- the edit touches one of a receiver's paths in the scene before it
abbrev pub touches_a_path : Change → Receiver → Bool
touches_a_path change r =
    touches_one change.logged.edit change.logged.old r (bundles_of (scene_before change) r)

-- the newest scene accepts the edit, with this old part, these globals before it, and this version after it
pub record IsChange (change : Change) : Type 0 where
  pub accepted : apply_of change.logged.edit (scene_before change) ≡ Ok (scene_after change, change.logged.old)
  pub globals : change.globals ≡ (scene_before change).globals
  pub version : change.version ≡ suc (length change.past.value)

-- a row made anew at a version: nothing is kept or out
pub record IsFresh (version : ℕ) (held : HeldRow) : Type 0 where
  pub since : held.since ≡ version
  pub empty : IsEmpty held

-- a receiver that the edit doesn't name has a row, which is right for the scene before it
abbrev pub HasRow : Change → Receiver → Option HeldRow → Type 0
HasRow change r before = is_unnamed change r ≡ true → IsSomeAnd before (RowHolds change.past.value r)

-- the row of a receiver after the edit: anew where the edit names it, else as it was, and right for the scene after it.
-- Where it was empty, or wasn't there, it is empty
pub record IsRowAfter (change : Change) (r : Receiver) (before : Option HeldRow) (held : HeldRow) : Type 0 where
  pub anew : is_unnamed change r ≡ false → IsFresh change.version held
  pub same : is_unnamed change r ≡ true → IsSomeAnd before (λ old. row_of r held ≡ row_of r old)
  pub holds : is_unnamed change r ≡ true → RowHolds (journal_after change) r held
  pub empty : IfSome before IsEmpty → IsEmpty held

-- a part is a receiver
abbrev pub is_receiver_part : Part → Bool
is_receiver_part (parts.Receiver r) = true
is_receiver_part part = false

-- there is an old part, and it is a receiver
abbrev pub was_receiver_part : Option Part → Bool
was_receiver_part None = false
was_receiver_part (Some part) = is_receiver_part part

-- an edit with its old part may name a receiver: it puts receivers, or the old part is one
abbrev pub may_name_any : Edit → Option Part → Bool
may_name_any (edits.Put part) old = is_receiver_part part || was_receiver_part old
may_name_any (edits.Grid grid) old = true
may_name_any edit old = was_receiver_part old

-- an edit with its old part names no receiver
abbrev pub NamesNone : Edit → Option Part → Type 0
NamesNone edit old = (name : List ℕ) → names_receiver name edit old ≡ false

-- the rows before a place are renewed, and the others are as they were; there are no more than receivers
pub record AreRenewed (change : Change) (news : List Receiver) (before : List HeldRow) (place : ℕ) (rows : List HeldRow)
    : Type 0 where
  pub upto : place ≤ length rows
  pub few : length rows ≤ length news
  pub done : (k : ℕ) (r : Receiver) → k < place → slice_get news k ≡ Some r
      → IsSomeAnd (slice_get rows k) (IsRowAfter change r (slice_get before k))
  pub rest : (k : ℕ) → place ≤ k → slice_get rows k ≡ slice_get before k

-- a list with a thing at a place, in the place of another or behind the last
abbrev pub placed : {A : Type 0} → ℕ → A → List A → List A
placed place thing [] = thing ∷ []
placed zero thing (x ∷ xs) = thing ∷ xs
placed (suc place) thing (x ∷ xs) = x ∷ placed place thing xs

-- ---- what an edit takes memory for, and what it takes out

-- how many receivers an edit may add to so many
abbrev pub most_more : Edit → ℕ → ℕ
most_more (edits.Put (parts.Receiver r)) count = 1
most_more (edits.Grid grid) count = min (grid.columns * grid.rows) (most_receivers - count)
most_more edit count = 0

-- a part is a receiver, if there is one
abbrev pub is_receiver_if_any : Option Part → Bool
is_receiver_if_any None = true
is_receiver_if_any (Some part) = is_receiver_part part

-- an edit with its old part changes receivers alone
abbrev pub changes_receivers_alone : Edit → Option Part → Bool
changes_receivers_alone (edits.Put part) old = is_receiver_part part && is_receiver_if_any old
changes_receivers_alone (edits.Set setting) old = false
changes_receivers_alone edit old = is_receiver_if_any old

-- the grid that an edit puts
abbrev pub grid_put : Edit → Option Grid
grid_put (edits.Grid grid) = Some grid
grid_put edit = None

-- the place of the receiver whose name an edit removes
abbrev pub named_place : Edit → List Receiver → Option ℕ
named_place (edits.Remove name) rs = place_of (λ r. r.name) name rs
named_place edit rs = None

-- this place, where an edit with its old part removes a receiver
abbrev pub gone_from : Option ℕ → Edit → Option Part → Option ℕ
gone_from place (edits.Remove name) (Some (parts.Receiver r)) = place
gone_from place edit old = None

-- the place of the receiver that the edit removes
abbrev pub removed_place : Change → Option ℕ
removed_place change =
    gone_from (named_place change.logged.edit (scene_before change).receivers) change.logged.edit change.logged.old

-- the place of the receiver that an edit with its old part puts, where it changes receivers alone
abbrev pub put_place : Edit → Option Part → List Receiver → Option ℕ
put_place (edits.Put (parts.Receiver r)) None rs = place_of (λ x. x.name) r.name rs
put_place (edits.Put (parts.Receiver r)) (Some (parts.Receiver old)) rs = place_of (λ x. x.name) r.name rs
put_place edit old rs = None

-- a list without the thing at a place, if there is a place
abbrev pub without_place : {A : Type 0} → Option ℕ → List A → List A
without_place None xs = xs
without_place (Some place) xs = remove xs place
