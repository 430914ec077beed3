-- Rows as the board holds them, and what it keeps of them.
use Rattle.std.specs.Prelude.{◌≡◌, ℕ, ◌≤◌, Bool, true, false, ◌&&◌, ◌||◌, not, is_some, List, [], ◌∷◌, length, map, take, slice_get, All, Contains, IsSome, IsSomeAnd, IfSome, Option, Some, None}
use Rattle.std.specs.List.{zip, list_any}
use Rattle.std.specs.Option.{option_map}
use Rattle.scene_parts.specs.Parts.{Source, Receiver}
use Rattle.scene_book.specs.Book.{Book, empty_book, most_receivers}
use Rattle.scene_book.specs.Lists.{AreApart}
use Rattle.scene_book.specs.declared.edits.Edit.{Edit}
use Rattle.path_calc.specs.Show.{sources_within, bundles_of}
use Rattle.path_cache.specs.Refreshed.{CanRefresh, Stand, is_wanted}
use Rattle.map_board.specs.declared.answers.Shown.{Shown}
use Rattle.map_board.specs.declared.answers.Shown.TheVariants.{New}
use Rattle.map_board.specs.declared.edits.log.Log.{Log}
use Rattle.map_board.specs.declared.looks.LookRow.{LookRow}
use Rattle.map_board.specs.declared.edits.namings.Naming.{Naming}
use Rattle.map_board.specs.declared.rows.caches.Cache.{Cache}
use Rattle.map_board.specs.declared.rows.KeptLevels.{KeptLevels}
use Rattle.map_board.specs.declared.rows.HeldRow.{HeldRow}
use Rattle.map_board.specs.Journal.{newest_scene, first_touching, AreAccepted}
use Rattle.map_board.specs.Rows.{Kept, Row, State, shown_since, is_current, is_needy}
use Rattle.map_board.specs.inner.Log.{IsLog}
use Rattle.map_board.specs.inner.Namings.{namings_of}
use Rattle.map_board.specs.Due.{is_due}
use Rattle.map_board.specs.inner.Held.{AreWithin}
use Rattle.map_board.specs.Facts.{RowIsRight}
use Rattle.map_board.specs.inner.Standing.{IsOrdered}
use Rattle.map_board.specs.Boards.{kept_of, row_of}

abbrev pub shown_by : ℕ → Option KeptLevels → Shown
shown_by since None = New since
shown_by since (Some kept) = shown_since (kept_of kept) kept.by

abbrev pub held_shown : HeldRow → Shown
held_shown held = shown_by held.since held.kept

abbrev pub is_held_current : HeldRow → Bool
is_held_current held = is_current (held_shown held)

abbrev pub is_held_out : HeldRow → Bool
is_held_out held = is_some held.out

abbrev pub is_held_needy : HeldRow → Bool
is_held_needy held = not (is_held_current held) && not (is_held_out held)

abbrev pub is_held_unsettled : HeldRow → Bool
is_held_unsettled held = is_held_needy held || is_held_out held

-- a receiver with what is shown of it
abbrev pub held_look : Receiver → HeldRow → LookRow
held_look r held = record { name = r.name; shown = held_shown held }

-- each receiver with what is shown of it
abbrev pub held_looks : List Receiver → List HeldRow → List LookRow
held_looks rs helds = map (λ pair. held_look pair.0 pair.1) (zip rs helds)

-- Bundles are right for a row in the newest scene: unmarked ones are the scene's and of sources within reach, and those
-- that are marked or missing are due; what is noted of their order holds
pub record CacheIsRight (journal : List Edit) (r : Receiver) (kept : Option Kept) (cache : Cache) : Type 0 where
  pub can : CanRefresh cache.bundles.items cache.marks.items
  pub stand : Stand (newest_scene journal) r cache.bundles.items cache.marks.items
  pub within : AreWithin (newest_scene journal) r cache.bundles.items cache.marks.items
  pub ordered : IsOrdered journal cache
  pub due : (source : Source) → Contains (sources_within (newest_scene journal) r) source
      → is_wanted cache.bundles.items cache.marks.items source ≡ is_due journal kept r source
  -- while no edit touches the receiver, all of them are the scene's
  pub fresh : (of : Kept) → kept ≡ Some of → first_touching journal of.version r ≡ None
      → cache.bundles.items ≡ bundles_of (newest_scene journal) r

-- the bundles are there exactly while no job is out
abbrev pub CacheIsThere : List Edit → Receiver → Option Kept → Option ℕ → Option Cache → Type 0
CacheIsThere journal r kept None cache = IsSomeAnd cache (CacheIsRight journal r kept)
CacheIsThere journal r kept (Some version) cache = cache ≡ None

-- the first touching edit is noted
abbrev pub ByIsRight : List Edit → Receiver → Option KeptLevels → Type 0
ByIsRight journal r None = Unit {0}
ByIsRight journal r (Some kept) = kept.by ≡ first_touching journal kept.version r

pub record RowHolds (journal : List Edit) (r : Receiver) (held : HeldRow) : Type 0 where
  pub right : RowIsRight journal (row_of r held)
  pub by : ByIsRight journal r held.kept
  pub bundles : CacheIsThere journal r (option_map kept_of held.kept) held.out held.cache
  -- while a job is out, kept levels are stale
  pub stale : (version : ℕ) (kept : KeptLevels) → held.out ≡ Some version → held.kept ≡ Some kept → IsSome kept.by

-- a row for each receiver
abbrev pub EachHolds : List Edit → List Receiver → List HeldRow → Type 0
EachHolds journal [] [] = Unit {0}
EachHolds journal (r ∷ rs) (held ∷ helds) = RowHolds journal r held × EachHolds journal rs helds
EachHolds journal rs helds = ⊥

-- no job is out of a version before this one
abbrev pub IsOutSince : ℕ → HeldRow → Type 0
IsOutSince start held = IfSome held.out (λ version. start ≤ version)

pub record IsBoard (version : ℕ) (journal : List Edit) (scene : Book) (helds : List HeldRow) (log : Log)
    (namings : List Naming) : Type 0 where
  pub newest : version ≡ length journal
  pub shows : scene ≡ newest_scene journal
  pub few : length scene.receivers ≤ most_receivers
  pub apart : AreApart (λ r. r.name) scene.receivers
  pub each : EachHolds journal scene.receivers helds
  pub accepted : AreAccepted empty_book journal
  pub logged : IsLog journal log
  pub reaches : All (IsOutSince log.start) helds
  pub named : namings ≡ namings_of journal

-- the row at a place is needy
pub record NeedyAt (state : State) (place : ℕ) : Type 0 where
  pub row : Row
  pub there : slice_get state.rows place ≡ Some row
  pub needy : is_needy state.journal row ≡ true

-- the held row at a place is needy
abbrev pub IsNeedyAt : List HeldRow → ℕ → Type 0
IsNeedyAt helds place = IsSomeAnd (slice_get helds place) (λ held. is_held_needy held ≡ true)

-- none of the held rows before a place is needy
abbrev pub NoneNeedyBefore : ℕ → List HeldRow → Type 0
NoneNeedyBefore place helds = list_any is_held_needy (take place helds) ≡ false

-- a row has no bundles
abbrev pub HasNone : Cache → Type 0
HasNone cache = (cache.bundles.items ≡ []) × (cache.marks.items ≡ []) × (cache.order ≡ None)

-- a row is empty: nothing is kept or out
pub record IsEmpty (held : HeldRow) : Type 0 where
  pub kept : held.kept ≡ None
  pub out : held.out ≡ None
  pub bundles : IsSomeAnd held.cache HasNone

-- so is each row from a place on
abbrev pub EmptyFrom : ℕ → List HeldRow → Type 0
EmptyFrom place helds = (k : ℕ) (held : HeldRow) → place ≤ k → slice_get helds k ≡ Some held → IsEmpty held

-- a held row with a job of a version out, which has its bundles
abbrev pub row_out : ℕ → HeldRow → HeldRow
row_out version held = record held { out = Some version; cache = None }
