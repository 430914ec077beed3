-- The state of the board: its journal, and a row for each receiver of the newest scene.
use Rattle.std.specs.Prelude.{ℕ, ◌+◌, ◌-◌, ◌^◌, min, Bool, true, false, ◌&&◌, not, bytes_eq, is_some, List, [], ◌∷◌, Option, Some, None, if◌then◌else◌}
use Rattle.std.specs.Option.{option_and_then}
use Rattle.scene_parts.specs.Parts.{Receiver}
use Rattle.scene_book.specs.Lists.{named}
use Rattle.scene_book.specs.declared.edits.Edit.{Edit}
use Rattle.path_calc.specs.Levels.{Levels}
use Rattle.map_board.specs.declared.answers.Shown.{Shown}
use Rattle.map_board.specs.declared.answers.Shown.TheVariants.{Current, Stale, New}
use Rattle.map_board.specs.Journal.{first_touching}

-- levels that were kept, and the version whose scene gave them
pub record Kept : Type 0 where
  pub version : ℕ
  pub levels : Levels

-- The row of a receiver: the version of the edit that put it, what was kept of it since, and the version of the job
-- that is out for it
pub record Row : Type 0 where
  pub receiver : Receiver
  pub since : ℕ
  pub kept : Option Kept
  pub out : Option ℕ

-- how many jobs were taken, answers kept, answers gone, and jobs given back
pub record Counts : Type 0 where
  pub taken : ℕ
  pub kept : ℕ
  pub gone : ℕ
  pub back : ℕ

pub record State : Type 0 where
  pub journal : List Edit
  pub rows : List Row
  pub finished : Bool
  pub counts : Counts

-- Start: no edit, no row, not finished
abbrev pub start : State
start = record {
  journal = [];
  rows = [];
  finished = false;
  counts = record { taken = 0; kept = 0; gone = 0; back = 0 };
}

-- one more, up to the greatest of 64 bits
abbrev pub one_more : ℕ → ℕ
one_more count = min (count + 1) (2 ^ 64 - 1)

-- the four counts in their order
abbrev pub four_counts : Counts → List ℕ
four_counts counts = counts.taken ∷ counts.kept ∷ counts.gone ∷ counts.back ∷ []

-- ---- rows by name

abbrev pub row_named : List ℕ → List Row → Option Row
row_named name rows = named (λ row. row.receiver.name) name rows

-- the rows where that of a name is changed
abbrev pub with_row : List ℕ → (Row → Row) → List Row → List Row
with_row name change [] = []
with_row name change (row ∷ rows) =
    if bytes_eq name row.receiver.name then change row ∷ rows else row ∷ with_row name change rows

-- the version of the job that is out for a receiver
abbrev pub version_out : List ℕ → List Row → Option ℕ
version_out name rows = option_and_then (λ row. row.out) (row_named name rows)

-- ---- what is shown of a row

abbrev pub shown_since : Kept → Option ℕ → Shown
shown_since kept None = Current kept.levels
shown_since kept (Some by) = Stale kept.version by kept.levels

abbrev pub shown_kept : List Edit → Row → Option Kept → Shown
shown_kept journal row None = New row.since
shown_kept journal row (Some kept) = shown_since kept (first_touching journal kept.version row.receiver)

-- New without kept levels; Stale by the first edit after their version that touches the receiver; else Current
abbrev pub shown_of : List Edit → Row → Shown
shown_of journal row = shown_kept journal row row.kept

abbrev pub is_current : Shown → Bool
is_current (Current levels) = true
is_current other = false

-- a job is out for the row
abbrev pub is_out : Row → Bool
is_out row = is_some row.out

-- neither current nor out
abbrev pub is_needy : List Edit → Row → Bool
is_needy journal row = not (is_current (shown_of journal row)) && not (is_out row)
