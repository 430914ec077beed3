-- What every step of the board keeps.
use Rattle.std.specs.Prelude.{◌≡◌, ℕ, ◌≤◌, List, length, All, Some}
use Rattle.scene_book.specs.declared.edits.Edit.{Edit}
use Rattle.path_calc.specs.Show.{show_of}
use Rattle.map_board.specs.declared.calls.BoardCall.{BoardCall}
use Rattle.map_board.specs.declared.calls.BoardReply.{BoardReply}
use Rattle.map_board.specs.Journal.{scene_at}
use Rattle.map_board.specs.Rows.{Kept, Row, State}
use Rattle.map_board.specs.Machine.{Step, Can}

-- levels that a row keeps are those of its receiver in the scene of their version, which isn't before the row was put
pub record IsKeptRight (journal : List Edit) (row : Row) (kept : Kept) : Type 0 where
  pub from : row.since ≤ kept.version
  pub past : kept.version ≤ length journal
  pub levels : kept.levels ≡ show_of (scene_at journal kept.version) row.receiver

-- a job that is out for a row is of a version since the row was put, and not before the version of the kept levels
pub record IsOutRight (journal : List Edit) (row : Row) (version : ℕ) : Type 0 where
  pub from : row.since ≤ version
  pub past : version ≤ length journal
  pub later : (kept : Kept) → row.kept ≡ Some kept → kept.version ≤ version

pub record RowIsRight (journal : List Edit) (row : Row) : Type 0 where
  pub since : row.since ≤ length journal
  pub kept : (kept : Kept) → row.kept ≡ Some kept → IsKeptRight journal row kept
  pub out : (version : ℕ) → row.out ≡ Some version → IsOutRight journal row version

-- a step for a call that the state allows leaves all rows right where they were right before
abbrev pub EachStepKeepsRowsRight : Type 0
EachStepKeepsRowsRight = (before after : State) (call : BoardCall) (reply : BoardReply)
    → Can before call → Step before call reply after
    → All (RowIsRight before.journal) before.rows → All (RowIsRight after.journal) after.rows
