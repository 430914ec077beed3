-- Rows to which jobs and answers come back.
use Rattle.std.specs.Prelude.{◌≡◌, ℕ, Option, Some, None, slice_get}
use Rattle.std.specs.Option.{option_map, option_or}
use Rattle.scene_book.specs.Book.{empty_book}
use Rattle.map_board.specs.declared.rows.Back.{Back}
use Rattle.map_board.specs.declared.rows.KeptLevels.{KeptLevels}
use Rattle.map_board.specs.declared.rows.HeldRow.{HeldRow}
use Rattle.map_board.specs.Journal.{AreAccepted}
use Rattle.map_board.specs.Rows.{Row, State}
use Rattle.map_board.specs.Boards.{kept_of, row_of}
use Rattle.map_board.specs.inner.Boards.{RowHolds}

-- a held row with what comes back, of which no job is out. It keeps its levels, where none come back
abbrev pub held_with : Back → HeldRow → HeldRow
held_with back held = record held {
  kept = option_or back.kept held.kept;
  out = None;
  cache = Some back.cache;
}

-- what contracts see of it
abbrev pub row_with : Option KeptLevels → Row → Row
row_with kept row = record row { kept = option_or (option_map kept_of kept) row.kept; out = None }

-- what comes back suits the row at a place: where the row holds what it has to, it does so with it
pub record SuitsAt (state : State) (place : ℕ) (back : Back) : Type 0 where
  pub row : Row
  pub there : slice_get state.rows place ≡ Some row
  pub holds : (held : HeldRow) → AreAccepted empty_book state.journal → row_of row.receiver held ≡ row
      → RowHolds state.journal row.receiver held → RowHolds state.journal row.receiver (held_with back held)
