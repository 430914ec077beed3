-- The log of a board: what its edits did since a version.
use Rattle.std.specs.Prelude.{◌≡◌, ℕ, ◌≤◌, List, [], ◌∷◌, length, drop}
use Rattle.scene_book.specs.Book.{Book}
use Rattle.scene_book.specs.declared.edits.Edit.{Edit}
use Rattle.touch_test.specs.Touches.{old_part}
use Rattle.map_board.specs.declared.edits.log.Log.{Log}
use Rattle.map_board.specs.declared.edits.log.LogEntry.{LogEntry}
use Rattle.map_board.specs.Journal.{book_after, scene_at}

-- an edit of a scene: its old part, and what held of the whole scene before it
abbrev pub entry_of : Edit → Book → LogEntry
entry_of edit book =
    record { logged = record { edit = edit; old = old_part edit book }; globals = book.globals }

-- edits in a row, each of the scene that the earlier ones left
abbrev pub entries_from : Book → List Edit → List LogEntry
entries_from book [] = []
entries_from book (edit ∷ edits) = entry_of edit book ∷ entries_from (book_after edit book) edits

-- the edits after a version
abbrev pub entries_after : List Edit → ℕ → List LogEntry
entries_after journal version = entries_from (scene_at journal version) (drop version journal)

-- a log is that of the edits after its start
pub record IsLog (journal : List Edit) (log : Log) : Type 0 where
  pub past : log.start ≤ length journal
  pub entries : log.entries.items ≡ entries_after journal log.start
