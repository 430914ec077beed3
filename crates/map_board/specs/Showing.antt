-- What looks at a board show, after a run of seats: the headline's facts.
use Rattle.std.specs.Prelude.{◌≡◌, ◌≤◌, false, List, [], ◌∷◌, map, length, flat_map, Some, Ok}
use Rattle.std.specs.List.{list_any}
use Rattle.scene_parts.specs.Parts.{Receiver}
use Rattle.scene_book.specs.Book.{Book, most_receivers}
use Rattle.scene_book.specs.declared.edits.Edit.{Edit}
use Rattle.path_calc.specs.Show.{show_of}
use Rattle.turn_lock.specs.History.{IsRun, entries_of}
use Rattle.map_board.specs.declared.answers.Shown.{Shown}
use Rattle.map_board.specs.declared.answers.Shown.TheVariants.{Current, Stale, New}
use Rattle.map_board.specs.declared.looks.LookRow.{LookRow}
use Rattle.map_board.specs.declared.looks.LookAll.{LookAll}
use Rattle.map_board.specs.declared.calls.BoardCall.{BoardCall}
use Rattle.map_board.specs.declared.calls.BoardCall.TheVariants as calls
use Rattle.map_board.specs.declared.calls.BoardReply.{BoardReply}
use Rattle.map_board.specs.declared.calls.BoardReply.TheVariants as replies
use Rattle.map_board.specs.Journal.{scene_at, newest_scene, first_touching}
use Rattle.map_board.specs.Rows.{State, start}
use Rattle.map_board.specs.Boards.{is_unsettled}
use Rattle.map_board.specs.Machine.{Step, look_of}
use Rattle.map_board.specs.Seats.{Entries, May, editor}

-- ---- rows

-- Current levels are those that the newest whole scene gives. Stale ones are those that the whole scene of their
-- version gives, and the edit named is the first after that which touches the receiver. A row without levels claims
-- none.
abbrev pub IsShownRight : List Edit → Receiver → Shown → Type 0
IsShownRight journal r (Current levels) = levels ≡ show_of (newest_scene journal) r
IsShownRight journal r (Stale version by levels) =
    (levels ≡ show_of (scene_at journal version) r) × (first_touching journal version r ≡ Some by)
IsShownRight journal r (New since) = since ≤ length journal

-- a row of a look is of this receiver, and shows it right
pub record IsRowOf (journal : List Edit) (r : Receiver) (row : LookRow) : Type 0 where
  pub name : row.name ≡ r.name
  pub shown : IsShownRight journal r row.shown

-- a row for each receiver, in their order
abbrev pub AreRowsOf : List Edit → List Receiver → List LookRow → Type 0
AreRowsOf journal [] [] = Unit {0}
AreRowsOf journal (r ∷ rs) (row ∷ rows) = IsRowOf journal r row × AreRowsOf journal rs rows
AreRowsOf journal rs rows = ⊥

-- a look after these accepted edits: it is of the newest version, and shows each receiver of the newest scene right
pub record IsLookAt (journal : List Edit) (look : LookAll) : Type 0 where
  pub version : look.version ≡ length journal
  pub rows : AreRowsOf journal (newest_scene journal).receivers look.rows
  pub few : length look.rows ≤ most_receivers

-- ---- settled boards

-- the row of a receiver that is current in a scene
abbrev pub settled_row : Book → Receiver → LookRow
settled_row book r = record { name = r.name; shown = Current (show_of book r) }

-- the rows of a settled board: each receiver is current
abbrev pub settled_rows : Book → List LookRow
settled_rows book = map (settled_row book) book.receivers

-- no row is needy, and none is out
abbrev pub IsSettled : State → Type 0
IsSettled state = list_any (is_unsettled state.journal) state.rows ≡ false

-- ---- the law

-- the edit that an entry has had accepted, if it has
abbrev pub accepted_by : BoardCall → BoardReply → List Edit
accepted_by (calls.Edit edit) (replies.Edited (Ok version)) = edit ∷ []
accepted_by call reply = []

abbrev pub accepted_edits : Entries → List Edit
accepted_edits entries = flat_map (λ e. accepted_by e.call e.reply) entries

-- After every run the journal is the edits that were accepted, all of them the editor's; a look there shows each
-- receiver right, and where the board is settled each as current.
pub record ShowsRight (history : Entries) (state : State) : Type 0 where
  pub journal : state.journal ≡ accepted_edits history
  pub editors : accepted_edits (entries_of editor history) ≡ accepted_edits history
  pub look : IsLookAt state.journal (look_of state)
  pub settled : IsSettled state → (look_of state).rows ≡ settled_rows (newest_scene state.journal)

abbrev pub RunsShowRight : Type 0
RunsShowRight = (history : Entries) (state : State) → IsRun start Step May history state → ShowsRight history state
