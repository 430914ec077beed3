-- What holds of a board after any calls whose conditions hold, whoever asks them, and who finishes it.
use Rattle.std.specs.Prelude.{◌≡◌, ℕ, Bool, true, false, [], ◌∷◌, ◌++◌}
use Rattle.std.specs.List.{list_any}
use Rattle.turn_lock.specs.declared.entry.Entry.{Entry}
use Rattle.turn_lock.specs.History.{IsRun, Leads, entries_of, entry}
use Rattle.map_board.specs.declared.calls.Took.TheVariants as took
use Rattle.map_board.specs.declared.calls.BoardCall.{BoardCall}
use Rattle.map_board.specs.declared.calls.BoardCall.TheVariants as calls
use Rattle.map_board.specs.declared.calls.BoardReply.{BoardReply}
use Rattle.map_board.specs.declared.calls.BoardReply.TheVariants as replies
use Rattle.map_board.specs.Journal.{newest_scene}
use Rattle.map_board.specs.Rows.{State, start}
use Rattle.map_board.specs.Machine.{Step, Can, look_of}
use Rattle.map_board.specs.Seats.{Entries, May, editor}
use Rattle.map_board.specs.Showing.{IsLookAt, IsSettled, accepted_edits, settled_rows}

-- ---- any calls

-- the entries, one after another, lead from the first state to the second, and each call meets the condition of its
-- step
abbrev pub LeadsWhereCan : State → Entries → State → Type 0
LeadsWhereCan from [] to = from ≡ to
LeadsWhereCan from (e ∷ es) to =
    (next : State) × Can from e.call × Step from e.call e.reply next × LeadsWhereCan next es to

-- After them the journal is the edits that were accepted; a look there shows each receiver right, and where the board
-- is settled each as current.
pub record ShowsEachRight (history : Entries) (state : State) : Type 0 where
  pub journal : state.journal ≡ accepted_edits history
  pub look : IsLookAt state.journal (look_of state)
  pub settled : IsSettled state → (look_of state).rows ≡ settled_rows (newest_scene state.journal)

abbrev pub AnyCallsShowRight : Type 0
AnyCallsShowRight = (history : Entries) (state : State)
    → LeadsWhereCan start history state → ShowsEachRight history state

-- ---- the end

-- an entry finishes the board
abbrev pub is_finish : BoardCall → Bool
is_finish calls.Finish = true
is_finish call = false

abbrev pub finishes : Entry BoardCall BoardReply → Bool
finishes e = is_finish e.call

-- a board is finished just where one of the entries finished it
abbrev pub FinishedByAnEntry : Type 0
FinishedByAnEntry = (history : Entries) (state : State) → Leads Step start history state
    → state.finished ≡ list_any finishes history

-- where a take is answered Finished, the editor has finished the board before it
abbrev pub FinishedByTheEditor : Type 0
FinishedByTheEditor = (before : Entries) (number : ℕ) (state : State)
    → IsRun start Step May (before ++ entry number calls.Take (replies.Took took.Finished) ∷ []) state
    → list_any finishes (entries_of editor before) ≡ true
