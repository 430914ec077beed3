-- The history that a run hands out.
use Rattle.std.specs.Prelude.{◌≡◌, ℕ, ◌⊎◌, true, false, List, [], ◌∷◌, ◌++◌, length, All, Option, Some, None}
use Rattle.turn_lock.specs.History.{entry}
use Rattle.turn_lock.specs.Standing.{all_parts}
use Rattle.receiver_workers.specs.declared.calls.Taken.TheVariants as taken
use Rattle.receiver_workers.specs.declared.calls.SeatCall.TheVariants as worker_calls
use Rattle.map_board.specs.declared.calls.BoardCall.TheVariants as calls
use Rattle.map_board.specs.declared.calls.BoardReply.TheVariants as replies
use Rattle.map_board.specs.Seats.{Entries, editor}
use Rattle.map_lock.specs.Seats.{BoardSeat, BoardEntry, IsEditor}
use Rattle.map_lock.specs.Settling.{is_give_back}
use Rattle.map_lock.specs.Working.{seat_call}
use Rattle.noise_map.specs.declared.run.status.Status.{Status}
use Rattle.noise_map.specs.declared.run.status.Status.TheVariants.{Done, SomeRefused, Usage}
use Rattle.noise_map.specs.declared.run.status.Status.TheVariants.{ReadFault, WriteFault, NoMemory, InputLimit}
use Rattle.noise_map.specs.Ways.{EditorRun, Interrupted}

-- A worker has ended: its last entry is a take that found the board finished, or the give-back of a job for which it
-- had no memory, and it gave none back before.
pub record HasEnded (mine : Entries) : Type 0 where
  pub front : Entries
  pub last : BoardEntry
  pub is : mine ≡ front ++ last ∷ []
  pub none_back : All (λ e. is_give_back e.call ≡ false) front
  pub ends :
      (seat_call last.call last.reply ≡ Some (worker_calls.Take taken.Finished)) ⊎ (is_give_back last.call ≡ true)

-- the editor's way through the lines of a run, of which the last may have lacked memory
abbrev pub IsEditorRun : Status → Entries → List (List ℕ) → Entries → Type 0
IsEditorRun Done history done own = EditorRun history done own
IsEditorRun SomeRefused history done own = EditorRun history done own
IsEditorRun Usage history done own = ⊥
IsEditorRun ReadFault history done own = EditorRun history done own
IsEditorRun WriteFault history done own = EditorRun history done own
IsEditorRun NoMemory history done own = EditorRun history done own ⊎ Interrupted history done own
IsEditorRun InputLimit history done own = EditorRun history done own

abbrev pub finish_entry : BoardEntry
finish_entry = entry editor calls.Finish replies.Done

-- The editor's seat behind a run of these lines. It knows the whole history of the board, which is legal, as every
-- seat's is; all its entries are the editor's and those of as many workers as were asked for, each of which has ended.
-- The editor's own are those of the lines, line by line, and its one finish behind them.
pub record IsWhole (workers : ℕ) (status : Status) (done : List (List ℕ)) (seat : BoardSeat) : Type 0 where
  pub sound : IsEditor seat
  pub whole : seat.parts ≡ all_parts
  pub team : length seat.joined ≡ workers
  pub ended : All (λ j. HasEnded j.mine) seat.joined
  pub own : Entries
  pub own_is : seat.mine ≡ own ++ finish_entry ∷ []
  pub way : IsEditorRun status seat.seen done own

-- there is no seat only where there was no memory to begin
abbrev pub HasHistory : ℕ → Status → List (List ℕ) → Option BoardSeat → Type 0
HasHistory workers status done None = (status ≡ NoMemory) × (done ≡ [])
HasHistory workers status done (Some seat) = IsWhole workers status done seat
