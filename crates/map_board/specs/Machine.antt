-- The board as a machine: what each call answers, and the state that it leaves.
use Rattle.std.specs.Prelude.{◌≡◌, ℕ, suc, true, false, List, [], ◌∷◌, ◌++◌, length, map, count_by, Option, Some, None, unwrap_or, Result, Ok, Err, if◌then◌else◌}
use Rattle.std.specs.List.{list_any}
use Rattle.scene_parts.specs.Parts.{Receiver}
use Rattle.scene_parts.specs.declared.parts.Part.{Part}
use Rattle.scene_parts.specs.Answers.{MatchesUnlessMemory}
use Rattle.scene_book.specs.Book.{Book}
use Rattle.scene_book.specs.Applying.{apply_of, lacks_memory}
use Rattle.scene_book.specs.declared.edits.Edit.{Edit}
use Rattle.scene_book.specs.declared.edits.EditFault.{EditFault}
use Rattle.scene_parts.specs.declared.memory.NoMemory.{NoMemory}
use Rattle.map_board.specs.declared.answers.Landed.{Landed}
use Rattle.map_board.specs.declared.answers.Landed.TheVariants as landed
use Rattle.map_board.specs.declared.looks.LookRow.{LookRow}
use Rattle.map_board.specs.declared.looks.LookAll.{LookAll}
use Rattle.map_board.specs.declared.calls.Took.{Took}
use Rattle.map_board.specs.declared.calls.Took.TheVariants as took
use Rattle.map_board.specs.declared.calls.BoardCall.{BoardCall}
use Rattle.map_board.specs.declared.calls.BoardCall.TheVariants as calls
use Rattle.map_board.specs.declared.calls.BoardReply.{BoardReply}
use Rattle.map_board.specs.declared.calls.BoardReply.TheVariants as replies
use Rattle.map_board.specs.Views.{Job, Answer}
use Rattle.map_board.specs.Journal.{book_after, newest_scene, names, first_naming}
use Rattle.map_board.specs.Rows.{Kept, Row, State, one_more, four_counts, row_named, with_row, shown_of, is_out, is_needy}
use Rattle.map_board.specs.Due.{due_of}
use Rattle.map_board.specs.Jobs.{MayReturn, IsFit, IsRight}

-- ---- edits

-- a row made anew at a version: nothing is kept or out
abbrev pub new_row : ℕ → Receiver → Row
new_row version r = record { receiver = r; since = version; kept = None; out = None }

-- the row of a receiver of the new scene: anew where the edit names it, else as it was
abbrev pub row_after : Edit → List Edit → List Row → Receiver → Row
row_after edit journal rows r =
    let fresh = new_row (suc (length journal)) r in
    if names r.name edit (newest_scene journal) then fresh else unwrap_or (row_named r.name rows) fresh

-- the rows after an accepted edit: one for each receiver of the new scene, in its order
abbrev pub rows_after : Edit → List Edit → List Row → List Row
rows_after edit journal rows =
    map (row_after edit journal rows) (book_after edit (newest_scene journal)).receivers

-- an accepted edit: the journal grows
abbrev pub edited : Edit → State → State
edited edit state = record state {
  journal = state.journal ++ edit ∷ [];
  rows = rows_after edit state.journal state.rows;
}

-- the new version where a scene accepts an edit, else the fault
abbrev pub numbered : ℕ → Result (Book × Option Part) EditFault → Result ℕ EditFault
numbered version (Ok after) = Ok version
numbered version (Err fault) = Err fault

-- the state after an edit was answered: a refusal changes nothing
abbrev pub left_by : Edit → State → Result ℕ EditFault → State
left_by edit state (Ok version) = edited edit state
left_by edit state (Err fault) = state

-- the new version or the first fault of the edit, unless there was no memory
abbrev pub EditsTo : State → Edit → Result ℕ EditFault → State → Type 0
EditsTo state edit result after =
    MatchesUnlessMemory lacks_memory result
    (numbered (suc (length state.journal)) (apply_of edit (newest_scene state.journal)))
    × (after ≡ left_by edit state result)

-- ---- jobs

-- a row with a job out
abbrev pub with_out : Option ℕ → Row → Row
with_out version row = record row { out = version }

abbrev pub taken : Job → State → State
taken job state = record state {
  rows = with_row job.receiver.name (with_out (Some job.version)) state.rows;
  counts = record state.counts { taken = one_more state.counts.taken };
}

-- a job of the newest version for a needy row
pub record TakesJob (state : State) (job : Job) (after : State) : Type 0 where
  pub unfinished : state.finished ≡ false
  pub row : Row
  pub named : row_named job.receiver.name state.rows ≡ Some row
  pub receiver : row.receiver ≡ job.receiver
  pub needy : is_needy state.journal row ≡ true
  pub version : job.version ≡ length state.journal
  pub due : job.due ≡ due_of state.journal row
  pub fit : IsFit after.journal after.rows job
  pub leaves : after ≡ taken job state

-- no row is needy, and so many are out
pub record IsIdle (state : State) (count : ℕ) : Type 0 where
  pub unfinished : state.finished ≡ false
  pub none_needy : list_any (is_needy state.journal) state.rows ≡ false
  pub out : count ≡ count_by is_out state.rows

abbrev pub Takes : State → Took → State → Type 0
Takes state (took.Job job) after = TakesJob state job after
Takes state (took.Idle count) after = IsIdle state count × (after ≡ state)
Takes state took.Finished after = (state.finished ≡ true) × (after ≡ state)

-- ---- answers

-- a row with levels kept, and no job out
abbrev pub with_kept : Kept → Row → Row
with_kept kept row = record row { kept = Some kept; out = None }

abbrev pub kept : Answer → State → State
kept answer state = record state {
  rows = with_row answer.receiver.name
      (with_kept (record { version = answer.version; levels = answer.levels })) state.rows;
  counts = record state.counts { kept = one_more state.counts.kept };
}

abbrev pub gone : State → State
gone state = record state { counts = record state.counts { gone = one_more state.counts.gone } }

-- Gone by the first edit after its version that names the receiver, where there is one, else kept
abbrev pub Lands : State → Answer → Landed → State → Type 0
Lands state answer landed.Kept after =
    (first_naming state.journal answer.version answer.receiver.name ≡ None) × (after ≡ kept answer state)
Lands state answer (landed.Gone by) after =
    (first_naming state.journal answer.version answer.receiver.name ≡ Some by) × (after ≡ gone state)

-- the rows after a job came back: no job is out for its receiver, unless an edit since its version names that
abbrev pub rows_after_return : Job → Option ℕ → List Row → List Row
rows_after_return job None rows = with_row job.receiver.name (with_out None) rows
rows_after_return job (Some by) rows = rows

abbrev pub given_back : Job → State → State
given_back job state = record state {
  rows = rows_after_return job (first_naming state.journal job.version job.receiver.name) state.rows;
  counts = record state.counts { back = one_more state.counts.back };
}

-- ---- looks

abbrev pub look_row : List Edit → Row → LookRow
look_row journal row = record { name = row.receiver.name; shown = shown_of journal row }

abbrev pub look_of : State → LookAll
look_of state = record {
  version = length state.journal;
  rows = map (look_row state.journal) state.rows;
  counts = four_counts state.counts;
}

abbrev pub Looks : State → Result LookAll NoMemory → State → Type 0
Looks state (Ok look) after = (look ≡ look_of state) × (after ≡ state)
Looks state (Err want) after = after ≡ state

-- ---- steps

-- the call is answered so, and leaves the second state
abbrev pub Step : State → BoardCall → BoardReply → State → Type 0
Step state (calls.Edit edit) (replies.Edited result) after = EditsTo state edit result after
Step state calls.Take (replies.Took took) after = Takes state took after
Step state calls.Finish replies.Done after = after ≡ record state { finished = true }
Step state (calls.Offer answer) (replies.Landed landed) after = Lands state answer landed after
Step state (calls.GiveBack job) replies.Done after = after ≡ given_back job state
Step state calls.Look (replies.Looked result) after = Looks state result after
Step state call reply after = ⊥

-- what a call asks of the state
abbrev pub Can : State → BoardCall → Type 0
Can state (calls.Offer answer) =
    MayReturn state.journal state.rows answer.version answer.receiver × IsRight state.journal answer
Can state (calls.GiveBack job) =
    MayReturn state.journal state.rows job.version job.receiver × IsFit state.journal state.rows job
Can state call = Unit {0}
