-- How far a run has come.
use Rattle.std.specs.Prelude.{◌≡◌, ℕ, ◌<◌, ◌≤◌, ◌⊎◌, Bool, List, [], ◌∷◌, ◌++◌, length, take, Option, Some, None, Result, Ok, Err, if◌then◌else◌, All}
use Rattle.std.specs.Io.KnownBytes.{Consumes, Appends}
use Rattle.command_words.specs.declared.line.CommandLine.{CommandLine}
use Rattle.map_io.specs.declared.reader.Stop.{Stop}
use Rattle.map_io.specs.declared.reader.Stop.TheVariants.{Going, AtEnd, AfterFault, AtLimit}
use Rattle.map_io.specs.declared.reader.Next.{Next}
use Rattle.map_io.specs.declared.reader.Next.TheVariants as next
use Rattle.map_io.specs.Lines.{IsPlain, lines, ended}
use Rattle.map_io.specs.Reading.{Reading, NothingAhead, ahead, input_limit, line_limit}
use Rattle.turn_lock.specs.History.{Begins}
use Rattle.map_lock.specs.Seats.{BoardSeat, IsEditor}
use Rattle.map_lock.specs.Settling.{HasNotFinished}
use Rattle.noise_map.specs.declared.lines.answer.Answer.{Answer}
use Rattle.noise_map.specs.declared.run.editor.Editor.{Editor}
use Rattle.noise_map.specs.declared.run.status.Status.{Status}
use Rattle.noise_map.specs.declared.run.status.Status.TheVariants as status
use Rattle.map_text.specs.declared.stopped.Stopped.{Stopped}
use Rattle.map_text.specs.declared.stopped.Stopped.TheVariants as stops
use Rattle.noise_map.specs.Demands.{demand_of}
use Rattle.noise_map.specs.Effects.{effect_of, point_after}
use Rattle.noise_map.specs.Texts.{rows_of, text_of}
use Rattle.noise_map.specs.Ways.{EditorRun, looks_in}
use Rattle.noise_map.specs.Histories.{IsEditorRun, finish_entry}
use Rattle.map_text.specs.Taking.{joined, TakesFront}
use Rattle.noise_map.specs.inner.Steps.{past_of, HasMet, HasFollowed, HasFailed, is_refusal}
use Rattle.noise_map.specs.Outcome.{Covers, Writes, TellsRefused}
use Rattle.noise_map.specs.SiteSummary.{MakesRow, site_lines}
use Rattle.map_board.specs.Seats.{Entries}

-- the status of a run whose input has ended
abbrev pub status_at_end : Bool → Status
status_at_end refused = if refused then status.SomeRefused else status.Done

-- the status with which an answer of the reader ends a run, if it is no line
abbrev pub ending_of : Next → Bool → Option Status
ending_of (next.Line n) refused = None
ending_of next.LongLine refused = None
ending_of next.End refused = Some (status_at_end refused)
ending_of next.ReadFault refused = Some status.ReadFault
ending_of next.InputLimit refused = Some status.InputLimit

-- the status of a run whose line could not be done to its end
abbrev pub status_of : Stopped → Status
status_of stops.WriteFault = status.WriteFault
status_of stops.NoMemory = status.NoMemory

-- the reader answered a line, which it holds if it isn't too long
abbrev pub IsLineOf : Next → List ℕ → Type 0
IsLineOf (next.Line n) held = length held ≤ line_limit
IsLineOf next.LongLine held = Unit {0}
IsLineOf next.End held = ⊥
IsLineOf next.ReadFault held = ⊥
IsLineOf next.InputLimit held = ⊥

-- the text of the line that it answered: the one that it holds, or any that is too long
abbrev pub IsTextOf : Next → List ℕ → List ℕ → Type 0
IsTextOf (next.Line n) held text = text ≡ held
IsTextOf next.LongLine held text = line_limit < length text
IsTextOf next.End held text = ⊥
IsTextOf next.ReadFault held text = ⊥
IsTextOf next.InputLimit held text = ⊥

-- ---- what was read

-- all lines of the input were handed out
pub record AllHandedOut (reader : Reading) (before now : Option (List ℕ)) (done : List (List ℕ)) : Type 0 where
  pub read : List ℕ
  pub consumed : Consumes before now read
  pub within : length read ≤ input_limit
  pub all : lines read ≡ done
  pub nothing : NothingAhead reader now

-- these lines were handed out: each with its line feed, or all there are, the last of them with none
abbrev pub HandedOut : Stop → Reading → Option (List ℕ) → Option (List ℕ) → List (List ℕ) → Type 0
HandedOut Going reader before now done =
    Consumes before (ahead reader now) (ended done) × (reader.passed ≡ length (ended done))
HandedOut AtEnd reader before now done = AllHandedOut reader before now done
HandedOut AfterFault reader before now done = ⊥
HandedOut AtLimit reader before now done = ⊥

-- These lines were read, and there may be more.
pub record Read (reader : Reading) (count : ℕ) (before now : Option (List ℕ)) (done : List (List ℕ)) : Type 0 where
  pub plain : All IsPlain done
  pub counted : length done ≡ count
  pub few : count ≤ reader.passed
  pub handed_out : HandedOut reader.stop reader before now done

-- ---- what was done

-- the seat is as before, but for its entries and what it has seen
pub record IsSameSeat (before after : BoardSeat) : Type 0 where
  pub seen : Begins before.seen after.seen
  pub table : after.table ≡ before.table
  pub number : after.number ≡ before.number
  pub parts : after.parts ≡ before.parts
  pub joined : after.joined ≡ before.joined

-- These lines were done by the editor, from its first entry on.
pub record LinesDone (before : BoardSeat) (editor : Editor) (done : List (List ℕ)) : Type 0 where
  pub same : IsSameSeat before editor.seat
  pub way : EditorRun editor.seat.seen done editor.seat.mine
  pub past : past_of editor ≡ (point_after done).past
  pub asked : (point_after done).asked ≡ length (looks_in editor.seat.mine)
  pub unfinished : HasNotFinished editor.seat.mine

-- Their rows were written.
pub record RowsWritten (words : CommandLine) (refused : Bool) (seat : BoardSeat)
    (taken_before taken_now : Option (List ℕ)) (done : List (List ℕ)) : Type 0 where
  pub refused_is : (point_after done).refused ≡ refused
  pub written : Appends taken_before taken_now (joined (text_of words (looks_in seat.mine) done))

-- how far a run over an input has come
pub record Progress (words : CommandLine) (reader : Reading) (count : ℕ) (refused : Bool) (before : BoardSeat)
    (editor : Editor) (left_before left_now taken_before taken_now : Option (List ℕ)) : Type 0 where
  pub done : List (List ℕ)
  pub read : Read reader count left_before left_now done
  pub did : LinesDone before editor done
  pub told : RowsWritten words refused editor.seat taken_before taken_now done

-- a line of this number was done and its rows were written, or it was broken off: for want of memory before there was
-- anything to show, or while its rows were written
abbrev pub HasWritten : Result Bool Stopped → CommandLine → ℕ → Editor → List ℕ → Editor → Option (List ℕ)
    → Option (List ℕ) → Type 0
HasWritten (Ok refused) words number before line after taken_before taken_after =
    let past = past_of before in
    let effect = effect_of past (demand_of line) in
    (answer : Answer) × HasMet before.seat effect answer after.seat × HasFollowed before effect after
    × Appends taken_before taken_after (joined (rows_of words number (length past.journal) answer))
    × (refused ≡ is_refusal answer)
HasWritten (Err stopped) words number before line after taken_before taken_after =
    let past = past_of before in
    let effect = effect_of past (demand_of line) in
    (HasFailed before.seat effect after.seat × (stopped ≡ stops.NoMemory) × Appends taken_before taken_after [])
    ⊎ ((answer : Answer) × HasMet before.seat effect answer after.seat × HasFollowed before effect after
    × TakesFront stopped taken_before taken_after (rows_of words number (length past.journal) answer))

-- ---- how it ended

-- the editor has gone its way through these lines
pub record HasEnded (status : Status) (done : List (List ℕ)) (before seat : BoardSeat) : Type 0 where
  pub same : IsSameSeat before seat
  pub way : IsEditorRun status seat.seen done seat.mine

-- and has then finished the board
pub record HasFinished (status : Status) (done : List (List ℕ)) (before seat : BoardSeat) : Type 0 where
  pub sound : IsEditor seat
  pub own : Entries
  pub own_is : seat.mine ≡ own ++ finish_entry ∷ []
  pub same : IsSameSeat before seat
  pub way : IsEditorRun status seat.seen done own

-- A run over an input has done these lines, and its editor has ended so.
pub record Ended (words : CommandLine) (status : Status) (count : ℕ) (Goes : List (List ℕ) → Type 0) (seat : BoardSeat)
    (left_before left_after taken_before taken_after : Option (List ℕ)) : Type 0 where
  pub done : List (List ℕ)
  pub counted : length done ≡ count
  pub covers : Covers status left_before left_after done
  pub refused : TellsRefused status (point_after done).refused
  pub writes : Writes words (looks_in seat.mine) status taken_before taken_after done
  pub goes : Goes done

-- A run over the site of this number has done so many lines, and its editor has ended so.
pub record SiteEnded (number : ℕ) (status : Status) (count : ℕ) (Goes : List (List ℕ) → Type 0)
    (taken_before taken_after : Option (List ℕ)) : Type 0 where
  pub writes : MakesRow number status count taken_before taken_after
  pub goes : Goes (take count (site_lines number))

-- A run over what the words ask for, a generated site or the input, has done so many lines, and its editor ended so.
abbrev pub AskedEnded : Option ℕ → CommandLine → Status → ℕ → (List (List ℕ) → Type 0) → BoardSeat → Option (List ℕ)
    → Option (List ℕ) → Option (List ℕ) → Option (List ℕ) → Type 0
AskedEnded None words status count Goes seat left_before left_after taken_before taken_after =
    Ended words status count Goes seat left_before left_after taken_before taken_after
AskedEnded (Some number) words status count Goes seat left_before left_after taken_before taken_after =
    SiteEnded number status count Goes taken_before taken_after
