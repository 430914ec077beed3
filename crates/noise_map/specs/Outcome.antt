-- What a run promises for each of its statuses.
use Rattle.std.specs.Prelude.{◌≡◌, ◌≢◌, ℕ, ◌≤◌, ◌⊎◌, Bool, true, false, List}
use Rattle.std.specs.Prelude.{[], ◌∷◌, ◌++◌, length, take, Option, None, Some, IfSome}
use Rattle.std.specs.Io.KnownBytes.{Consumes, Appends, IsAtEnd}
use Rattle.map_io.specs.Causes.{Rose}
use Rattle.map_io.specs.Lines.{lines, whole_lines, all_but_last, ended}
use Rattle.map_io.specs.Reading.{input_limit, read_size}
use Rattle.command_words.specs.declared.line.CommandLine.{CommandLine}
use Rattle.map_board.specs.declared.looks.LookAll.{LookAll}
use Rattle.map_lock.specs.Seats.{BoardSeat}
use Rattle.noise_map.specs.declared.run.status.Status.{Status}
use Rattle.noise_map.specs.declared.run.status.Status.TheVariants.{Done, SomeRefused, Usage}
use Rattle.noise_map.specs.declared.run.status.Status.TheVariants.{ReadFault, WriteFault, NoMemory, InputLimit}
use Rattle.map_text.specs.declared.stopped.Stopped.{Stopped}
use Rattle.map_text.specs.declared.stopped.Stopped.TheVariants as stops
use Rattle.noise_map.specs.Effects.{point_after}
use Rattle.map_text.specs.Taking.{joined, IsBegun}
use Rattle.noise_map.specs.Texts.{text_of}
use Rattle.noise_map.specs.Ways.{looks_in}
use Rattle.noise_map.specs.Histories.{HasHistory}
use Rattle.noise_map.specs.Undone.{LeadsBack}
use Rattle.noise_map.specs.SiteSummary.{Makes}

-- the input was read to its end, and these are all its lines
pub record CoversAll (before after : Option (List ℕ)) (done : List (List ℕ)) : Type 0 where
  pub ended : IsAtEnd after
  pub all : IfSome before (λ bytes. (lines bytes ≡ done) × (length bytes ≤ input_limit))

-- a read failed, and these are the whole lines of what was read
pub record CoversRead (before after : Option (List ℕ)) (done : List (List ℕ)) : Type 0 where
  pub read : List ℕ
  pub consumed : Consumes before after read
  pub within : length read ≤ input_limit
  pub all : whole_lines read ≡ done

-- as many bytes were read as may be, one more came, and these are the whole lines of what was read
pub record CoversLimit (before after : Option (List ℕ)) (done : List (List ℕ)) : Type 0 where
  pub read : List ℕ
  pub more : ℕ
  pub consumed : Consumes before after (read ++ more ∷ [])
  pub full : length read ≡ input_limit
  pub all : whole_lines read ≡ done

-- Nothing was read after the last of these lines: behind them was read at most what the read that brought its end
-- brought beside it, or the input is at its end, and these are all its lines.
abbrev pub ReadsNoFurther : List ℕ → Option (List ℕ) → List (List ℕ) → Type 0
ReadsNoFurther read after done =
    ((beyond : List ℕ) × (read ≡ ended done ++ beyond) × (length beyond ≤ read_size))
    ⊎ ((lines read ≡ done) × IsAtEnd after)

-- these are the first lines of the input, and no more was read, nor beyond the limit
pub record CoversFront (before after : Option (List ℕ)) (done : List (List ℕ)) : Type 0 where
  pub first : IfSome before (λ bytes. take (length done) (lines bytes) ≡ done)
  pub read : List ℕ
  pub consumed : Consumes before after read
  pub within : length read ≤ input_limit
  pub no_further : ReadsNoFurther read after done

-- which lines of the input were done
abbrev pub Covers : Status → Option (List ℕ) → Option (List ℕ) → List (List ℕ) → Type 0
Covers Done before after done = CoversAll before after done
Covers SomeRefused before after done = CoversAll before after done
Covers Usage before after done = ⊥
Covers ReadFault before after done = CoversRead before after done
Covers WriteFault before after done = CoversFront before after done
Covers NoMemory before after done = CoversFront before after done
Covers InputLimit before after done = CoversLimit before after done

-- The sink has taken all rows of all lines but the last, some first rows of that one, and of the next row what the
-- reason for the end allows.
pub record TakesPartOf (stopped : Stopped) (words : CommandLine) (looks : List LookAll) (before after : Option (List ℕ))
    (done : List (List ℕ)) : Type 0 where
  pub front : List (List ℕ)
  pub part : List ℕ
  pub rest : List (List ℕ)
  pub text : text_of words looks done ≡ text_of words looks (all_but_last done) ++ (front ++ rest)
  pub begun : IsBegun stopped part rest
  pub taken : Appends before after (joined (text_of words looks (all_but_last done) ++ front) ++ part)

-- what the sink has taken, where settles and looks were answered by these looks
abbrev pub Writes : CommandLine → List LookAll → Status → Option (List ℕ) → Option (List ℕ) → List (List ℕ) → Type 0
Writes words looks Done before after done = Appends before after (joined (text_of words looks done))
Writes words looks SomeRefused before after done = Appends before after (joined (text_of words looks done))
Writes words looks Usage before after done = ⊥
Writes words looks ReadFault before after done = Appends before after (joined (text_of words looks done))
Writes words looks WriteFault before after done = TakesPartOf stops.WriteFault words looks before after done
Writes words looks NoMemory before after done = TakesPartOf stops.NoMemory words looks before after done
Writes words looks InputLimit before after done = Appends before after (joined (text_of words looks done))

-- whether a line was refused, where the status tells it
abbrev pub TellsRefused : Status → Bool → Type 0
TellsRefused Done refused = refused ≡ false
TellsRefused SomeRefused refused = refused ≡ true
TellsRefused Usage refused = ⊥
TellsRefused ReadFault refused = Unit {0}
TellsRefused WriteFault refused = Unit {0}
TellsRefused NoMemory refused = Unit {0}
TellsRefused InputLimit refused = Unit {0}

-- the looks that a run's editor was answered
abbrev pub looks_of : Option BoardSeat → List LookAll
looks_of None = []
looks_of (Some seat) = looks_in seat.mine

-- A run over an input: it did some lines of it, wrote their rows, and hands out the whole history of its board. Each
-- undo among the lines has led back.
pub record Outcome (words : CommandLine) (status : Status) (count : ℕ) (seat : Option BoardSeat)
    (left_before left_after taken_before taken_after : Option (List ℕ)) : Type 0 where
  pub done : List (List ℕ)
  pub counted : length done ≡ count
  pub covers : Covers status left_before left_after done
  pub refused : TellsRefused status (point_after done).refused
  pub writes : Writes words (looks_of seat) status taken_before taken_after done
  pub history : HasHistory words.workers status done seat
  pub back : LeadsBack done

-- A run over the words of a command line: over the input, or over a generated site where one is asked for
abbrev pub OutcomeOf : Option ℕ → CommandLine → Status → ℕ → Option BoardSeat → Option (List ℕ) → Option (List ℕ)
    → Option (List ℕ) → Option (List ℕ) → Type 0
OutcomeOf None words status count seat left_before left_after taken_before taken_after =
    Outcome words status count seat left_before left_after taken_before taken_after
OutcomeOf (Some number) words status count seat left_before left_after taken_before taken_after =
    Makes number words.workers status count seat taken_before taken_after

abbrev pub RunOutcome : CommandLine → Status → ℕ → Option BoardSeat → Option (List ℕ) → Option (List ℕ)
    → Option (List ℕ) → Option (List ℕ) → Type 0
RunOutcome words status count seat left_before left_after taken_before taken_after =
    OutcomeOf words.make words status count seat left_before left_after taken_before taken_after

-- This fault is the status only where its count rose in this run, and with every other status the count is as before.
pub record TellsFault (fault status : Status) (before after : ℕ) : Type 0 where
  pub rose : status ≡ fault → Rose before after
  pub well : status ≢ fault → after ≡ before

-- the status of a run that neither a fault nor a limit broke off
abbrev pub IsUnbroken : Status → Type 0
IsUnbroken Done = Unit {0}
IsUnbroken SomeRefused = Unit {0}
IsUnbroken Usage = ⊥
IsUnbroken ReadFault = ⊥
IsUnbroken WriteFault = ⊥
IsUnbroken NoMemory = Unit {0}
IsUnbroken InputLimit = ⊥

-- Where the source tells an input within the limit, the run came to its end, unless there was no memory.
abbrev pub RunsToTheEnd : Status → Option (List ℕ) → Type 0
RunsToTheEnd status left = IfSome left (λ bytes. length bytes ≤ input_limit → IsUnbroken status)
