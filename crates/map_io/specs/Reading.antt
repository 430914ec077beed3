-- A reader of lines as contracts see it, and what one call of it answers.
use Rattle.std.specs.Prelude.{◌≡◌, ◌+◌, ◌<◌, ◌≤◌, ℕ, List, [], ◌∷◌, ◌++◌, length, Option}
use Rattle.std.specs.Io.KnownBytes.{prepend_known, Consumes, IsAtEnd}
use Rattle.map_io.specs.declared.reader.Stop.{Stop}
use Rattle.map_io.specs.declared.reader.Stop.TheVariants.{Going, AtEnd, AfterFault, AtLimit}
use Rattle.map_io.specs.declared.reader.Next.{Next}
use Rattle.map_io.specs.declared.reader.Next.TheVariants.{Line, End, LongLine, ReadFault, InputLimit}
use Rattle.map_io.specs.Lines.{IsPlain}

-- how many bytes a line may have, without its line feed
abbrev pub line_limit : ℕ
line_limit = 65536

-- how many bytes of an input are read
abbrev pub input_limit : ℕ
input_limit = 67108864

-- how many bytes are asked of a source at once
abbrev pub read_size : ℕ
read_size = 8192

-- how a reader stands between two calls
pub record Reading : Type 0 where
  -- the line that was handed out last
  pub line : List ℕ
  -- the bytes that were read and belong to no line yet
  pub pending : List ℕ
  -- how many bytes were passed: those of the lines so far, with their line feeds, and of a line that a stop broke off
  pub passed : ℕ
  -- whether it goes on, and else what stopped it
  pub stop : Stop

-- a reader that has read nothing
abbrev pub fresh : Reading
fresh = record { line = []; pending = []; passed = 0; stop = Going }

-- how many bytes were read, but for the one that came past the limit
abbrev pub bytes_read : Reading → ℕ
bytes_read r = r.passed + length r.pending

-- the bytes that lie ahead of the reader, where its source tells what is left: those it holds, and then those
abbrev pub ahead : Reading → Option (List ℕ) → Option (List ℕ)
ahead r left = prepend_known r.pending left

-- what a stopped reader answers
abbrev pub answer_of : Stop → Next
answer_of Going = End
answer_of AtEnd = End
answer_of AfterFault = ReadFault
answer_of AtLimit = InputLimit

-- These bytes came off the front of what lay ahead, where the source tells, and were counted.
pub record Passes (old new : Reading) (before after : Option (List ℕ)) (bytes : List ℕ) : Type 0 where
  pub taken : Consumes (ahead old before) (ahead new after) bytes
  pub counted : new.passed ≡ old.passed + length bytes

-- Nothing is held, and nothing is left where the source tells.
pub record NothingAhead (new : Reading) (after : Option (List ℕ)) : Type 0 where
  pub held : new.pending ≡ []
  pub left : IsAtEnd after

-- A line was passed: with its line feed, or with the end of the input, where it has a byte.
abbrev pub PassesLine : Stop → Reading → Reading → Option (List ℕ) → Option (List ℕ) → List ℕ → Type 0
PassesLine Going old new before after line = Passes old new before after (line ++ 10 ∷ [])
PassesLine AtEnd old new before after line =
    (0 < length line) × Passes old new before after line × NothingAhead new after
PassesLine AfterFault old new before after line = ⊥
PassesLine AtLimit old new before after line = ⊥

-- a line of n bytes is handed out
pub record HandsOut (n : ℕ) (old new : Reading) (before after : Option (List ℕ)) : Type 0 where
  pub size : n ≡ length new.line
  pub short : n ≤ line_limit
  pub plain : IsPlain new.line
  pub passes : PassesLine new.stop old new before after new.line

-- a line of more bytes than the limit is passed over
pub record PassesOver (old new : Reading) (before after : Option (List ℕ)) : Type 0 where
  pub line : List ℕ
  pub long : line_limit < length line
  pub plain : IsPlain line
  pub passes : PassesLine new.stop old new before after line

-- the input ended, and all its lines were handed out or passed over
pub record Ends (old new : Reading) (before after : Option (List ℕ)) : Type 0 where
  pub stop : new.stop ≡ AtEnd
  pub passes : Passes old new before after []
  pub nothing : NothingAhead new after

-- A read failed. What was read since the last line holds no line feed.
pub record BreaksOff (old new : Reading) (before after : Option (List ℕ)) : Type 0 where
  pub stop : new.stop ≡ AfterFault
  pub rest : List ℕ
  pub plain : IsPlain rest
  pub passes : Passes old new before after rest
  pub held : new.pending ≡ []

-- All bytes of the limit were read, and one more came. What was read since the last line holds no line feed.
pub record ReachesLimit (old new : Reading) (before after : Option (List ℕ)) : Type 0 where
  pub stop : new.stop ≡ AtLimit
  pub rest : List ℕ
  pub plain : IsPlain rest
  pub counted : new.passed ≡ old.passed + length rest
  pub full : new.passed ≡ input_limit
  pub more : ℕ
  pub taken : Consumes (ahead old before) (ahead new after) (rest ++ more ∷ [])
  pub held : new.pending ≡ []

-- what each answer of a reader that wasn't stopped says
abbrev pub NextGives : Next → Reading → Reading → Option (List ℕ) → Option (List ℕ) → Type 0
NextGives (Line n) old new before after = HandsOut n old new before after
NextGives End old new before after = Ends old new before after
NextGives LongLine old new before after = PassesOver old new before after
NextGives ReadFault old new before after = BreaksOff old new before after
NextGives InputLimit old new before after = ReachesLimit old new before after
