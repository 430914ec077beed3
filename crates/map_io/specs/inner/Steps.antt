-- The steps of a reader within one call: a scan of what it holds, and a read from its source.
use Rattle.std.specs.Prelude.{◌≡◌, ◌+◌, ◌<◌, ◌≤◌, ℕ, Bool, true, false, List, [], ◌∷◌, ◌++◌, length, take, Option}
use Rattle.std.specs.Io.KnownBytes.{Keeps, Consumes, IsAtEnd}
use Rattle.map_io.specs.declared.reader.Stop.{Stop}
use Rattle.map_io.specs.declared.reader.Stop.TheVariants.{Going, AtEnd, AfterFault, AtLimit}
use Rattle.map_io.specs.declared.reader.Next.{Next}
use Rattle.map_io.specs.declared.reader.Next.TheVariants.{Line, LongLine}
use Rattle.map_io.specs.Lines.{IsPlain}
use Rattle.map_io.specs.Reading.{Reading, Passes, bytes_read, line_limit, input_limit}

-- what ends a piece that was scanned: a line feed, where one was found
abbrev pub feed_if : Bool → List ℕ
feed_if true = 10 ∷ []
feed_if false = []

-- A piece of what was held moved to the line, up to a line feed or to the end. The line keeps what it has room for.
pub record Scans (found : Bool) (old new : Reading) : Type 0 where
  pub piece : List ℕ
  pub plain : IsPlain piece
  pub held : old.pending ≡ (piece ++ feed_if found) ++ new.pending
  pub all : found ≡ false → new.pending ≡ []
  pub line : new.line ≡ take line_limit (old.line ++ piece)
  pub passed : new.passed ≡ old.passed + length (piece ++ feed_if found)
  pub stop : new.stop ≡ old.stop
  pub within : bytes_read new ≤ input_limit

-- what a read brought, by how the reader stands after it
abbrev pub Brings : Stop → Reading → Option (List ℕ) → Option (List ℕ) → Type 0
Brings Going new before after = (0 < length new.pending) × Consumes before after new.pending
Brings AtEnd new before after = (new.pending ≡ []) × Keeps before after × IsAtEnd after
Brings AfterFault new before after = (new.pending ≡ []) × Keeps before after
Brings AtLimit new before after =
    (new.pending ≡ []) × (new.passed ≡ input_limit) × ((more : ℕ) × Consumes before after (more ∷ []))

-- a read by a reader that holds nothing
pub record Fills (old new : Reading) (before after : Option (List ℕ)) : Type 0 where
  pub line : new.line ≡ old.line
  pub passed : new.passed ≡ old.passed
  pub within : bytes_read new ≤ input_limit
  pub brings : Brings new.stop new before after

-- the answer for a line of this size
pub record Sizes (size : ℕ) (next : Next) : Type 0 where
  pub short : size ≤ line_limit → next ≡ Line size
  pub long : line_limit < size → next ≡ LongLine

-- The line so far: plain bytes that were passed since the call began, as far as the line has room.
pub record Gathers (old new : Reading) (before after : Option (List ℕ)) : Type 0 where
  pub front : List ℕ
  pub plain : IsPlain front
  pub passes : Passes old new before after front
  pub line : new.line ≡ take line_limit front
  pub going : new.stop ≡ Going
