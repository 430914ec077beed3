-- What an answer of a reader says of the lines of all the bytes that lie ahead of it, where its source tells them.
use Rattle.std.specs.Prelude.{◌≡◌, ◌<◌, ℕ, List, [], ◌∷◌, ◌++◌, length, Option, Some, None, ⊤}
use Rattle.map_io.specs.declared.reader.Next.{Next}
use Rattle.map_io.specs.declared.reader.Next.TheVariants.{Line, End, LongLine, ReadFault, InputLimit}
use Rattle.map_io.specs.Lines.{lines, whole_lines}
use Rattle.map_io.specs.Reading.{line_limit}

-- a relation of bytes that are known before and after
abbrev pub IfBothKnown : Option (List ℕ) → Option (List ℕ) → (List ℕ → List ℕ → Type 0) → Type 0
IfBothKnown None after P = ⊤
IfBothKnown (Some bytes) None P = ⊤
IfBothKnown (Some bytes) (Some rest) P = P bytes rest

-- The answer takes the first line off those of the bytes, or there is none; a fault or the limit comes where the
-- bytes read since the last line hold no whole one.
abbrev pub TakesLine : Next → List ℕ → List ℕ → List ℕ → Type 0
TakesLine (Line n) line bytes rest = lines bytes ≡ line ∷ lines rest
TakesLine LongLine line bytes rest = (long : List ℕ) × (line_limit < length long) × (lines bytes ≡ long ∷ lines rest)
TakesLine End line bytes rest = lines bytes ≡ []
TakesLine ReadFault line bytes rest = (read : List ℕ) × (whole_lines read ≡ []) × (bytes ≡ read ++ rest)
TakesLine InputLimit line bytes rest =
    (read : List ℕ) × (more : ℕ) × (whole_lines read ≡ []) × (bytes ≡ read ++ more ∷ rest)
