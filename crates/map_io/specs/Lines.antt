-- The lines of bytes. A line ends with a line feed (10) or with the end of the bytes; an empty rest at the end is no
-- line.
use Rattle.std.specs.Prelude.{◌≢◌, ◌==◌, ℕ, List, [], ◌∷◌, ◌++◌, All}
use Rattle.std.specs.List.{slice_split}

-- no line feed is among the bytes
abbrev pub IsPlain : List ℕ → Type 0
IsPlain bytes = All (λ b. b ≢ 10) bytes

-- the parts of the bytes between line feeds, one more than there are line feeds
abbrev pub parts : List ℕ → List (List ℕ)
parts bytes = slice_split (λ b. b == 10) bytes

-- all parts but the last
abbrev pub all_but_last : List (List ℕ) → List (List ℕ)
all_but_last [] = []
all_but_last (part ∷ []) = []
all_but_last (part ∷ next ∷ more) = part ∷ all_but_last (next ∷ more)

-- the parts, without an empty one at the end
abbrev pub but_empty_last : List (List ℕ) → List (List ℕ)
but_empty_last [] = []
but_empty_last ([] ∷ []) = []
but_empty_last ((b ∷ bytes) ∷ []) = (b ∷ bytes) ∷ []
but_empty_last (part ∷ next ∷ more) = part ∷ but_empty_last (next ∷ more)

-- the lines that a line feed ends
unfoldable pub whole_lines : List ℕ → List (List ℕ)
whole_lines bytes = all_but_last (parts bytes)

-- the lines, with a last one that no line feed ends, if it has a byte
unfoldable pub lines : List ℕ → List (List ℕ)
lines bytes = but_empty_last (parts bytes)

-- the bytes of these lines, each with its line feed
abbrev pub ended : List (List ℕ) → List ℕ
ended [] = []
ended (line ∷ more) = line ++ 10 ∷ ended more
