-- The first line of some bytes, and the bytes behind it.
use Rattle.std.specs.Prelude.{◌≡◌, ◌<◌, ℕ, List, [], ◌∷◌, length, Option, Some, None}
use Rattle.map_io.specs.Lines.{lines}

-- none where there are no bytes
abbrev pub IsFirstLine : List ℕ → Option (List ℕ × List ℕ) → Type 0
IsFirstLine bytes None = bytes ≡ []
IsFirstLine bytes (Some parts) = (lines bytes ≡ parts.0 ∷ lines parts.1) × (length parts.1 < length bytes)
