-- Texts of JSON values without blanks (RFC 8259), each written before what follows it.
use Rattle.std.specs.Prelude.{◌≡◌, ℕ, List, [], ◌∷◌, ◌++◌, decimal}
use Rattle.std.specs.Fmt.{signed_decimal}
use Rattle.std.specs.Prelude.{ℤ}

-- a text, by what stands in it and after it
abbrev pub Text : Type 0
Text = List ℕ → List ℕ

-- these bytes are the text
abbrev pub IsText : Text → List ℕ → Type 0
IsText text bytes = (rest : List ℕ) → bytes ++ rest ≡ text rest

-- a whole number, and one with a sign
abbrev pub whole : ℕ → Text
whole n rest = decimal n ++ rest

abbrev pub signed : ℤ → Text
signed z rest = signed_decimal z ++ rest

-- a string of characters of which none is to be escaped
abbrev pub string : Text → Text
string text rest = 34 ∷ text (34 ∷ rest)

abbrev pub chars : List ℕ → Text
chars text rest = text ++ rest

-- values with commas between them
abbrev pub with_commas : List Text → Text
with_commas [] rest = rest
with_commas (value ∷ []) rest = value rest
with_commas (value ∷ next ∷ more) rest = value (44 ∷ with_commas (next ∷ more) rest)

abbrev pub array : List Text → Text
array values rest = 91 ∷ with_commas values (93 ∷ rest)

-- a field of an object
abbrev pub field : List ℕ → Text → Text
field name value rest = string (chars name) (58 ∷ value rest)

-- an object in a line of its own
abbrev pub object_line : List Text → List ℕ
object_line fields = 123 ∷ with_commas fields (125 ∷ 10 ∷ [])
