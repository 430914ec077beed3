-- The names of parts, and words.
use Rattle.std.specs.Prelude.{ℕ, List, length, Bool, ◌&&◌, ◌||◌, ◌==◌, nat_le, IsTrue}
use Rattle.std.specs.List.{list_all}
use Rattle.std.specs.Char.{is_ascii_alphanumeric}

-- a letter or a digit of ASCII, `_`, `-` or `.`
abbrev pub is_name_byte : ℕ → Bool
is_name_byte b = is_ascii_alphanumeric b || (b == 95) || (b == 45) || (b == 46)

-- the same, or `/`
abbrev pub is_any_name_byte : ℕ → Bool
is_any_name_byte b = is_name_byte b || (b == 47)

-- a name as a line gives it to a part: 1 to 32 letters, digits, `_`, `-` and `.`
abbrev pub is_name : List ℕ → Bool
is_name text = nat_le 1 (length text) && nat_le (length text) 32 && list_all is_name_byte text

-- the name of a part: 1 to 42 of the same and `/`
abbrev pub is_any_name : List ℕ → Bool
is_any_name text = nat_le 1 (length text) && nat_le (length text) 42 && list_all is_any_name_byte text

abbrev pub IsName : List ℕ → Type 0
IsName text = IsTrue (is_name text)

abbrev pub IsAnyName : List ℕ → Type 0
IsAnyName text = IsTrue (is_any_name text)
