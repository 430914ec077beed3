-- What a JSON value is as the value of a field, where it is of the field's type.
use Rattle.std.specs.Prelude.{ℕ, ℤ, ◌==◌, List, [], ◌∷◌, length, Option, Some, None, option_and_then, if◌then◌else◌}
use Rattle.serde_json.specs.Data.{Data, null, Items, no_items, item}
use Rattle.serde_json.specs.Find.{as_str, as_number, as_i64, as_array}
use Rattle.scene_parts.specs.declared.outlines.RawPt.{RawPt}
use Rattle.scene_parts.specs.Names.{is_name, is_any_name}

infixl 10 ◌>>=◌
abbrev pub ◌>>=◌ : {A B : Type 0} → Option A → (A → Option B) → Option B
found >>= next = option_and_then next found

abbrev pub text_of : Data → Option (List ℕ)
text_of value = as_str value

-- 1 to 32 ASCII letters, digits, `_`, `-` and `.`
unfoldable pub name_of : Data → Option (List ℕ)
name_of value = do
  text ← text_of value
  if is_name text then Some text else None

-- 1 to 42 of the same and `/`
unfoldable pub any_name_of : Data → Option (List ℕ)
any_name_of value = do
  text ← text_of value
  if is_any_name text then Some text else None

-- a whole number of 64 bits with sign, written without a point and without an exponent, and not as -0
abbrev pub whole_of : Data → Option ℤ
whole_of value = option_and_then as_i64 (as_number value)

-- the items of an array, where each can be read so
abbrev pub all_of : {A : Type 0} → (Data → Option A) → Items → Option (List A)
all_of read no_items = Some []
all_of read (item value values) = do
  x ← read value
  xs ← all_of read values
  Some (x ∷ xs)

-- two whole numbers
abbrev pub pair_of : Items → Option RawPt
pair_of (item across (item up no_items)) = do
  x ← whole_of across
  y ← whole_of up
  Some (record { x = x; y = y })
pair_of other = None

-- an array of exactly two whole numbers
unfoldable pub point_of : Data → Option RawPt
point_of value = option_and_then pair_of (as_array value)

-- an array of points
unfoldable pub points_of : Data → Option (List RawPt)
points_of value = option_and_then (all_of point_of) (as_array value)

-- a whole number, or null where there is no power
unfoldable pub power_of : Data → Option (Option ℤ)
power_of null = Some None
power_of value = do
  level ← whole_of value
  Some (Some level)

-- an array of exactly eight powers
unfoldable pub powers_of : Data → Option (List (Option ℤ))
powers_of value = do
  powers ← option_and_then (all_of power_of) (as_array value)
  if length powers == 8 then Some powers else None
