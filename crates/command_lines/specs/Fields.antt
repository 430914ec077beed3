-- The fields that a word asks for, and which of them a line lacks or has of a wrong type.
use Rattle.std.specs.Prelude.{ℕ, ℤ, pos, List, [], ◌∷◌, Bool, true, false, not, ◌&&◌, Option, Some, None, option_and_then, is_some, unwrap_or, Result, Ok, Err, if◌then◌else◌}
use Rattle.serde_json.specs.Data.{Data}
use Rattle.serde_json.specs.Find.{get}
use Rattle.scene_parts.specs.declared.kinds.Field.{Field}
use Rattle.scene_parts.specs.declared.outlines.RawPt.{RawPt}
use Rattle.scene_parts.specs.Words.{field_word}
use Rattle.command_lines.specs.declared.faults.LineFault.{LineFault}
use Rattle.command_lines.specs.declared.faults.LineFault.TheVariants.{Missing, WrongType}
use Rattle.command_lines.specs.Values.{text_of, name_of, any_name_of, whole_of, points_of, powers_of}

pub data FieldType : Type 0 where
  text : FieldType
  name : FieldType
  any_name : FieldType
  whole : FieldType
  points : FieldType
  powers : FieldType

abbrev pub is_of : FieldType → Data → Bool
is_of text value = is_some (text_of value)
is_of name value = is_some (name_of value)
is_of any_name value = is_some (any_name_of value)
is_of whole value = is_some (whole_of value)
is_of points value = is_some (points_of value)
is_of powers value = is_some (powers_of value)

-- a field of a word: its name, its type, and whether a line may be without it
pub record Entry : Type 0 where
  pub field : Field
  pub type : FieldType
  pub may_be_absent : Bool

abbrev pub needed : Field → FieldType → Entry
needed field type = record { field = field; type = type; may_be_absent = false }

abbrev pub optional : Field → FieldType → Entry
optional field type = record { field = field; type = type; may_be_absent = true }

-- the value of a field of a line, where it is there
abbrev pub value_at : Field → Data → Option Data
value_at field line = get (field_word field) line

abbrev pub first : (Entry → Bool) → List Entry → Option Field
first test [] = None
first test (entry ∷ entries) = if test entry then Some entry.field else first test entries

abbrev pub is_missing : Data → Entry → Bool
is_missing line entry = not entry.may_be_absent && not (is_some (value_at entry.field line))

-- a value of another type; null is a value, and what is absent is none
abbrev pub is_of_wrong_type : FieldType → Option Data → Bool
is_of_wrong_type type None = false
is_of_wrong_type type (Some value) = not (is_of type value)

abbrev pub is_wrong : Data → Entry → Bool
is_wrong line entry = is_of_wrong_type entry.type (value_at entry.field line)

-- what is made, unless a field is missing or, where none is, one is of a wrong type
abbrev pub made_unless : {A : Type 0} → Option Field → Option Field → A → Result A LineFault
made_unless (Some missing) wrong made = Err (Missing missing)
made_unless None (Some wrong) made = Err (WrongType wrong)
made_unless None None made = Ok made

-- what is made of a line's fields, unless one is missing or of a wrong type; the first such in the order of the word
unfoldable pub with_fields : {A : Type 0} → List Entry → Data → A → Result A LineFault
with_fields entries line made = made_unless (first (is_missing line) entries) (first (is_wrong line) entries) made

-- the values of fields: those of optional ones that are absent are their defaults

abbrev pub text_at : Field → Data → List ℕ
text_at field line = unwrap_or (option_and_then text_of (value_at field line)) []

abbrev pub name_at : Field → Data → List ℕ
name_at field line = unwrap_or (option_and_then name_of (value_at field line)) []

abbrev pub any_name_at : Field → Data → List ℕ
any_name_at field line = unwrap_or (option_and_then any_name_of (value_at field line)) []

-- 0 where it is absent
abbrev pub whole_at : Field → Data → ℤ
whole_at field line = unwrap_or (option_and_then whole_of (value_at field line)) (pos 0)

abbrev pub points_at : Field → Data → List RawPt
points_at field line = unwrap_or (option_and_then points_of (value_at field line)) []

abbrev pub powers_at : Field → Data → List (Option ℤ)
powers_at field line = unwrap_or (option_and_then powers_of (value_at field line)) []

-- nothing where it is absent

abbrev pub optional_whole_at : Field → Data → Option ℤ
optional_whole_at field line = option_and_then whole_of (value_at field line)

abbrev pub optional_text_at : Field → Data → Option (List ℕ)
optional_text_at field line = option_and_then text_of (value_at field line)
