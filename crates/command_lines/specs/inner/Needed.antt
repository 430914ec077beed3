-- Fields that a word needs, between the code that looks for them and what a line lacks.
use Rattle.std.specs.Prelude.{◌≡◌, List, [], ◌∷◌, Bool, true, not, Option, Some, None, is_some, if◌then◌else◌}
use Rattle.serde_json.specs.Data.{Data}
use Rattle.scene_parts.specs.declared.kinds.Field.{Field}
use Rattle.command_lines.specs.Fields.{value_at}

-- a line has a field
abbrev pub is_there : Data → Field → Bool
is_there line field = is_some (value_at field line)

-- a line has all of these fields
abbrev pub AreThere : Data → List Field → Type 0
AreThere line [] = Unit {0}
AreThere line (field ∷ fields) = (is_there line field ≡ true) × AreThere line fields

-- the first of these fields that a line lacks
abbrev pub first_missing : Data → List Field → Option Field
first_missing line [] = None
first_missing line (field ∷ fields) = if not (is_there line field) then Some field else first_missing line fields
