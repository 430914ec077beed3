-- What one line of the input says: a command, or the first fault in the order NotJson, NotObject, Missing and WrongType
-- of `do`, UnknownDo, Missing, WrongType, and the faults of a part.
use Rattle.std.specs.Prelude.{ℕ, List, [], ◌∷◌, is_some, Result, Err, if◌then◌else◌}
use Rattle.std.specs.Str.{is_utf8}
use Rattle.serde_json.specs.Data.{Data}
use Rattle.serde_json.specs.Find.{as_object}
use Rattle.serde_json.specs.Read.{read}
use Rattle.scene_parts.specs.declared.kinds.Field.TheVariants as fields
use Rattle.command_lines.specs.declared.commands.Command.{Command}
use Rattle.command_lines.specs.declared.faults.LineFault.{LineFault}
use Rattle.command_lines.specs.declared.faults.LineFault.TheVariants.{NotJson, NotObject}
use Rattle.command_lines.specs.Fields.{text, needed, with_fields, text_at}
use Rattle.scene_parts.specs.Answers.{◌>>=◌}
use Rattle.command_lines.specs.Answers.{found_or}
use Rattle.command_lines.specs.Words.{asked}

-- the word of a line: the text of its field `do`
unfoldable pub word_of : Data → Result (List ℕ) LineFault
word_of line = with_fields (needed fields.Do text ∷ []) line (text_at fields.Do line)

-- the command of a JSON value
unfoldable pub command_from : Data → Result Command LineFault
command_from line =
    if is_some (as_object line) then (word_of line >>= λ word. asked word line)
    else Err NotObject

-- the JSON value of a text (RFC 8259) with at most 127 arrays and objects open at once
unfoldable pub json_of : List ℕ → Result Data LineFault
json_of bytes = found_or NotJson (read bytes)

-- the command of a text
unfoldable pub command_in : List ℕ → Result Command LineFault
command_in bytes = json_of bytes >>= command_from

-- the command of a line's bytes: a JSON text in UTF-8
unfoldable pub command_of : List ℕ → Result Command LineFault
command_of bytes = if is_utf8 bytes then command_in bytes else Err NotJson
