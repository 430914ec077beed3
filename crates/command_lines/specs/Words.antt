-- The words of `do`, the fields of each in their order, and what each asks for.
use Rattle.std.specs.Prelude.{ℕ, ℤ, List, [], ◌∷◌, Result, Ok, Err, if◌then◌else◌, codes, bytes_eq}
use Rattle.serde_json.specs.Data.{Data}
use Rattle.scene_parts.specs.declared.kinds.Field.TheVariants.{Name, Kind, X, Y, H, Lw, Dc, Points, Density, Rho, G, Step, Columns, Rows, Reach, Air, C0, Ground, Level, Piece, To}
use Rattle.scene_parts.specs.declared.checks.checking.RawPart.{RawPart}
use Rattle.scene_parts.specs.declared.checks.checking.RawPart.TheVariants as raw
use Rattle.scene_parts.specs.Checking.{check_of}
use Rattle.scene_book.specs.declared.edits.Edit.TheVariants as edits
use Rattle.scene_book.specs.Edits.{edit_of}
use Rattle.command_lines.specs.declared.commands.Command.{Command}
use Rattle.command_lines.specs.declared.commands.Command.TheVariants as commands
use Rattle.command_lines.specs.declared.commands.contours.RawContour.{RawContour}
use Rattle.command_lines.specs.declared.commands.line_sources.RawLineSource.{RawLineSource}
use Rattle.command_lines.specs.declared.faults.LineFault.{LineFault}
use Rattle.command_lines.specs.declared.faults.LineFault.TheVariants.{UnknownDo}
use Rattle.command_lines.specs.Fields.{Entry, text, name, any_name, whole, points, powers, needed, optional, with_fields, text_at, name_at, any_name_at, whole_at, points_at, powers_at, optional_whole_at, optional_text_at}
use Rattle.scene_parts.specs.Answers.{◌>>=◌}
use Rattle.command_lines.specs.Answers.{of_part}
use Rattle.command_lines.specs.Checking.{checked_contour, checked_line_source, version_of}

-- The words that put parts and set globals. A directivity correction and a reflection are 0 where they are absent, and
-- an absent setting keeps its value

-- a word, its fields in their order, and what a line gives with them
pub record PartWord : Type 0 where
  pub word : List ℕ
  pub fields : List Entry
  pub part : Data → RawPart

abbrev pub source_word : PartWord
source_word =
    record {
      word = codes "source";
      fields =
          needed Name name ∷ needed Kind text ∷ needed X whole ∷ needed Y whole ∷ needed H whole ∷ needed Lw powers
          ∷ optional Dc whole ∷ [];
      part = λ line.
          raw.Source (name_at Name line) (text_at Kind line) (whole_at X line) (whole_at Y line) (whole_at H line)
          (powers_at Lw line) (whole_at Dc line);
    }

abbrev pub barrier_word : PartWord
barrier_word =
    record {
      word = codes "barrier";
      fields =
          needed Name name ∷ needed Points points ∷ needed H whole ∷ needed Density whole ∷ optional Rho whole ∷ [];
      part = λ line.
          raw.Barrier (name_at Name line) (points_at Points line) (whole_at H line) (whole_at Density line)
          (whole_at Rho line);
    }

abbrev pub building_word : PartWord
building_word =
    record {
      word = codes "building";
      fields = needed Name name ∷ needed Points points ∷ needed H whole ∷ optional Rho whole ∷ [];
      part = λ line. raw.Building (name_at Name line) (points_at Points line) (whole_at H line) (whole_at Rho line);
    }

abbrev pub zone_word : PartWord
zone_word =
    record {
      word = codes "zone";
      fields = needed Name name ∷ needed Points points ∷ needed G whole ∷ [];
      part = λ line. raw.Zone (name_at Name line) (points_at Points line) (whole_at G line);
    }

abbrev pub foliage_word : PartWord
foliage_word =
    record {
      word = codes "foliage";
      fields = needed Name name ∷ needed Points points ∷ needed H whole ∷ [];
      part = λ line. raw.Foliage (name_at Name line) (points_at Points line) (whole_at H line);
    }

abbrev pub receiver_word : PartWord
receiver_word =
    record {
      word = codes "receiver";
      fields = needed Name name ∷ needed X whole ∷ needed Y whole ∷ needed H whole ∷ [];
      part = λ line. raw.Receiver (name_at Name line) (whole_at X line) (whole_at Y line) (whole_at H line);
    }

abbrev pub grid_word : PartWord
grid_word =
    record {
      word = codes "grid";
      fields =
          needed Name name ∷ needed X whole ∷ needed Y whole ∷ needed Step whole ∷ needed Columns whole
          ∷ needed Rows whole ∷ needed H whole ∷ [];
      part = λ line.
          raw.Grid (name_at Name line) (whole_at X line) (whole_at Y line) (whole_at Step line) (whole_at Columns line)
          (whole_at Rows line) (whole_at H line);
    }

abbrev pub set_word : PartWord
set_word =
    record {
      word = codes "set";
      fields =
          optional Reach whole ∷ optional G whole ∷ optional Air text ∷ optional C0 whole ∷ optional Ground text ∷ [];
      part = λ line.
          raw.Set (optional_whole_at Reach line) (optional_whole_at G line) (optional_text_at Air line)
          (optional_whole_at C0 line) (optional_text_at Ground line);
    }

abbrev pub part_words : List PartWord
part_words =
    source_word ∷ barrier_word ∷ building_word ∷ zone_word ∷ foliage_word ∷ receiver_word ∷ grid_word ∷ set_word ∷ []

-- what a line gives for its word: Missing, then WrongType, else the part with its fields
unfoldable pub given : PartWord → Data → Result RawPart LineFault
given word line = with_fields word.fields line (word.part line)

-- what it gives for the first of some words that is its own
abbrev pub given_among : List PartWord → List ℕ → Data → Result RawPart LineFault
given_among [] word line = Err (UnknownDo word)
given_among (known ∷ others) word line =
    if bytes_eq word known.word then given known line else given_among others word line

unfoldable pub part_of : List ℕ → Data → Result RawPart LineFault
part_of word line = given_among part_words word line

-- The fields of the other words

abbrev pub remove_fields : List Entry
remove_fields = needed Name any_name ∷ []

abbrev pub contour_fields : List Entry
contour_fields = needed Name name ∷ needed Level whole ∷ needed Columns whole ∷ needed Rows whole ∷ []

abbrev pub line_source_fields : List Entry
line_source_fields =
    needed Name name ∷ needed Kind text ∷ needed Points points ∷ needed H whole ∷ needed Lw powers ∷ optional Dc whole
    ∷ needed Piece whole ∷ []

abbrev pub unline_fields : List Entry
unline_fields = needed Name name ∷ []

abbrev pub undo_fields : List Entry
undo_fields = needed To whole ∷ []

-- What a line gives with those fields: a directivity correction is 0 where it is absent

abbrev pub contour_in : Data → RawContour
contour_in line =
    record {
      name = name_at Name line;
      level = whole_at Level line;
      columns = whole_at Columns line;
      rows = whole_at Rows line;
    }

abbrev pub line_source_in : Data → RawLineSource
line_source_in line =
    record {
      name = name_at Name line;
      kind = text_at Kind line;
      points = points_at Points line;
      h = whole_at H line;
      lw = powers_at Lw line;
      dc = whole_at Dc line;
      piece = whole_at Piece line;
    }

-- The command

unfoldable pub removal_of : Data → Result Command LineFault
removal_of line = with_fields remove_fields line (commands.Edit (edits.Remove (any_name_at Name line)))

-- the edit of what a line gives, where none of the faults of a part holds
unfoldable pub checked_edit : RawPart → Result Command LineFault
checked_edit part = of_part (check_of part) >>= λ checked. Ok (commands.Edit (edit_of checked))

unfoldable pub raw_contour_of : Data → Result RawContour LineFault
raw_contour_of line = with_fields contour_fields line (contour_in line)

-- the contours that a line gives, where each field is in its range
unfoldable pub contour_of : Data → Result Command LineFault
contour_of line = do
  raw ← raw_contour_of line
  spec ← of_part (checked_contour raw)
  Ok (commands.Contour spec)

unfoldable pub raw_line_source_of : Data → Result RawLineSource LineFault
raw_line_source_of line = with_fields line_source_fields line (line_source_in line)

-- the line source that a line gives, where none of its faults holds
unfoldable pub line_source_of : Data → Result Command LineFault
line_source_of line = do
  raw ← raw_line_source_of line
  spec ← of_part (checked_line_source raw)
  Ok (commands.Line spec)

unfoldable pub unline_of : Data → Result Command LineFault
unline_of line = with_fields unline_fields line (commands.Unline (name_at Name line))

unfoldable pub raw_version_of : Data → Result ℤ LineFault
raw_version_of line = with_fields undo_fields line (whole_at To line)

-- the undo to the version that a line gives, where it is in its range
unfoldable pub undo_of : Data → Result Command LineFault
undo_of line = do
  raw ← raw_version_of line
  version ← of_part (version_of raw)
  Ok (commands.Undo version)

-- what the word of a line asks for
unfoldable pub asked : List ℕ → Data → Result Command LineFault
asked word line =
    if bytes_eq word (codes "settle") then Ok commands.Settle
    else (if bytes_eq word (codes "look") then Ok commands.Look
    else (if bytes_eq word (codes "remove") then removal_of line
    else (if bytes_eq word (codes "contour") then contour_of line
    else (if bytes_eq word (codes "line") then line_source_of line
    else (if bytes_eq word (codes "unline") then unline_of line
    else (if bytes_eq word (codes "undo") then undo_of line
    else (part_of word line >>= checked_edit)))))))
