-- The edits that lines ask for keep their ranges.
use Rattle.std.proofs.Common.{◌≡◌, ℕ, List, [], ◌∷◌, Bool, true, false, refl, ap, if◌then◌else◌}
use Rattle.std.specs.Prelude.{Option, Some, None, Result, Ok, Err, IfOk, All, codes, bytes_eq}
use Rattle.std.specs.Str.{is_utf8}
use Rattle.std.proofs.lemmas.List.Elements.{All-nil, All-cons, All-append}
use Rattle.scene_parts.specs.declared.checks.checking.RawPart.{RawPart}
use Rattle.scene_parts.specs.declared.faults.PartFault.{PartFault}
use Rattle.scene_parts.specs.declared.kinds.Field.{Field}
use Rattle.scene_parts.specs.declared.parts.Part.TheVariants as parts
use Rattle.scene_parts.specs.Answers.{◌>>=◌, ◌>>◌}
use Rattle.scene_parts.specs.Checking.{check_of}
use Rattle.scene_parts.specs.Parts.{Source}
use Rattle.scene_book.specs.declared.edits.Edit.{Edit}
use Rattle.scene_book.specs.declared.edits.Edit.TheVariants as edits
use Rattle.scene_book.specs.declared.edits.EditFault.{EditFault}
use Rattle.scene_book.specs.Book.{Book}
use Rattle.scene_book.specs.Applying.{applied}
use Rattle.command_lines.specs.declared.commands.Command.{Command}
use Rattle.command_lines.specs.declared.commands.Command.TheVariants as commands
use Rattle.command_lines.specs.declared.faults.LineFault.{LineFault}
use Rattle.command_lines.specs.Answers.{of_part}
use Rattle.command_lines.specs.Checking.{checked_contour, checked_line_source, version_of}
use Rattle.command_lines.specs.Fields.{Entry, first, is_missing, is_wrong, made_unless, with_fields}
use Rattle.command_lines.specs.Lines.{word_of, command_from, json_of, command_in, command_of}
use Rattle.command_lines.specs.Views.{LineSource}
use Rattle.command_lines.specs.Words.{part_of, removal_of, checked_edit, raw_contour_of, contour_of, raw_line_source_of, line_source_of, unline_of, raw_version_of, undo_of, asked}
use Rattle.line_sources.specs.Pieces.{puts, removes, beyond, edits_with, accepted, sources_of, line_edits_of, removes_or_none, unline_edits_of, batch_edits_of}
use Rattle.scene_undo.specs.Scenes.{IsEdit}
use Rattle.scene_undo.proofs.Checked.{checked-edit}

-- ---- commands

-- a command whose edit keeps its ranges, where it is one
abbrev pub IsSoundCommand : Command → Type 0
IsSoundCommand (commands.Edit edit) = IsEdit edit
IsSoundCommand command = Unit {0}

-- one after another, and one or another

sound-bind : {A : Type 0} (r : Result A LineFault) (next : A → Result Command LineFault) → ((x : A) → r ≡ Ok x → IfOk (next x) IsSoundCommand)
    → IfOk (r >>= next) IsSoundCommand
sound-bind (Ok x) next rest = rest x refl
sound-bind (Err fault) next rest = tt

sound-if : (b : Bool) (x y : Result Command LineFault) → IfOk x IsSoundCommand → IfOk y IsSoundCommand → IfOk (if b then x else y) IsSoundCommand
sound-if true x y sound_x sound_y = sound_x
sound-if false x y sound_x sound_y = sound_y

sound-made : (missing wrong : Option Field) (made : Command) → IsSoundCommand made → IfOk (made_unless missing wrong made) IsSoundCommand
sound-made (Some missing) wrong made sound = tt
sound-made None (Some wrong) made sound = tt
sound-made None None made sound = sound

sound-fields : (entries : List Entry) (line : _) (made : Command) → IsSoundCommand made → IfOk (with_fields entries line made) IsSoundCommand
unfolding with_fields
sound-fields entries line made sound = sound-made (first (is_missing line) entries) (first (is_wrong line) entries) made sound

part-passes : {A : Type 0} (r : Result A PartFault) (x : A) → of_part r ≡ Ok x → r ≡ Ok x
part-passes (Ok y) x e = let same : y ≡ x = cc in ap Ok same
part-passes (Err fault) x e = cc

-- the words

sound-part : (raw : RawPart) → IfOk (checked_edit raw) IsSoundCommand
unfolding checked_edit
sound-part raw = sound-bind (of_part (check_of raw)) _ (λ checked e. checked-edit raw checked (part-passes (check_of raw) checked e))

sound-asked : (word : List ℕ) (line : _) → IfOk (asked word line) IsSoundCommand
unfolding asked removal_of contour_of line_source_of unline_of undo_of
sound-asked word line =
    sound-if (bytes_eq word (codes "settle")) _ _ tt
    (sound-if (bytes_eq word (codes "look")) _ _ tt
    (sound-if (bytes_eq word (codes "remove")) _ _ (sound-fields _ line _ tt)
    (sound-if (bytes_eq word (codes "contour")) _ _
    (sound-bind (raw_contour_of line) _ (λ raw _. sound-bind (of_part (checked_contour raw)) _ (λ spec _. tt)))
    (sound-if (bytes_eq word (codes "line")) _ _
    (sound-bind (raw_line_source_of line) _ (λ raw _. sound-bind (of_part (checked_line_source raw)) _ (λ spec _. tt)))
    (sound-if (bytes_eq word (codes "unline")) _ _ (sound-fields _ line _ tt)
    (sound-if (bytes_eq word (codes "undo")) _ _
    (sound-bind (raw_version_of line) _ (λ raw _. sound-bind (of_part (version_of raw)) _ (λ version _. tt)))
    (sound-bind (part_of word line) _ (λ part _. sound-part part))))))))

sound-word : (line : _) → IfOk (word_of line >>= λ word. asked word line) IsSoundCommand
sound-word line = sound-bind (word_of line) _ (λ word _. sound-asked word line)

sound-from : (line : _) → IfOk (command_from line) IsSoundCommand
unfolding command_from
sound-from line = search (sound-if, sound-word line)

sound-in : (bytes : List ℕ) → IfOk (command_in bytes) IsSoundCommand
unfolding command_in
sound-in bytes = sound-bind (json_of bytes) _ (λ line _. sound-from line)

pub sound-command : (bytes : List ℕ) → IfOk (command_of bytes) IsSoundCommand
unfolding command_of
sound-command bytes = sound-if (is_utf8 bytes) _ _ (sound-in bytes) tt

-- ---- edits made together

puts-edits : (sources : List Source) → All IsEdit (puts sources)
puts-edits [] = All-nil IsEdit
puts-edits (source ∷ sources) = All-cons IsEdit (edits.Put (parts.Source source)) (puts sources) tt (puts-edits sources)

removes-edits : (names : List (List ℕ)) → All IsEdit (removes names)
removes-edits [] = All-nil IsEdit
removes-edits (name ∷ names) = All-cons IsEdit (edits.Remove name) (removes names) tt (removes-edits names)

accepted-edits : (list : List Edit) (book : Book) → All IsEdit list → IfOk (accepted list book) (All IsEdit)
accepted-edits list book all = by (applied list book)
  where
    by : (r : Result Book EditFault) → IfOk (r >> Ok list) (All IsEdit)
    by (Ok after) = all
    by (Err fault) = tt

-- the edits that put a line
line-edits : (line : LineSource) (book : Book) → IfOk (line_edits_of line book) (All IsEdit)
unfolding line_edits_of
line-edits line book =
    accepted-edits (edits_with line.name book (sources_of line)) book
    (All-append IsEdit (puts (sources_of line)) (removes (beyond line.name (sources_of line) book.sources)) (puts-edits (sources_of line))
    (removes-edits (beyond line.name (sources_of line) book.sources)))

-- and those that take it out
unline-edits : (name : List ℕ) (book : Book) → IfOk (unline_edits_of name book) (All IsEdit)
unline-edits name book = by (beyond name [] book.sources)
  where
    by : (names : List (List ℕ)) → IfOk (removes_or_none name names) (All IsEdit)
    by [] = tt
    by (first_name ∷ names) = removes-edits (first_name ∷ names)

-- the edits of a command that makes edits together
pub batch-edits : (asked : Command) (book : Book) → IfOk (batch_edits_of asked book) (All IsEdit)
batch-edits (commands.Line line) book = line-edits line book
batch-edits (commands.Unline name) book = unline-edits name book
batch-edits other book = All-nil IsEdit
