-- No line is said to lack memory by the fault of its part.
use Rattle.std.proofs.Common.{ℕ, List, [], ◌∷◌, Bool, true, false, Option, Some, None, if◌then◌else◌}
use Rattle.std.specs.Prelude.{Result, Ok, Err, IfErr, codes, bytes_eq, is_some}
use Rattle.serde_json.specs.Data.{Data}
use Rattle.serde_json.specs.Find.{as_object}
use Rattle.serde_json.specs.Read.{read}
use Rattle.scene_parts.specs.declared.kinds.Field.{Field}
use Rattle.scene_parts.specs.declared.checks.checking.RawPart.{RawPart}
use Rattle.scene_parts.specs.declared.faults.PartFault.{PartFault}
use Rattle.scene_parts.specs.declared.faults.PartFault.TheVariants as part
use Rattle.scene_parts.specs.Checking.{check_of}
use Rattle.command_lines.specs.declared.faults.LineFault.{LineFault}
use Rattle.command_lines.specs.declared.faults.LineFault.TheVariants.{NotJson, Part}
use Rattle.command_lines.specs.Fields.{Entry, made_unless, with_fields, is_missing, is_wrong, first}
use Rattle.scene_parts.specs.Answers.{◌>>=◌, MatchesUnlessMemory}
use Rattle.command_lines.specs.Answers.{lacks_memory, IsPlain, line_fault_of, of_part, found_or}
use Rattle.command_lines.specs.Words.{PartWord, part_words, given, given_among, part_of, removal_of, checked_edit, raw_contour_of, contour_of, raw_line_source_of, line_source_of, unline_of, raw_version_of, undo_of, asked}
use Rattle.command_lines.specs.Checking.{checked_contour, checked_line_source, version_of}
use Rattle.command_lines.specs.Lines.{word_of, command_from, json_of, command_in}

pub plain-matches : {A : Type 0} (answer expected : Result A LineFault) → MatchesUnlessMemory lacks_memory answer expected
    → IfErr expected IsPlain → IfErr answer IsPlain
plain-matches (Ok x) expected matches plain = tt
plain-matches (Err (Part fault)) expected matches plain = rw matches at plain
plain-matches (Err fault) expected matches plain = tt

-- one after another, and one or another

plain-bind : {A B : Type 0} (r : Result A LineFault) (next : A → Result B LineFault) → IfErr r IsPlain → ((x : A) → IfErr (next x) IsPlain) → IfErr (r >>= next) IsPlain
plain-bind (Ok x) next plain rest = rest x
plain-bind (Err fault) next plain rest = plain

plain-if : {A : Type 0} (b : Bool) (x y : Result A LineFault) → IfErr x IsPlain → IfErr y IsPlain → IfErr (if b then x else y) IsPlain
plain-if true x y plain_x plain_y = plain_x
plain-if false x y plain_x plain_y = plain_y

-- the steps

plain-made_unless : {A : Type 0} (missing wrong : Option Field) (made : A) → IfErr (made_unless missing wrong made) IsPlain
plain-made_unless (Some missing) wrong made = tt
plain-made_unless None (Some wrong) made = tt
plain-made_unless None None made = tt

plain-with_fields : {A : Type 0} (entries : List Entry) (line : Data) (made : A) → IfErr (with_fields entries line made) IsPlain
unfolding with_fields
plain-with_fields entries line made = plain-made_unless (first (is_missing line) entries) (first (is_wrong line) entries) made

plain-line_fault : (fault : PartFault) → IsPlain (line_fault_of fault)
plain-line_fault part.NoMemory = tt
plain-line_fault fault = tt

plain-of_part : {A : Type 0} (r : Result A PartFault) → IfErr (of_part r) IsPlain
plain-of_part (Ok x) = tt
plain-of_part (Err fault) = plain-line_fault fault

plain-checked_edit : (raw : RawPart) → IfErr (checked_edit raw) IsPlain
unfolding checked_edit
plain-checked_edit raw = plain-bind (of_part (check_of raw)) _ (plain-of_part (check_of raw)) (λ checked. tt)

plain-given : (word : PartWord) (line : Data) → IfErr (given word line) IsPlain
unfolding given
plain-given word line = plain-with_fields word.fields line (word.part line)

plain-given_among : (words : List PartWord) (word : List ℕ) (line : Data) → IfErr (given_among words word line) IsPlain
plain-given_among [] word line = tt
plain-given_among (known ∷ others) word line = plain-if (bytes_eq word known.word) _ _ (plain-given known line) (plain-given_among others word line)

plain-part_of : (word : List ℕ) (line : Data) → IfErr (part_of word line) IsPlain
unfolding part_of
plain-part_of word line = plain-given_among part_words word line

plain-contour_of : (line : Data) → IfErr (contour_of line) IsPlain
unfolding contour_of raw_contour_of
plain-contour_of line =
    plain-bind (raw_contour_of line) _ (plain-with_fields _ line _) (λ raw. plain-bind (of_part (checked_contour raw)) _ (plain-of_part (checked_contour raw)) (λ spec. tt))

plain-line_source_of : (line : Data) → IfErr (line_source_of line) IsPlain
unfolding line_source_of raw_line_source_of
plain-line_source_of line =
    plain-bind (raw_line_source_of line) _ (plain-with_fields _ line _) (λ raw. plain-bind (of_part (checked_line_source raw)) _ (plain-of_part (checked_line_source raw)) (λ spec. tt))

plain-undo_of : (line : Data) → IfErr (undo_of line) IsPlain
unfolding undo_of raw_version_of
plain-undo_of line =
    plain-bind (raw_version_of line) _ (plain-with_fields _ line _) (λ raw. plain-bind (of_part (version_of raw)) _ (plain-of_part (version_of raw)) (λ version. tt))

plain-asked : (word : List ℕ) (line : Data) → IfErr (asked word line) IsPlain
unfolding asked removal_of unline_of
plain-asked word line =
    plain-if (bytes_eq word (codes "settle")) _ _ tt
    (plain-if (bytes_eq word (codes "look")) _ _ tt
    (plain-if (bytes_eq word (codes "remove")) _ _ (plain-with_fields _ line _)
    (plain-if (bytes_eq word (codes "contour")) _ _ (plain-contour_of line)
    (plain-if (bytes_eq word (codes "line")) _ _ (plain-line_source_of line)
    (plain-if (bytes_eq word (codes "unline")) _ _ (plain-with_fields _ line _)
    (plain-if (bytes_eq word (codes "undo")) _ _ (plain-undo_of line)
    (plain-bind (part_of word line) checked_edit (plain-part_of word line) plain-checked_edit)))))))

plain-command_from : (line : Data) → IfErr (command_from line) IsPlain
unfolding command_from word_of
plain-command_from line =
    plain-if (is_some (as_object line)) _ _ (plain-bind (word_of line) _ (plain-with_fields _ line _) (λ word. plain-asked word line)) tt

plain-found_or : {A : Type 0} (found : Option A) → IfErr (found_or NotJson found) IsPlain
plain-found_or (Some x) = tt
plain-found_or None = tt

pub plain-command_in : (bytes : List ℕ) → IfErr (command_in bytes) IsPlain
unfolding command_in json_of
plain-command_in bytes = plain-bind (json_of bytes) command_from (plain-found_or (read bytes)) plain-command_from
