-- What the row of a refused line says of its fault: the fault's name, and up to two texts.
use Rattle.std.specs.Prelude.{ℕ, Bool, false, List, [], decimal, codes}
use Rattle.std.specs.Fmt.{signed_decimal}
use Rattle.scene_parts.specs.declared.faults.PartFault.{PartFault}
use Rattle.scene_parts.specs.declared.faults.PartFault.TheVariants as parts
use Rattle.scene_book.specs.declared.edits.EditFault.{EditFault}
use Rattle.scene_book.specs.declared.edits.EditFault.TheVariants as edits
use Rattle.scene_parts.specs.Words.{field_word}
use Rattle.scene_parts.specs.Parts.{class_word}
use Rattle.command_lines.specs.declared.faults.LineFault.{LineFault}
use Rattle.command_lines.specs.declared.faults.LineFault.TheVariants as lines
use Rattle.scene_parts.specs.Answers.{lacks_memory as part_lacks_memory}
use Rattle.scene_book.specs.Applying.{lacks_memory as edit_lacks_memory}
use Rattle.command_lines.specs.Answers.{lacks_memory as line_lacks_memory}
use Rattle.map_text.specs.declared.refusals.Refusal.{Refusal}
use Rattle.map_text.specs.declared.refusals.Refusal.TheVariants as refusals

pub record FaultText : Type 0 where
  pub fault : List ℕ
  pub first : List ℕ
  pub second : List ℕ

-- a fault of which nothing more is said, one with one text, and one with two
abbrev pub plain : List ℕ → FaultText
plain fault = record { fault = fault; first = []; second = [] }

abbrev pub about : List ℕ → List ℕ → FaultText
about fault first = record { fault = fault; first = first; second = [] }

abbrev pub about_both : List ℕ → List ℕ → List ℕ → FaultText
about_both fault first second = record { fault = fault; first = first; second = second }

abbrev pub part_fault_text : PartFault → FaultText
part_fault_text parts.NoMemory = plain []
part_fault_text (parts.OutOfRange field value) =
    about_both (codes "OutOfRange") (field_word field) (signed_decimal value)
part_fault_text (parts.OutsideMethod kind) = about (codes "OutsideMethod") kind
part_fault_text (parts.UnknownKind kind) = about (codes "UnknownKind") kind
part_fault_text (parts.TooLight density) = about (codes "TooLight") (decimal density)
part_fault_text (parts.FewCorners count) = about (codes "FewCorners") (decimal count)
part_fault_text parts.FlatShape = plain (codes "FlatShape")
part_fault_text (parts.SideTooLong side mm) =
    about_both (codes "SideTooLong") (decimal side) (decimal mm)
part_fault_text (parts.WeakMirror rho) = about (codes "WeakMirror") (decimal rho)

abbrev pub line_fault_text : LineFault → FaultText
line_fault_text lines.NoMemory = plain []
line_fault_text lines.NotJson = plain (codes "NotJson")
line_fault_text lines.NotObject = plain (codes "NotObject")
line_fault_text (lines.UnknownDo word) = about (codes "UnknownDo") word
line_fault_text (lines.Missing field) = about (codes "Missing") (field_word field)
line_fault_text (lines.WrongType field) = about (codes "WrongType") (field_word field)
line_fault_text (lines.Part fault) = part_fault_text fault

abbrev pub edit_fault_text : EditFault → FaultText
edit_fault_text edits.NoMemory = plain []
edit_fault_text (edits.NoSuchName name) = about (codes "NoSuchName") name
edit_fault_text (edits.OtherClass name class) =
    about_both (codes "OtherClass") name (class_word class)
edit_fault_text (edits.Full class limit) =
    about_both (codes "Full") (class_word class) (decimal limit)

-- Want of memory is no refusal, and its texts are never written.
abbrev pub refusal_text : Refusal → FaultText
refusal_text refusals.LongLine = plain (codes "LongLine")
refusal_text (refusals.Line fault) = line_fault_text fault
refusal_text (refusals.Edit fault) = edit_fault_text fault
refusal_text (refusals.NoSuchVersion version) = about (codes "NoSuchVersion") (decimal version)

-- a fault that is want of memory
abbrev pub lacks_memory : Refusal → Bool
lacks_memory (refusals.Line (lines.Part fault)) = part_lacks_memory fault
lacks_memory (refusals.Line fault) = line_lacks_memory fault
lacks_memory (refusals.Edit fault) = edit_lacks_memory fault
lacks_memory refusals.LongLine = false
lacks_memory (refusals.NoSuchVersion version) = false
