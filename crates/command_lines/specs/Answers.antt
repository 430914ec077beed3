-- Answers that may lack memory, and faults of parts as faults of lines.
use Rattle.std.specs.Prelude.{◌≡◌, Bool, true, false, Option, Some, None, Result, Ok, Err}
use Rattle.serde_json.specs.Data.{Data}
use Rattle.serde_json.specs.View.{view}
use Rattle.serde_json.specs.declared.value.Value.{Value}
use Rattle.scene_parts.specs.declared.kinds.Field.{Field}
use Rattle.scene_parts.specs.declared.faults.PartFault.{PartFault}
use Rattle.scene_parts.specs.declared.faults.PartFault.TheVariants as part_faults
use Rattle.command_lines.specs.declared.faults.LineFault.{LineFault}
use Rattle.command_lines.specs.Fields.{Entry, is_wrong}
use Rattle.command_lines.specs.declared.faults.LineFault.TheVariants.{NoMemory, WrongType, Part}

-- the fault that there was no memory
abbrev pub lacks_memory : LineFault → Bool
lacks_memory NoMemory = true
lacks_memory fault = false

-- an answer that holds a JSON value, as the data that it views
abbrev pub viewed : Result Value LineFault → Result Data LineFault
viewed (Ok value) = Ok (view value)
viewed (Err fault) = Err fault

-- what is found, or a fault
abbrev pub found_or : {A : Type 0} → LineFault → Option A → Result A LineFault
found_or fault (Some x) = Ok x
found_or fault None = Err fault

-- want of memory has one name
abbrev pub IsPlain : LineFault → Type 0
IsPlain (Part part_faults.NoMemory) = ⊥
IsPlain fault = Unit {0}

-- a part's fault as the fault of its line
abbrev pub line_fault_of : PartFault → LineFault
line_fault_of part_faults.NoMemory = NoMemory
line_fault_of fault = Part fault

-- what a part's check answers, as the answer of its line
abbrev pub of_part : {A : Type 0} → Result A PartFault → Result A LineFault
of_part (Ok x) = Ok x
of_part (Err fault) = Err (line_fault_of fault)

-- a field's value is read where it is of its type, else WrongType, unless memory runs out
abbrev pub Reads : {A : Type 0} → Field → Result A LineFault → Option A → Type 0
Reads field (Ok x) found = found ≡ Some x
Reads field (Err NoMemory) found = Unit {0}
Reads field (Err fault) found = (found ≡ None) × (fault ≡ WrongType field)

-- the same of a field of a line
abbrev pub ReadsField : {A : Type 0} → Data → Entry → Result A LineFault → A → Type 0
ReadsField line entry (Ok x) found = (found ≡ x) × (is_wrong line entry ≡ false)
ReadsField line entry (Err NoMemory) found = Unit {0}
ReadsField line entry (Err fault) found = (is_wrong line entry ≡ true) × (fault ≡ WrongType entry.field)
