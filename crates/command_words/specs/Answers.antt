-- Answers that may lack memory.
use Rattle.std.specs.Prelude.{◌≡◌, Option, Some, None, Result, Ok, Err}
use Rattle.command_words.specs.declared.line.WordsFault.{WordsFault}
use Rattle.command_words.specs.declared.line.WordsFault.TheVariants.{Usage, NoMemory}

-- The answer is what there is to read, and Usage exactly where that is nothing, unless memory runs out.
abbrev pub ReadsUnlessMemory : {A : Type 0} → Result A WordsFault → Option A → Type 0
ReadsUnlessMemory (Ok x) found = found ≡ Some x
ReadsUnlessMemory (Err Usage) found = found ≡ None
ReadsUnlessMemory (Err NoMemory) found = Unit {0}
