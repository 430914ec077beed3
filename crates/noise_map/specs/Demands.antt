-- What a line asks for, read by itself.
use Rattle.std.specs.Prelude.{ℕ, Bool, ◌||◌, ◌==◌, nat_lt, List, length, Result, Ok, Err, if◌then◌else◌}
use Rattle.std.specs.List.{list_all}
use Rattle.command_lines.specs.declared.commands.Command.{Command}
use Rattle.command_lines.specs.declared.faults.LineFault.{LineFault}
use Rattle.command_lines.specs.Lines.{command_of}
use Rattle.map_io.specs.Reading.{line_limit}
use Rattle.map_text.specs.declared.refusals.Refusal.{Refusal}
use Rattle.map_text.specs.declared.refusals.Refusal.TheVariants.{LongLine, Line}

-- spaces, tabs and carriage returns alone
abbrev pub is_blank_byte : ℕ → Bool
is_blank_byte b = (b == 32) || (b == 9) || (b == 13)

abbrev pub is_blank : List ℕ → Bool
is_blank line = list_all is_blank_byte line

-- what a line asks for: nothing, what it is refused for without a look at the scene, or a command
pub data Demand : Type 0 where
  nothing : Demand
  refusal : Refusal → Demand
  command : Command → Demand

abbrev pub demand_read : Result Command LineFault → Demand
demand_read (Ok asked) = command asked
demand_read (Err fault) = refusal (Line fault)

-- a long line is refused, a blank one asks for nothing
unfoldable pub demand_of : List ℕ → Demand
demand_of line =
    if nat_lt line_limit (length line) then refusal LongLine
    else (if is_blank line then nothing else demand_read (command_of line))
