use Rattle.std.proofs.Common.{refl}
use Rattle.command_lines.specs.Lines.{command_from}
use Rattle.command_lines.proofs.reading.command_from.Goals as goal

pub returns-then-not-is_object : goal.returns-then-not-is_object
unfolding command_from
returns-then-not-is_object c = rw (← c.if-not-is_object.ensures) refl
