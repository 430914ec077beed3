use Rattle.std.proofs.lemmas.Str.{is_utf8-from_IsUtf8}
use Rattle.command_lines.proofs.Utf8.{is_utf8-false}
use Rattle.command_lines.proofs.PlainLemmas.{plain-matches, plain-command_in}
use Rattle.command_lines.specs.Lines.{command_in, command_of}
use Rattle.command_lines.proofs.reading.command.Goals as goal

pub returns-in-Ok-clause-value : goal.returns-in-Ok-clause-value
unfolding command_of
returns-in-Ok-clause-value c = rw (is_utf8-from_IsUtf8 _ c.in-Ok.ensures.cases.1) (rw c.in-Ok.ensures.cases.0 at c.command_in.ensures)

pub returns-in-Err-clause-value : goal.returns-in-Err-clause-value
unfolding command_of
returns-in-Err-clause-value c = rw (is_utf8-false _ c.in-Err.ensures.cases.0)

pub returns-in-Ok-clause-plain : goal.returns-in-Ok-clause-plain
returns-in-Ok-clause-plain c = plain-matches c.command_in.result (command_in c.in-Ok.text.now) c.command_in.ensures (plain-command_in c.in-Ok.text.now)
