use Rattle.std.proofs.Common.{sym, ◌∙◌}
use Rattle.noise_map.proofs.Meeting.{refused-line}
use Rattle.noise_map.proofs.lines.step.Context.read_and_execute.Goals as goal

pub returns-in-Err-2 : goal.returns-in-Err-2
returns-in-Err-2 g c =
    refused-line c.args.editor.now c.args.line.now c.in-Err.fault (rw (sym c.line_lacks_memory.ensures ∙ c.if-line_lacks_memory.false) at c.in-Err.ensures.value) c.requires.knows
