use Rattle.std.proofs.Common.{◌≡◌, ◌++◌}
use Rattle.line_sources.specs.Pieces.{puts}
use Rattle.line_sources.proofs.edits.add_puts.Given as goal

abbrev pub invariant-loop-source : goal.invariant-loop-source
invariant-loop-source l = l.edits.items ≡ l.initial.edits.items ++ puts l.yielded
