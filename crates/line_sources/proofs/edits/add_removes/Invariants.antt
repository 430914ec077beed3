use Rattle.std.proofs.Common.{◌≡◌, ◌++◌}
use Rattle.line_sources.specs.Pieces.{removes}
use Rattle.line_sources.proofs.edits.add_removes.Given as goal

abbrev pub invariant-loop-name : goal.invariant-loop-name
invariant-loop-name l = l.edits.items ≡ l.initial.edits.items ++ removes l.yielded
