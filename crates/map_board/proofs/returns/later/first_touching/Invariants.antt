-- None of the edits so far touches the receiver.
use Rattle.std.proofs.Common.{◌≡◌, ◌+◌, drop}
use Rattle.map_board.specs.inner.Later.{first_entry_touching}
use Rattle.map_board.proofs.returns.later.first_touching.Given as goal

abbrev pub invariant-loop-entry : goal.invariant-loop-entry
invariant-loop-entry l = record {
  number : l.number ≡ l.version + l.entry-index;
  none : first_entry_touching l.receiver l.bundles l.version l.later ≡ first_entry_touching l.receiver l.bundles l.number (drop l.entry-index l.later);
}
