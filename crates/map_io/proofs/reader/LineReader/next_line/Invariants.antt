-- What was passed since the call began is the line so far.
use Rattle.std.proofs.Common.{◌≡◌, ◌≤◌, ◌-◌}
use Rattle.std.specs.Prelude.{Contains}
use Rattle.map_io.specs.Reading.{bytes_read, input_limit}
use Rattle.map_io.specs.inner.Steps.{Gathers}
use Rattle.map_io.proofs.reader.LineReader.next_line.Given as goal

abbrev pub invariant-loop-self : goal.invariant-loop-self
invariant-loop-self g l = record {
  began : l.began ≡ l.fn.self.passed;
  gathers : Gathers l.fn.self l.self (g.S.Source.left l.fn.source) (g.S.Source.left l.source);
  unread : Contains l.fn.self.pending 10 → (l.source ≡ l.fn.source) × (l.self.pending ≡ l.fn.self.pending);
  faults : g.S.Source.faults l.source ≡ g.S.Source.faults l.fn.source;
  within : bytes_read l.self ≤ input_limit;
}

abbrev pub decreases-loop-self : goal.decreases-loop-self
decreases-loop-self g l = input_limit - bytes_read l.self
