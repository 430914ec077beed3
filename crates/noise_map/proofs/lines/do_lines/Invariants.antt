-- The lines handed out so far are done, and no count of faults has risen. Each turn passes a byte of the input at least.
use Rattle.std.proofs.Common.{◌≡◌, ◌≤◌, ◌-◌}
use Rattle.map_io.specs.Reading.{bytes_read, input_limit}
use Rattle.noise_map.specs.inner.Progress.{Progress}
use Rattle.noise_map.specs.inner.Steps.{Knows}
use Rattle.noise_map.proofs.lines.do_lines.Given as goal

abbrev pub invariant-loop-status : goal.invariant-loop-status
invariant-loop-status g l = record {
  progress : Progress l.words l.reader l.lines l.refused l.initial.editor.seat l.editor (g.S.Source.left l.initial.input) (g.S.Source.left l.input) (g.K.Sink.taken l.initial.out) (g.K.Sink.taken l.out);
  own : l.editor.seat.table ≡ l.context.lock.now;
  knows : Knows l.editor;
  within : bytes_read l.reader ≤ input_limit;
  reads : g.S.Source.faults l.input ≡ g.S.Source.faults l.initial.input;
  writes : g.K.Sink.faults l.out ≡ g.K.Sink.faults l.initial.out;
}

abbrev pub decreases-loop-status : goal.decreases-loop-status
decreases-loop-status g l = input_limit - l.reader.passed
