-- The rows so far have been written to the same sink, and its count of faults has not risen.
use Rattle.std.proofs.Common.{◌≡◌, flat_map, take}
use Rattle.std.specs.Io.KnownBytes.{Appends}
use Rattle.map_text.specs.Looks.{receiver_rows}
use Rattle.map_text.specs.Taking.{joined}
use Rattle.map_text.proofs.rows.Rows.receivers.Given as goal

abbrev pub invariant-loop-row : goal.invariant-loop-row
invariant-loop-row g l = record {
  written : Appends (g.K.Sink.taken l.initial.self.out.now) (g.K.Sink.taken l.self.out.now) (joined (flat_map (receiver_rows l.initial.self.bands l.version) (take l.row-index l.rows)));
  faults : g.K.Sink.faults l.self.out.now ≡ g.K.Sink.faults l.initial.self.out.now;
  bands : l.self.bands ≡ l.initial.self.bands;
  counts : l.self.counts ≡ l.initial.self.counts;
  sink : l.self.out.ghost_name ≡ l.initial.self.out.ghost_name;
}
