-- The texts so far have been written to the same sink, and its count of faults has not risen.
use Rattle.std.proofs.Common.{◌≡◌, take}
use Rattle.std.specs.Io.KnownBytes.{Appends}
use Rattle.map_text.specs.Taking.{joined}
use Rattle.map_text.proofs.rows.Rows.put_each.Given as goal

abbrev pub invariant-loop-text : goal.invariant-loop-text
invariant-loop-text g l = record {
  written : Appends (g.K.Sink.taken l.initial.self.out.now) (g.K.Sink.taken l.self.out.now) (joined (take l.text-index l.texts));
  faults : g.K.Sink.faults l.self.out.now ≡ g.K.Sink.faults l.initial.self.out.now;
  bands : l.self.bands ≡ l.initial.self.bands;
  counts : l.self.counts ≡ l.initial.self.counts;
  sink : l.self.out.ghost_name ≡ l.initial.self.out.ghost_name;
}
