-- What was taken is what comes before the rest, and no write has failed.
use Rattle.std.proofs.Common.{◌≡◌, length}
use Rattle.map_io.specs.Putting.{TakenBefore}
use Rattle.map_io.proofs.sink.put_all.Given as goal

abbrev pub invariant-loop-rest : goal.invariant-loop-rest
invariant-loop-rest g l = record {
  taken : TakenBefore (g.K.Sink.taken l.initial.sink) (g.K.Sink.taken l.sink) l.piece l.rest;
  faults : g.K.Sink.faults l.sink ≡ g.K.Sink.faults l.initial.sink;
}

abbrev pub decreases-loop-rest : goal.decreases-loop-rest
decreases-loop-rest g l = length l.rest
