use Rattle.std.proofs.Common.{◌≡◌}
use Rattle.worker_tests.proofs.turns.work.Given as goal

abbrev pub invariant-loop : goal.invariant-loop
invariant-loop g l = (l.seat.table ≡ l.initial.seat.table) × (l.seat.parts ≡ l.initial.seat.parts)
