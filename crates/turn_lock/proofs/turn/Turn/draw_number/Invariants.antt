use Rattle.std.proofs.Common.{◌≡◌}
use Rattle.turn_lock.specs.inner.Places.{IsSamePlace}
use Rattle.turn_lock.proofs.turn.Turn.draw_number.Given as goal

abbrev pub invariant-loop : goal.invariant-loop
invariant-loop g l = IsSamePlace l.initial.place l.place × (l.place.me ≡ l.initial.place.me)
