use Rattle.map_lock.specs.Seats.{IsSeat}
use Rattle.map_lock.specs.Settling.{HasWorkedQuietly}
use Rattle.map_lock.proofs.lock.MapLock.settle_by.Given as goal

-- so far the editor only took and offered
abbrev pub invariant-loop : goal.invariant-loop
invariant-loop g l = record {
  can_next : (goal.iterator-loop g).can_next l.iterator';
  is_finite : (goal.iterator-loop g).is_finite l.iterator';
  so_far : HasWorkedQuietly l.fn.seat l.seat;
  sound : IsSeat l.seat;
}
