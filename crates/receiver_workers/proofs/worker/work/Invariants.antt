use Rattle.std.proofs.Common.{◌≡◌}
use Rattle.receiver_workers.proofs.worker.work.Given as goal

abbrev pub invariant-loop : goal.invariant-loop
invariant-loop g l = record {
  can_next : (goal.iterator-loop g).can_next l.iterator';
  is_finite : (goal.iterator-loop g).is_finite l.iterator';
  fits : g.D.Desk.fits l.desk l.seat;
  follows : g.D.Desk.follows l.fn.seat l.seat;
  owed : g.D.Desk.owed l.seat ≡ g.D.Desk.owed l.fn.seat;
  backs : g.D.Desk.backs l.seat ≡ g.D.Desk.backs l.fn.seat;
}
