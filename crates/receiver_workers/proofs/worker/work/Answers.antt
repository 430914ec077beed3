use Rattle.std.proofs.Common.{◌≡◌, sym, refl, arith}
use Rattle.receiver_workers.proofs.Lists.{push_then_lose, contains_last}
use Rattle.receiver_workers.proofs.worker.work.Goals as goal

pub loop-preserved-in-Ok : goal.loop-preserved-in-Ok
loop-preserved-in-Ok g c =
    let before = c.loop.invariant in
    let through = g.met.D.Desk.follows_through in
    let lost = push_then_lose (λ job. g.D.Desk.answers job c.in-Ok.answer) c.in-Job.job c.in-Ok.ensures
    (g.D.Desk.owed c.loop.seat) (g.D.Desk.owed c.take.new.seat) (g.D.Desk.owed c.offer.new.seat)
    c.in-Job.ensures.owed c.offer.ensures.owed in
    record {
      can_next = tt;
      is_finite = tt;
      fits = c.offer.ensures.fits;
      follows = through c.args.seat.now c.loop.seat c.offer.new.seat before.follows
          (through c.loop.seat c.take.new.seat c.offer.new.seat c.take.ensures.follows c.offer.ensures.follows);
      owed = rw (lost, before.owed);
      backs = rw (c.offer.ensures.backs, c.take.ensures.backs, before.backs);
    }

pub give_back-requires-clause-owed : goal.give_back-requires-clause-owed
give_back-requires-clause-owed g c =
    contains_last (g.D.Desk.owed c.loop.seat) (g.D.Desk.owed c.take.new.seat) c.in-Job.job
    (g.D.Desk.of c.in-Err.back) c.in-Job.ensures.owed c.in-Err.ensures

pub returns-in-Err : goal.returns-in-Err
returns-in-Err g c =
    let before = c.loop.invariant in
    let through = g.met.D.Desk.follows_through in
    let lost = push_then_lose (λ job. job ≡ g.D.Desk.of c.in-Err.back) c.in-Job.job (sym c.in-Err.ensures)
    (g.D.Desk.owed c.loop.seat) (g.D.Desk.owed c.take.new.seat) (g.D.Desk.owed c.give_back.new.seat)
    c.in-Job.ensures.owed c.give_back.ensures.owed in
    record {
      fits = c.give_back.ensures.fits;
      follows = through c.args.seat.now c.loop.seat c.give_back.new.seat before.follows
          (through c.loop.seat c.take.new.seat c.give_back.new.seat c.take.ensures.follows c.give_back.ensures.follows);
      owed = rw (lost, before.owed);
      backs = rw (c.give_back.ensures.backs, c.take.ensures.backs, before.backs);
      stopped = grind (arith, c.give_back.ensures.last);
      no_memory = (λ _. record { handed_back = c.in-Err.back; last_is = c.give_back.ensures.last }, λ _. refl);
    }
