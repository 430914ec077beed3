use Rattle.map_lock.proofs.Desks.{last-take, owes-take}
use Rattle.map_lock.proofs.desk.MapLockDesk.take.Goals as goal

pub returns-clause-last : goal.returns-clause-last
returns-clause-last g c =
    rw c.taken.ensures (last-take c.seat.inside.seat c.take_or_sleep-took.new.seat c.take_or_sleep-took.result c.take_or_sleep-took.ensures.turn)

pub returns-clause-owed : goal.returns-clause-owed
returns-clause-owed g c =
    rw (c.taken.ensures, ← c.seat.view_is)
    (owes-take c.seat.inside.seat c.take_or_sleep-took.new.seat c.take_or_sleep-took.result c.take_or_sleep-took.ensures.turn)
