use Rattle.map_lock.proofs.lock.MapLock.close.Goals as goal

pub returns-clause-run : goal.returns-clause-run
returns-clause-run c = rw (← c.seat.view_is) c.close-board.ensures.run

pub returns-clause-entries : goal.returns-clause-entries
returns-clause-entries c = rw (← c.seat.view_is) c.close-board.ensures.entries
