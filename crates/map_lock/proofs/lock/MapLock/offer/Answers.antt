use Rattle.map_lock.proofs.lock.MapLock.offer.Goals as goal

pub ask_offer-requires-clause-owed : goal.ask_offer-requires-clause-owed
ask_offer-requires-clause-owed g c = rw c.seat.view_is c.requires.owed
