use Rattle.turn_lock.proofs.Facts.{sound_seen}
use Rattle.turn_lock.proofs.seat.Seat.stays_sound.Goals as goal

pub returns : goal.returns
returns g c = sound_seen _ _ _ _ _ _ c.self.invariant.name c.self.invariant.knows _ c.self.view_is
