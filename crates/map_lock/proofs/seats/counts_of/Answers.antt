use Rattle.std.proofs.Common.{refl}
use Rattle.map_lock.proofs.seats.counts_of.Goals as goal

pub returns-in-Ok : goal.returns-in-Ok
returns-in-Ok c = rw c.in-Ok.is refl
