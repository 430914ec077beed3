use Rattle.std.proofs.Common.{refl}
use Rattle.map_lock.proofs.desk.taken.Goals as goal

pub returns-in-Finished : goal.returns-in-Finished
returns-in-Finished c = rw c.in-Finished.is refl
