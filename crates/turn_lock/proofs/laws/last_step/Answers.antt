use Rattle.turn_lock.proofs.Histories.{run_last}
use Rattle.turn_lock.proofs.laws.last_step.Goals as goal

pub returns : goal.returns
returns g c = run_last _ _ _
