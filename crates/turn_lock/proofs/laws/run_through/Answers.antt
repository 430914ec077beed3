use Rattle.turn_lock.proofs.Histories.{run_cut}
use Rattle.turn_lock.proofs.laws.run_through.Goals as goal

pub returns : goal.returns
returns g c = run_cut _ _ _
