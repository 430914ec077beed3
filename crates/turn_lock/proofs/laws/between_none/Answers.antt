use Rattle.turn_lock.proofs.Histories.{none_behind}
use Rattle.turn_lock.proofs.laws.between_none.Goals as goal

pub returns : goal.returns
returns g c = none_behind
