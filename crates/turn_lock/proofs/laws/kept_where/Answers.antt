use Rattle.turn_lock.proofs.Histories.{kept_by_all}
use Rattle.turn_lock.proofs.laws.kept_where.Goals as goal

pub returns : goal.returns
returns g c = kept_by_all _ _ _ _ _
