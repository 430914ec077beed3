use Rattle.term_ground.proofs.Same.{same-zones}
use Rattle.term_ground.proofs.laws.same_for_met_zones.Goals as goal

pub returns : goal.returns
returns c = same-zones
