use Rattle.term_ground.proofs.SimpleMethod.{simple-same, angle-same}
use Rattle.term_ground.proofs.laws.simple_method_same.Goals as goal

pub returns-clause-ground : goal.returns-clause-ground
returns-clause-ground c = simple-same

pub returns-clause-index : goal.returns-clause-index
returns-clause-index c = angle-same
