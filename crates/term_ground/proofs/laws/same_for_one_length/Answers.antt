use Rattle.term_ground.proofs.Same.{same-ground}
use Rattle.term_ground.proofs.laws.same_for_one_length.Goals as goal

pub returns : goal.returns
returns c = same-ground
