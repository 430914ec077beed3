use Rattle.term_foliage.proofs.Lawful.{same-length}
use Rattle.term_foliage.proofs.laws.same_for_one_length.Goals as goal

pub returns : goal.returns
returns c = same-length
