use Rattle.term_foliage.proofs.Lawful.{same-met}
use Rattle.term_foliage.proofs.laws.same_for_met_foliage.Goals as goal

pub returns : goal.returns
returns c = same-met
