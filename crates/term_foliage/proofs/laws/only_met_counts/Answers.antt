use Rattle.term_foliage.proofs.Lawful.{only-met}
use Rattle.term_foliage.proofs.laws.only_met_counts.Goals as goal

pub returns : goal.returns
returns c = only-met
