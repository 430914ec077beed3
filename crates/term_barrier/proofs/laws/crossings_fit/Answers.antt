use Rattle.term_barrier.proofs.Fitting.{crossings-fit}
use Rattle.term_barrier.proofs.laws.crossings_fit.Goals as goal

pub returns : goal.returns
returns c = crossings-fit
