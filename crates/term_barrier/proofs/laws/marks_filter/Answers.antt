use Rattle.term_barrier.proofs.Fitting.{marks-filter}
use Rattle.term_barrier.proofs.laws.marks_filter.Goals as goal

pub returns : goal.returns
returns c = marks-filter
