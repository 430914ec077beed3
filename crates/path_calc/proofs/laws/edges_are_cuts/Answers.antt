use Rattle.path_calc.proofs.Screened.{edges-are-cuts}
use Rattle.path_calc.proofs.laws.edges_are_cuts.Goals as goal

pub returns : goal.returns
returns c = edges-are-cuts
