use Rattle.path_calc.proofs.Reflecting.{reflected-edges-are-cuts}
use Rattle.path_calc.proofs.laws.reflected_edges_are_cuts.Goals as goal

pub returns : goal.returns
returns c = reflected-edges-are-cuts
