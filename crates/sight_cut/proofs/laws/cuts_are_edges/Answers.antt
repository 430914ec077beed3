use Rattle.sight_cut.proofs.Edges.{crossings-are-edges, cuts-tell-screens}
use Rattle.sight_cut.proofs.laws.cuts_are_edges.Goals as goal

pub returns-clause-edges : goal.returns-clause-edges
returns-clause-edges c = crossings-are-edges

pub returns-clause-screens : goal.returns-clause-screens
returns-clause-screens c = cuts-tell-screens
