use Rattle.edge_chain.proofs.Length.{chains_are_short}
use Rattle.edge_chain.proofs.laws.chains_are_short.Goals as goal

pub returns : goal.returns
returns c = chains_are_short
