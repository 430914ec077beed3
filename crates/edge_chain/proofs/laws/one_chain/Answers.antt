use Rattle.edge_chain.proofs.Unique.{one_chain}
use Rattle.edge_chain.proofs.laws.one_chain.Goals as goal

pub returns : goal.returns
returns c = one_chain
