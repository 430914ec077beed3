use Rattle.edge_chain.proofs.Unique.{empty_where_none}
use Rattle.edge_chain.proofs.laws.empty_where_none.Goals as goal

pub returns : goal.returns
returns c = empty_where_none
