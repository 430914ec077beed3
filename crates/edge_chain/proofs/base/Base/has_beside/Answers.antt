use Rattle.std.proofs.Common.{rules}
use Rattle.edge_chain.proofs.base.Base.has_beside.Goals as goal

pub returns : goal.returns
returns c = search rules
