use Rattle.order_law.proofs.Shown.{order-law}
use Rattle.order_law.proofs.laws.levels_ignore_order.Goals as goal

pub returns : goal.returns
returns c = order-law
