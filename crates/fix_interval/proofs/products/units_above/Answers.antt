use Rattle.fix_interval.proofs.Multiplying.{above_is}
use Rattle.fix_interval.proofs.products.units_above.Goals as goal

pub returns : goal.returns
returns c = above_is c.args.product c.requires
