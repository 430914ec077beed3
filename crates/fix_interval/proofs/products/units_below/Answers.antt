use Rattle.fix_interval.proofs.Multiplying.{below_is}
use Rattle.fix_interval.proofs.products.units_below.Goals as goal

pub returns : goal.returns
returns c = below_is c.args.product c.requires
