use Rattle.std.proofs.Common.{arith}
use Rattle.term_ground.proofs.ShortEnds.{place-up-any}
use Rattle.term_ground.proofs.extents.quotients.units_up.Goals as goal

pub returns : goal.returns
returns c = rw c.rounded_up.ensures (place-up-any c.args.n c.args.d (omega (arith, c.requires.least)))
