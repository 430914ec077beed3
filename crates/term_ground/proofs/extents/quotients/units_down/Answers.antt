use Rattle.std.proofs.Common.{arith}
use Rattle.term_ground.proofs.ShortEnds.{place-down}
use Rattle.term_ground.proofs.extents.quotients.units_down.Goals as goal

pub returns : goal.returns
returns c = place-down c.args.n c.args.d (omega (arith, c.requires.least))
