use Rattle.std.proofs.Common.{arith}
use Rattle.std.proofs.lemmas.Int.{ints}
use Rattle.term_ground.proofs.ShortEnds.{least-positive, least-negative}
use Rattle.term_ground.proofs.extents.quotients.least.Goals as goal

pub returns-then-units-ge0 : goal.returns-then-units-ge0
returns-then-units-ge0 c =
    let by = c.args.by in
    least-positive c.args.units by.lo by.hi c.from.result c.requires.positive by.ordered c.requires.small (omega (arith, ints)) (grind arith)

pub returns-else-units-ge0 : goal.returns-else-units-ge0
returns-else-units-ge0 c =
    let by = c.args.by in
    least-negative c.args.units by.lo by.hi c.from-else-units-ge0.result c.requires.positive by.ordered c.requires.small (omega (arith, ints)) (grind arith)
