use Rattle.std.proofs.Common.{arith}
use Rattle.std.proofs.lemmas.Int.{ints}
use Rattle.term_ground.proofs.ShortEnds.{nothing-above, nothing-below}
use Rattle.term_ground.proofs.extents.quotients.divides.Goals as goal

pub returns-then-width-gt0 : goal.returns-then-width-gt0
returns-then-width-gt0 c = λ positive difference.
    let width = c.args.width in
    nothing-above difference.lo difference.hi width.lo width.hi (omega (arith, ints, width.low_end, positive)) width.ordered

pub returns-else-width-gt0 : goal.returns-else-width-gt0
returns-else-width-gt0 c = λ negative difference.
    let width = c.args.width in
    nothing-below difference.lo difference.hi width.lo width.hi (omega (arith, ints, width.high_end, negative)) width.ordered
