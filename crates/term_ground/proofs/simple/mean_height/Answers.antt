use Rattle.std.proofs.Common.{arith, ◌^◌}
use Rattle.term_ground.proofs.TermBounds.{ratio-within}
use Rattle.term_ground.proofs.simple.mean_height.Goals as goal

pub returns-clause-bounds : goal.returns-clause-bounds
returns-clause-bounds c =
    rw c.half.ensures (ratio-within _ 2000 (2 ^ 55) (omega arith) (omega (arith, c.from.ensures, c.from-2.ensures)) (omega (arith, c.from.ensures, c.from-2.ensures)))
