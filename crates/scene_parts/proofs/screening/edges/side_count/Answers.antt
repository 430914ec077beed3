use Rattle.std.proofs.Common.{arith}
use Rattle.scene_parts.proofs.SideLemmas.{length-barrier, length-ring}
use Rattle.scene_parts.proofs.screening.edges.side_count.Goals as goal

pub returns-in-Barrier : goal.returns-in-Barrier
returns-in-Barrier c = rw c.in-Barrier.is (omega (arith, c.saturating_sub.ensures, length-barrier c.args.corners.now))

pub returns-in-Building : goal.returns-in-Building
returns-in-Building c = rw c.in-Building.is (omega (arith, length-ring c.args.corners.now))
