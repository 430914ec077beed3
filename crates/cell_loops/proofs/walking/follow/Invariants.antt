-- So many edges of the loop are marked. With each there are fewer without a mark.
use Rattle.std.proofs.Common.{not}
use Rattle.std.specs.List.{count_by}
use Rattle.cell_loops.proofs.Walks.{Walks}
use Rattle.cell_loops.proofs.walking.follow.Given as goal

abbrev pub invariant-loop-points : goal.invariant-loop-points
invariant-loop-points l = Walks l.region l.fn.begin l.initial.walked l.walked l.points.items l.edge

abbrev pub decreases-loop-points : goal.decreases-loop-points
decreases-loop-points l = count_by not l.walked
