use Rattle.std.proofs.Common.{[]}
use Rattle.cell_loops.specs.Boundary.{bounds, steps_along}
use Rattle.cell_loops.proofs.Pieces.{filter-pieces}
use Rattle.cell_loops.proofs.gathering.boundary.Goals as goal

pub loop-y-preserved : goal.loop-y-preserved
loop-y-preserved c = (
  filter-pieces (bounds c.args.region.now) (steps_along c.args.region.now) c.loop-y.y [] _ _ c.loop-y.invariant.0 c.in_ok-push_row.ensures,
  c.loop-y.invariant.1,
)
