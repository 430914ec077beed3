use Rattle.cell_loops.specs.Boundary.{bounds, steps_at}
use Rattle.cell_loops.proofs.Pieces.{filter-pieces}
use Rattle.cell_loops.proofs.gathering.push_row.Goals as goal

pub loop-x-preserved : goal.loop-x-preserved
loop-x-preserved c = (
  filter-pieces (bounds c.args.region.now) (steps_at c.args.y) c.loop-x.x c.args.edges.now.items _ _ c.loop-x.invariant.0 c.in_ok-push_corner.ensures,
  c.loop-x.invariant.1,
)
