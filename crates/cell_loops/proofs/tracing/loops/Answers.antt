use Rattle.cell_loops.proofs.Once.{separates}
use Rattle.cell_loops.proofs.Ordered.{ordered}
use Rattle.cell_loops.proofs.Sides.{louder_inside, quieter_outside, same_where_sure}
use Rattle.cell_loops.specs.Plane.{plane_of}
use Rattle.cell_loops.proofs.tracing.loops.Goals as goal

pub returns-clause-separation : goal.returns-clause-separation
returns-clause-separation c = separates (plane_of c.args.columns c.args.rows c.args.cells.now c.args.family)

pub returns-clause-order : goal.returns-clause-order
returns-clause-order c = ordered (plane_of c.args.columns c.args.rows c.args.cells.now c.args.family)

pub returns-clause-inside : goal.returns-clause-inside
returns-clause-inside c = louder_inside c.args.columns c.args.rows c.args.cells.now

pub returns-clause-outside : goal.returns-clause-outside
returns-clause-outside c = quieter_outside c.args.columns c.args.rows c.args.cells.now

pub returns-clause-sure : goal.returns-clause-sure
returns-clause-sure c = same_where_sure c.args.columns c.args.rows c.args.cells.now
