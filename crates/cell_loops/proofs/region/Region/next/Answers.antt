use Rattle.std.proofs.Common.{arith}
use Rattle.cell_loops.proofs.Edges.{bounds-on}
use Rattle.cell_loops.proofs.region.Region.next.Goals as goal

pub end-from-requires-clause-x : goal.end-from-requires-clause-x
end-from-requires-clause-x c =
    let on = bounds-on c.args.self.now c.args.edge c.requires.bounds in
    omega (arith, on.x, c.requires.small.few_columns)

pub end-from-requires-clause-y : goal.end-from-requires-clause-y
end-from-requires-clause-y c =
    let on = bounds-on c.args.self.now c.args.edge c.requires.bounds in
    omega (arith, on.y, c.requires.small.few_rows)
