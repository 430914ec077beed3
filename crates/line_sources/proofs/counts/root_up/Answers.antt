use Rattle.std.proofs.Common.{arith}
use Rattle.line_sources.proofs.CountLemmas.{root-small}
use Rattle.line_sources.proofs.counts.root_up.Goals as goal
use Rattle.line_sources.proofs.counts.root_up.Goals.{then-root-square, else-root-square}

pub returns-clause-few : goal.returns-clause-few
returns-clause-few c =
    let small = root-small c.isqrt-root.result c.args.square c.isqrt-root.ensures.square_le c.requires in
    elim c.if-root-square.branch [ then-root-square w ↦ omega (arith, small) | else-root-square w ↦ omega (arith, small) ]
