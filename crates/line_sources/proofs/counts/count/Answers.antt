use Rattle.std.proofs.Common.{◌∙◌, arith}
use Rattle.line_sources.proofs.CountLemmas.{count_of-is}
use Rattle.line_sources.proofs.counts.count.Goals as goal

pub returns-clause-value : goal.returns-clause-value
returns-clause-value c =
    let root = c.root_up.ensures in
    c.div_ceil.ensures
    ∙ count_of-is c.args.square c.args.piece c.root_up.result c.requires.some (omega (arith, c.requires.least)) (root.some c.requires.some) root.above (root.next c.requires.some)
