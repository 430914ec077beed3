use Rattle.std.proofs.Common.{rules}
use Rattle.line_sources.proofs.SourceLemmas.{enough-stay, no_leg-stay}
use Rattle.line_sources.proofs.sources.add_side.Goals as goal
use Rattle.line_sources.proofs.sources.add_side.Goals.{then-len-via-then-len, then-len-via-else-len+then-not-is_leg}

pub returns-then-len : goal.returns-then-len
returns-then-len c =
    elim c.then-len.branch [
      | then-len-via-then-len w ↦ enough-stay c.args.sources.now.items _ 129 (search rules)
      | then-len-via-else-len+then-not-is_leg w ↦ no_leg-stay c.args.line.now c.args.sources.now.items c.args.side 129 (search rules) (search rules)
    ]
