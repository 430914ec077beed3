use Rattle.std.proofs.Common.{sym}
use Rattle.term_ground.proofs.Factors.{sum-is}
use Rattle.term_ground.proofs.amounts.amount.Amount.plus.Goals as goal

pub returns-clause-value : goal.returns-clause-value
returns-clause-value c =
    let a = c.args.self in
    let b = c.args.other in
    sym (sum-is a.lo a.hi b.lo b.hi a.ordered b.ordered c.requires.first c.requires.second)
