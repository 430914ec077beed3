use Rattle.std.proofs.Common.{◌∙◌}
use Rattle.term_ground.proofs.Factors.{less-is}
use Rattle.term_ground.proofs.amounts.amount.Amount.less_one_and_a_half.Goals as goal

pub returns : goal.returns
returns c =
    let a = c.args.self in
    c.of_ends.ensures ∙ less-is a.lo a.hi c.from.result c.from-2.result a.ordered c.requires c.from.ensures c.from-2.ensures
