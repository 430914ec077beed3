use Rattle.std.proofs.Common.{◌∙◌, sym, arith}
use Rattle.fix_interval.proofs.WholeFactors.{quotient-short}
use Rattle.fix_interval.proofs.products.whole_factors.over.Goals as goal

pub returns-in-Some : goal.returns-in-Some
returns-in-Some c =
    let ends = c.in-Some.ends in
    rw (c.in-Some.ensures.ends) (c.over.ensures ∙ sym (quotient-short ends.lo ends.hi c.args.n ends.ordered ends.low_end ends.high_end c.requires (omega arith)))
