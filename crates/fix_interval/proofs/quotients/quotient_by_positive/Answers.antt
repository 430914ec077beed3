use Rattle.std.proofs.Common.{◌≡◌, sym}
use Rattle.fix_interval.specs.Values.{quotient_of_ends}
use Rattle.fix_interval.proofs.Dividing.{quotient_of_ends-positive, IsInterval-quotient_by_positive}
use Rattle.fix_interval.proofs.quotients.quotient_by_positive.Goals as goal

pub of_ends-requires : goal.of_ends-requires
of_ends-requires c =
    let same : record { lo = c.least_quotient.result; hi = c.greatest_quotient.result } ≡ quotient_of_ends c.args.a.lo c.args.a.hi c.args.b.lo c.args.b.hi =
    rw (c.least_quotient.ensures, c.greatest_quotient.ensures)
    (sym (quotient_of_ends-positive c.args.a.lo c.args.a.hi c.args.b.lo c.args.b.hi c.requires.positive c.args.b.ordered c.args.a.ordered c.requires.low_dividend c.requires.high_dividend)) in
    rw same
    (IsInterval-quotient_by_positive c.args.a.lo c.args.a.hi c.args.b.lo c.args.b.hi c.requires.positive c.args.b.ordered c.args.a.ordered c.requires.low_dividend c.requires.high_dividend)

pub returns : goal.returns
returns c =
    rw (c.of_ends.ensures, c.least_quotient.ensures, c.greatest_quotient.ensures)
    (sym (quotient_of_ends-positive c.args.a.lo c.args.a.hi c.args.b.lo c.args.b.hi c.requires.positive c.args.b.ordered c.args.a.ordered c.requires.low_dividend c.requires.high_dividend))
