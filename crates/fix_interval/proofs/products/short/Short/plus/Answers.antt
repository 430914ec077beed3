use Rattle.fix_interval.proofs.ShortSums.{sum-found, sum-interval}
use Rattle.fix_interval.proofs.products.short.Short.plus.Goals as goal

pub of_ends-requires : goal.of_ends-requires
of_ends-requires c =
    let a = c.args.self in
    let b = c.args.other in
    rw (sum-found a.lo b.lo c.into.result a.low_end b.low_end c.into.ensures, sum-found a.hi b.hi c.into-2.result a.high_end b.high_end c.into-2.ensures)
    (sum-interval a.lo a.hi b.lo b.hi a.low_end a.high_end b.low_end b.high_end a.ordered b.ordered)

pub returns : goal.returns
returns c =
    let a = c.args.self in
    let b = c.args.other in
    rw (c.of_ends.ensures, sum-found a.lo b.lo c.into.result a.low_end b.low_end c.into.ensures, sum-found a.hi b.hi c.into-2.result a.high_end b.high_end c.into-2.ensures)
