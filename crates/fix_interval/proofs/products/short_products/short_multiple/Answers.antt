use Rattle.std.proofs.Common.{◌∙◌}
use Rattle.fix_interval.proofs.ShortProducts.{short-interval, short-value}
use Rattle.fix_interval.proofs.products.short_products.short_multiple.Goals as goal

pub of_ends-requires : goal.of_ends-requires
of_ends-requires c =
    let a = c.args.a in
    let b = c.args.b in
    short-interval a.lo a.hi b.lo b.hi a.low_end a.high_end b.low_end b.high_end
    c.least_multiple.result c.greatest_multiple.result c.least_multiple.ensures c.greatest_multiple.ensures

pub returns : goal.returns
returns c =
    let a = c.args.a in
    let b = c.args.b in
    c.of_ends.ensures
    ∙ short-value a.lo a.hi b.lo b.hi a.low_end a.high_end b.low_end b.high_end
    c.least_multiple.result c.greatest_multiple.result c.least_multiple.ensures c.greatest_multiple.ensures
