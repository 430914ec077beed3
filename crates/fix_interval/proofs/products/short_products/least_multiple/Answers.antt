use Rattle.std.proofs.Common.{arith, pos, ◌≤ℤ◌, ◌<ℤ◌}
use Rattle.std.proofs.lemmas.Int.{ints}
use Rattle.fix_interval.specs.Values.{least_product}
use Rattle.fix_interval.proofs.Multiplying.{least_product-positive, least_product-negative}
use Rattle.fix_interval.proofs.ShortProducts.{floor-found}
use Rattle.fix_interval.proofs.products.short_products.least_multiple.Goals as goal

pub returns-then-b-ge0 : goal.returns-then-b-ge0
returns-then-b-ge0 c =
    let a = c.args.a in
    let b = c.args.b in
    let positive : pos 0 ≤ℤ b.lo = omega (arith, ints, b.low_end) in
    floor-found a.lo b.lo c.product.result (least_product a.lo a.hi b.lo b.hi) c.units_below.result a.low_end b.low_end c.product.ensures.value
    (least_product-positive a.lo a.hi b.lo b.hi c.requires a.ordered b.ordered positive) c.units_below.ensures

pub returns-else-b-ge0 : goal.returns-else-b-ge0
returns-else-b-ge0 c =
    let a = c.args.a in
    let b = c.args.b in
    let negative : b.lo <ℤ pos 0 = omega (arith, ints, b.low_end) in
    floor-found a.hi b.lo c.product-else-b-ge0.result (least_product a.lo a.hi b.lo b.hi) c.units_below-else-b-ge0.result a.high_end b.low_end c.product-else-b-ge0.ensures.value
    (least_product-negative a.lo a.hi b.lo b.hi c.requires a.ordered b.ordered negative) c.units_below-else-b-ge0.ensures
