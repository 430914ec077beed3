use Rattle.std.proofs.Common.{◌∙◌, arith, pos, ◌≤ℤ◌, ◌<ℤ◌}
use Rattle.std.proofs.lemmas.Int.{ints}
use Rattle.fix_interval.specs.Values.{least_product}
use Rattle.fix_interval.proofs.Multiplying.{product_passed, least_product-positive, least_product-negative}
use Rattle.fix_interval.proofs.products.least_multiple.Goals as goal

pub returns-then-b-ge0 : goal.returns-then-b-ge0
returns-then-b-ge0 c =
    let positive : pos 0 ≤ℤ c.args.b.lo = omega (arith, ints, c.args.b.low_end, c.args.b.high_end) in
    c.product.ensures
    ∙ product_passed c.args.a.lo c.args.b.lo (least_product c.args.a.lo c.args.a.hi c.args.b.lo c.args.b.hi) c.args.a.low_end c.args.b.low_end
    (least_product-positive c.args.a.lo c.args.a.hi c.args.b.lo c.args.b.hi c.requires c.args.a.ordered c.args.b.ordered positive)

pub returns-else-b-ge0 : goal.returns-else-b-ge0
returns-else-b-ge0 c =
    let negative : c.args.b.lo <ℤ pos 0 = omega (arith, ints, c.args.b.low_end, c.args.b.high_end) in
    c.product-else-b-ge0.ensures
    ∙ product_passed c.args.a.hi c.args.b.lo (least_product c.args.a.lo c.args.a.hi c.args.b.lo c.args.b.hi) c.args.a.high_end c.args.b.low_end
    (least_product-negative c.args.a.lo c.args.a.hi c.args.b.lo c.args.b.hi c.requires c.args.a.ordered c.args.b.ordered negative)
