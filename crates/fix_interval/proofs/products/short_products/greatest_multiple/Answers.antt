use Rattle.std.proofs.Common.{◌≡◌, arith}
use Rattle.std.proofs.lemmas.Int.{ints}
use Rattle.fix_interval.specs.Units.{unit}
use Rattle.fix_interval.specs.Round.{floor_of}
use Rattle.fix_interval.specs.Values.{least_product}
use Rattle.std.specs.Prelude.{neg_ℤ}
use Rattle.fix_interval.proofs.Ratios.{passed}
use Rattle.fix_interval.proofs.ShortProducts.{least-small, greatest-found}
use Rattle.fix_interval.proofs.products.short_products.greatest_multiple.Goals as goal

pub overflow_sub-result : goal.overflow_sub-result
overflow_sub-result c =
    let a = c.args.a in
    let b = c.args.b in
    let low : c.least_multiple.result ≡ floor_of (least_product a.lo a.hi (neg_ℤ b.hi) (neg_ℤ b.lo)) unit =
    rw (c.negated.ensures.low, c.negated.ensures.high) at c.least_multiple.ensures in
    let small = least-small a.lo a.hi b.lo b.hi a.low_end a.high_end b.low_end b.high_end c.least_multiple.result low in
    rw (passed c.least_multiple.result small) (omega (arith, ints, small))

pub returns : goal.returns
returns c =
    let a = c.args.a in
    let b = c.args.b in
    let low : c.least_multiple.result ≡ floor_of (least_product a.lo a.hi (neg_ℤ b.hi) (neg_ℤ b.lo)) unit =
    rw (c.negated.ensures.low, c.negated.ensures.high) at c.least_multiple.ensures in
    greatest-found a.lo a.hi b.lo b.hi a.low_end a.high_end b.low_end b.high_end c.least_multiple.result low
