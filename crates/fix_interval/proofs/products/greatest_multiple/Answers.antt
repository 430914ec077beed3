use Rattle.fix_interval.specs.Values.{greatest_product}
use Rattle.fix_interval.proofs.Multiplying.{least_product-negated, end_of-negated}
use Rattle.fix_interval.proofs.products.greatest_multiple.Goals as goal

pub returns : goal.returns
returns c =
    let a = c.args.a in
    let b = c.args.b in
    rw (
      c.negated-2.ensures,
      c.least_multiple.ensures,
      c.negated.ensures.low,
      c.negated.ensures.high,
      least_product-negated a.lo a.hi b.lo b.hi,
    )
    (end_of-negated (greatest_product a.lo a.hi b.lo b.hi))
