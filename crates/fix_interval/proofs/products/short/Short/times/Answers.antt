use Rattle.std.proofs.Common.{◌^◌, ◌<◌, arith}
use Rattle.fix_interval.proofs.WholeFactors.{product-interval, product-found}
use Rattle.fix_interval.proofs.products.short.Short.times.Goals as goal

pub of_ends-requires : goal.of_ends-requires
of_ends-requires c =
    let few : c.args.n < 2 ^ 32 = omega arith in
    rw (
      product-found c.args.self.lo c.args.n c.from.result c.from-n.result c.args.self.low_end few c.from.ensures c.from-n.ensures,
      product-found c.args.self.hi c.args.n c.from-2.result c.from-n.result c.args.self.high_end few c.from-2.ensures c.from-n.ensures,
    )
    (product-interval c.args.self.lo c.args.self.hi c.args.n c.args.self.ordered c.args.self.low_end c.args.self.high_end few)

pub returns : goal.returns
returns c =
    let few : c.args.n < 2 ^ 32 = omega arith in
    rw (
      c.of_ends.ensures,
      product-found c.args.self.lo c.args.n c.from.result c.from-n.result c.args.self.low_end few c.from.ensures c.from-n.ensures,
      product-found c.args.self.hi c.args.n c.from-2.result c.from-n.result c.args.self.high_end few c.from-2.ensures c.from-n.ensures,
    )
