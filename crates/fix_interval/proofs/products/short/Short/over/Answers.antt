use Rattle.std.proofs.Common.{◌^◌, ◌<◌, arith}
use Rattle.fix_interval.proofs.WholeFactors.{quotient-interval, low-found, high-found}
use Rattle.fix_interval.proofs.products.short.Short.over.Goals as goal

pub of_ends-requires : goal.of_ends-requires
of_ends-requires c =
    let few : c.args.n < 2 ^ 32 = omega arith in
    rw (
      low-found c.args.self.lo c.args.n c.from-n.result c.div_euclid-low.result c.into.result c.args.self.low_end c.requires few c.from-n.ensures c.div_euclid-low.ensures c.into.ensures,
      high-found c.args.self.hi c.args.n c.from-n.result c.div_euclid-high.result c.into-2.result c.args.self.high_end c.requires few c.from-n.ensures c.div_euclid-high.ensures c.into-2.ensures,
    )
    (quotient-interval c.args.self.lo c.args.self.hi c.args.n c.args.self.ordered c.args.self.low_end c.args.self.high_end c.requires)

pub returns : goal.returns
returns c =
    let few : c.args.n < 2 ^ 32 = omega arith in
    rw (
      c.of_ends.ensures,
      low-found c.args.self.lo c.args.n c.from-n.result c.div_euclid-low.result c.into.result c.args.self.low_end c.requires few c.from-n.ensures c.div_euclid-low.ensures c.into.ensures,
      high-found c.args.self.hi c.args.n c.from-n.result c.div_euclid-high.result c.into-2.result c.args.self.high_end c.requires few c.from-n.ensures c.div_euclid-high.ensures c.into-2.ensures,
    )
