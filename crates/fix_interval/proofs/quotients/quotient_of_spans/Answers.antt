use Rattle.std.proofs.Common.{◌<◌, ◌^◌, pos, ◌<ℤ◌, sym, arith, rules}
use Rattle.std.specs.Prelude.{unsigned_abs}
use Rattle.std.proofs.lemmas.Int.{ints}
use Rattle.fix_interval.proofs.Dividing.{quotient_of_ends-negative}
use Rattle.fix_interval.proofs.quotients.quotient_of_spans.Goals as goal

pub returns-then-b-lt0 : goal.returns-then-b-lt0
returns-then-b-lt0 c =
    let dividend : (unsigned_abs c.args.a.lo < 2 ^ 94) × (unsigned_abs c.args.a.hi < 2 ^ 94) = search rules in
    let negative : c.args.b.hi <ℤ pos 0 = omega (arith, ints, c.args.b.high_end) in
    rw (c.quotient_by_positive-then-b-lt0.ensures, c.negated.ensures.low, c.negated.ensures.high, c.negated-then-b-lt0.ensures.low, c.negated-then-b-lt0.ensures.high)
    (sym (quotient_of_ends-negative c.args.a.lo c.args.a.hi c.args.b.lo c.args.b.hi negative c.args.b.ordered dividend.0 dividend.1))
