use Rattle.std.proofs.Common.{◌∙◌, sym}
use Rattle.fix_interval.specs.Values.{mul_of}
use Rattle.fix_interval.proofs.Multiplying.{product_of_ends_comm}
use Rattle.fix_interval.proofs.ShortEnds.{both-short}
use Rattle.fix_interval.proofs.products.mul.Goals as goal

pub returns-then-first-ge0 : goal.returns-then-first-ge0
unfolding mul_of
returns-then-first-ge0 c =
    c.short_multiple.ensures ∙ sym (both-short mul_of c.args.a c.args.b c.short_ends.result c.short_ends-2.result c.in-Some-Some.first c.in-Some-Some.second c.short_ends.ensures.ends c.short_ends-2.ensures.ends c.in-Some-Some.is-0 c.in-Some-Some.is-1)

pub returns-then-second-ge0 : goal.returns-then-second-ge0
unfolding mul_of
returns-then-second-ge0 c =
    let first = c.in-Some-Some.first in
    let second = c.in-Some-Some.second in
    c.short_multiple-then-second-ge0.ensures
    ∙ (product_of_ends_comm second.lo second.hi first.lo first.hi
    ∙ sym (both-short mul_of c.args.a c.args.b c.short_ends.result c.short_ends-2.result c.in-Some-Some.first c.in-Some-Some.second c.short_ends.ensures.ends c.short_ends-2.ensures.ends c.in-Some-Some.is-0 c.in-Some-Some.is-1))
