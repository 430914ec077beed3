use Rattle.std.proofs.Common.{◌∙◌, sym}
use Rattle.fix_interval.specs.Values.{add_of}
use Rattle.fix_interval.proofs.ShortEnds.{both-short}
use Rattle.fix_interval.proofs.ShortSums.{sum-short}
use Rattle.fix_interval.proofs.values.add.Goals as goal

pub returns-in-Some-Some : goal.returns-in-Some-Some
returns-in-Some-Some c =
    let first = c.in-Some-Some.first in
    let second = c.in-Some-Some.second in
    c.plus.ensures
    ∙ (sym (sum-short first.lo first.hi second.lo second.hi first.low_end first.high_end second.low_end second.high_end first.ordered second.ordered)
    ∙ sym (both-short add_of c.args.a c.args.b c.short_ends.result c.short_ends-2.result c.in-Some-Some.first c.in-Some-Some.second c.short_ends.ensures.ends c.short_ends-2.ensures.ends c.in-Some-Some.is-0 c.in-Some-Some.is-1))
