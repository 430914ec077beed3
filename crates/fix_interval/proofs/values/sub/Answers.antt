use Rattle.std.proofs.Common.{◌≡◌, ◌∙◌, ap, sym, refl}
use Rattle.fix_interval.specs.Values.{add_of, neg_of, sub_of}
use Rattle.fix_interval.proofs.ShortEnds.{of_short, both-short}
use Rattle.fix_interval.proofs.ShortSums.{sum-short}
use Rattle.fix_interval.proofs.values.sub.Goals as goal

pub returns-in-Some-Some : goal.returns-in-Some-Some
unfolding neg_of
returns-in-Some-Some c =
    let first = c.in-Some-Some.first in
    let second = c.in-Some-Some.second in
    let other = c.negated.result in
    let negated : of_short other ≡ neg_of (of_short second) = rw (c.negated.ensures.low, c.negated.ensures.high) refl in
    c.plus.ensures
    ∙ (sym (sum-short first.lo first.hi other.lo other.hi first.low_end first.high_end other.low_end other.high_end first.ordered other.ordered)
    ∙ (ap (add_of (of_short first)) negated
    ∙ sym (both-short sub_of c.args.a c.args.b c.short_ends.result c.short_ends-2.result first second c.short_ends.ensures.ends c.short_ends-2.ensures.ends c.in-Some-Some.is-0 c.in-Some-Some.is-1)))
