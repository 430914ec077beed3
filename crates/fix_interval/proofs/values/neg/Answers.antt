use Rattle.fix_interval.proofs.Intervals.{IsInterval-neg_of}
use Rattle.fix_interval.specs.Values.{neg_of}
use Rattle.fix_interval.proofs.values.neg.Goals as goal

pub of_ends-requires : goal.of_ends-requires
unfolding neg_of
of_ends-requires c =
    rw (c.negated.ensures, c.negated-2.ensures, c.high.ensures.end, c.low.ensures.end)
    (IsInterval-neg_of c.args.a c.low.ensures.interval)

pub returns : goal.returns
unfolding neg_of
returns c = cc
