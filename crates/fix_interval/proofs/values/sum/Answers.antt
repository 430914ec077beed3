use Rattle.fix_interval.proofs.Intervals.{IsInterval-add_of}
use Rattle.fix_interval.specs.Values.{add_of}
use Rattle.fix_interval.proofs.values.sum.Goals as goal

pub of_ends-requires : goal.of_ends-requires
unfolding add_of
of_ends-requires c =
    rw (c.sum_of.ensures, c.sum_of-2.ensures, c.low.ensures.end, c.low-2.ensures.end, c.high.ensures.end, c.high-2.ensures.end)
    (IsInterval-add_of c.args.a c.args.b c.low.ensures.interval c.low-2.ensures.interval)

pub returns : goal.returns
unfolding add_of
returns c = cc
