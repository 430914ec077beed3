use Rattle.fix_interval.proofs.Intervals.{IsInterval-max_of}
use Rattle.fix_interval.specs.Values.{max_of}
use Rattle.fix_interval.proofs.values.max.Goals as goal

pub of_ends-requires : goal.of_ends-requires
unfolding max_of
of_ends-requires c =
    rw (c.greater_of_lows.ensures, c.greater_of_highs.ensures, c.low.ensures.end, c.low-2.ensures.end, c.high.ensures.end, c.high-2.ensures.end)
    (IsInterval-max_of c.args.a c.args.b c.low.ensures.interval c.low-2.ensures.interval)

pub returns : goal.returns
unfolding max_of
returns c = cc
