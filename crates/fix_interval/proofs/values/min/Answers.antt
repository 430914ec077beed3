use Rattle.fix_interval.proofs.Intervals.{IsInterval-min_of}
use Rattle.fix_interval.specs.Values.{min_of}
use Rattle.fix_interval.proofs.values.min.Goals as goal

pub of_ends-requires : goal.of_ends-requires
unfolding min_of
of_ends-requires c =
    rw (c.lesser_of_lows.ensures, c.lesser_of_highs.ensures, c.low.ensures.end, c.low-2.ensures.end, c.high.ensures.end, c.high-2.ensures.end)
    (IsInterval-min_of c.args.a c.args.b c.low.ensures.interval c.low-2.ensures.interval)

pub returns : goal.returns
unfolding min_of
returns c = cc
