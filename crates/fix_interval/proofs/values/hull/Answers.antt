use Rattle.fix_interval.proofs.Intervals.{IsInterval-hull_of}
use Rattle.fix_interval.specs.Values.{hull_of}
use Rattle.fix_interval.proofs.values.hull.Goals as goal

pub of_ends-requires : goal.of_ends-requires
unfolding hull_of
of_ends-requires c =
    rw (c.lesser_of_lows.ensures, c.greater_of_highs.ensures, c.low.ensures.end, c.low-2.ensures.end, c.high.ensures.end, c.high-2.ensures.end)
    (IsInterval-hull_of c.args.a c.args.b c.low.ensures.interval c.low-2.ensures.interval)

pub returns : goal.returns
unfolding hull_of
returns c = cc
