use Rattle.std.proofs.Common.{◌∙◌}
use Rattle.fix_interval.proofs.Intervals.{IsInterval-add_of}
use Rattle.path_calc.proofs.SmallEnds.{plus-found}
use Rattle.path_calc.proofs.energies.small_sums.plus.Goals as goal

pub of_ends-requires : goal.of_ends-requires
of_ends-requires c =
    rw (plus-found c.args.a c.args.b c.ends-low.result.0 c.ends-low.result.1 c.ends-other_low.result.0 c.ends-other_low.result.1 c.ends-low.ensures.low c.ends-low.ensures.high c.ends-other_low.ensures.low c.ends-other_low.ensures.high c.ends-low.ensures.small_low c.ends-low.ensures.small_high c.ends-other_low.ensures.small_low c.ends-other_low.ensures.small_high)
    (IsInterval-add_of c.args.a c.args.b c.ends-low.ensures.interval c.ends-other_low.ensures.interval)

pub returns : goal.returns
returns c =
    c.of_ends.ensures
    ∙ plus-found c.args.a c.args.b c.ends-low.result.0 c.ends-low.result.1 c.ends-other_low.result.0 c.ends-other_low.result.1 c.ends-low.ensures.low c.ends-low.ensures.high c.ends-other_low.ensures.low c.ends-other_low.ensures.high c.ends-low.ensures.small_low c.ends-low.ensures.small_high c.ends-other_low.ensures.small_low c.ends-other_low.ensures.small_high
