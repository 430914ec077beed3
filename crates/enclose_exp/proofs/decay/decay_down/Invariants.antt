use Rattle.std.proofs.Common.{◌≡◌, ◌/◌, ◌%◌, ◌^◌, get_or}
use Rattle.fix_interval.specs.Roots.{product, times_low}
use Rattle.fix_interval.specs.ExpNeg.{decay_factor_low}
use Rattle.enclose_exp.specs.declared.tables.TheConstants.{WHOLE_LOW}
use Rattle.enclose_exp.proofs.decay.decay_down.Given as goal

abbrev pub invariant-loop-place : goal.invariant-loop-place
invariant-loop-place l =
    l.product ≡ product times_low decay_factor_low (get_or WHOLE_LOW (l.exponent / 2 ^ 32) 0) (l.exponent % 2 ^ 32) l.place
