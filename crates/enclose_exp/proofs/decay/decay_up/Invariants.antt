use Rattle.std.proofs.Common.{◌≡◌, ◌/◌, ◌%◌, ◌^◌, get_or}
use Rattle.fix_interval.specs.Roots.{product, times_high}
use Rattle.fix_interval.specs.ExpNeg.{decay_factor_high}
use Rattle.enclose_exp.specs.declared.tables.TheConstants.{WHOLE_HIGH}
use Rattle.enclose_exp.proofs.decay.decay_up.Given as goal

abbrev pub invariant-loop-place : goal.invariant-loop-place
invariant-loop-place l =
    l.product ≡ product times_high decay_factor_high (get_or WHOLE_HIGH (l.exponent / 2 ^ 32) 0) (l.exponent % 2 ^ 32) l.place
