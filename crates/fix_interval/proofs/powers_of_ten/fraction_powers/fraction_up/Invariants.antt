use Rattle.std.proofs.Common.{◌≡◌, ◌+◌, ◌*◌}
use Rattle.fix_interval.specs.Roots.{one_factor, product, times_high}
use Rattle.fix_interval.specs.Ten.{ten_factor_high}
use Rattle.fix_interval.proofs.powers_of_ten.fraction_powers.fraction_up.Given as goal

abbrev pub invariant-loop-block : goal.invariant-loop-block
invariant-loop-block l = l.product ≡ product times_high ten_factor_high one_factor l.fraction (8 + 6 * l.block)

abbrev pub invariant-loop-digit : goal.invariant-loop-digit
invariant-loop-digit l = l.product ≡ product times_high ten_factor_high one_factor l.fraction (8 + (6 * l.block + l.digit))
