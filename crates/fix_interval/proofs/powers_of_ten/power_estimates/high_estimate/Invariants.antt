use Rattle.std.proofs.Common.{◌+◌, ◌*◌}
use Rattle.fix_interval.specs.Roots.{one_factor, product, times_high}
use Rattle.fix_interval.specs.Ten.{ten_factor_high}
use Rattle.fix_interval.proofs.ExactProducts.{IsNear}
use Rattle.fix_interval.proofs.powers_of_ten.power_estimates.high_estimate.Given as goal

abbrev pub invariant-loop-block : goal.invariant-loop-block
invariant-loop-block l = IsNear (product times_high ten_factor_high one_factor l.fraction (8 + 6 * l.block)) l.product 0 (9 * l.block)
