use Rattle.std.proofs.Common.{◌+◌, ◌*◌, ◌≤◌}
use Rattle.fix_interval.specs.Roots.{one_factor, product, times_low}
use Rattle.fix_interval.specs.Ten.{ten_factor_low}
use Rattle.fix_interval.proofs.ExactProducts.{IsNear}
use Rattle.fix_interval.proofs.powers_of_ten.power_estimates.low_estimate.Given as goal

abbrev pub invariant-loop-block : goal.invariant-loop-block
invariant-loop-block l = record {
  near : IsNear (product times_low ten_factor_low one_factor l.fraction (8 + 6 * l.block)) l.product (7 * l.block) (3 * l.block);
  large : 28 ≤ l.product;
}
