use Rattle.std.proofs.Common.{◌≡◌, ℕ, ◌*◌, ◌/◌, ◌%◌, ◌^◌, ◌<◌, ◌≤◌, get_or, subst, ap, refl, arith, add-one}
use Rattle.fix_interval.specs.Roots.{product, times_low, times_high}
use Rattle.fix_interval.specs.ExpNeg.{decay_factor_low, decay_factor_high, decay_low, decay_high}
use Rattle.enclose_exp.specs.declared.tables.TheConstants.{WHOLE_LOW, WHOLE_HIGH}
use Rattle.enclose_exp.specs.declared.losses.TheConstants.{EIGHT_LOSSES, SIX_LOSSES}
use Rattle.enclose_exp.proofs.DecayLaw.{low-made, high-made}
use Rattle.enclose_exp.proofs.DecayTables.{IsDecay, first-decay, next-decay, whole-near, whole-small}
use Rattle.fix_interval.proofs.ExactProducts.{IsNear}
use Rattle.enclose_exp.proofs.estimates.decay_estimate.Goals as goal

pub loop-block-init : goal.loop-block-init
loop-block-init c =
    let place : c.args.exponent / 2 ^ 32 < 24 = omega arith in
    let near = whole-near (c.args.exponent / 2 ^ 32) place in
    let first = first-decay (get_or WHOLE_LOW (c.args.exponent / 2 ^ 32) 0) (get_or WHOLE_HIGH (c.args.exponent / 2 ^ 32) 0) (c.args.exponent % 2 ^ 32)
    (get_or EIGHT_LOSSES (c.args.exponent % 2 ^ 32 / 2 ^ 24) 0) (omega arith) (whole-small (c.args.exponent / 2 ^ 32) place) near.0 near.1 refl in
    rw c.shrunk_down-product.ensures first

pub loop-block-preserved : goal.loop-block-preserved
loop-block-preserved c =
    rw (add-one, c.shrunk_down-product-in-loop-block.ensures)
    (next-decay (get_or WHOLE_LOW (c.args.exponent / 2 ^ 32) 0) (get_or WHOLE_HIGH (c.args.exponent / 2 ^ 32) 0) (c.args.exponent % 2 ^ 32) c.loop-block.block c.loop-block.product
    (get_or SIX_LOSSES c.six_digits.result 0) c.loop-block-test.true (ap (λ i. get_or SIX_LOSSES i 0) c.six_digits.ensures.value) c.loop-block.invariant)

-- the estimate after all digits
record IsWhole (exponent q : ℕ) : Type 0 where
  low : IsNear (decay_low exponent) q 32 10
  high : IsNear (decay_high exponent) q 0 104
  small : q ≤ 2 ^ 60

whole : (exponent block q : ℕ) → exponent ≤ 23 * 2 ^ 32 → block ≡ 4 →
    IsDecay (get_or WHOLE_LOW (exponent / 2 ^ 32) 0) (get_or WHOLE_HIGH (exponent / 2 ^ 32) 0) (exponent % 2 ^ 32) block q → IsWhole exponent q
whole exponent block q within count near =
    let P : ℕ → Type 0 = λ b. IsDecay (get_or WHOLE_LOW (exponent / 2 ^ 32) 0) (get_or WHOLE_HIGH (exponent / 2 ^ 32) 0) (exponent % 2 ^ 32) b q in
    let last = subst P count near in
    let L : ℕ → Type 0 = λ p. IsNear p q 32 10 in
    let H : ℕ → Type 0 = λ p. IsNear p q 0 104 in
    record {
      low = subst L (low-made exponent (product times_low decay_factor_low (get_or WHOLE_LOW (exponent / 2 ^ 32) 0) (exponent % 2 ^ 32) 32) within refl) last.low;
      high = subst H (high-made exponent (product times_high decay_factor_high (get_or WHOLE_HIGH (exponent / 2 ^ 32) 0) (exponent % 2 ^ 32) 32) within refl) last.high;
      small = last.small;
    }

pub returns : goal.returns
returns c =
    let near = whole c.args.exponent c.loop-block.block c.loop-block.product c.requires (omega arith) c.loop-block.invariant in
    record { low_least = near.low.least; low_most = omega (arith, near.low.most); high_least = omega (arith, near.high.least); high_most = near.high.most; room = near.small }
