use Rattle.std.proofs.Common.{◌≡◌, ℕ, suc, ◌+◌, ◌*◌, ◌/◌, ◌^◌, ◌<◌, get_or, subst, ap, arith, add-one}
use Rattle.fix_interval.specs.Roots.{one_factor, product, times_high}
use Rattle.fix_interval.specs.Ten.{ten_factor_high, fraction_high}
use Rattle.fix_interval.specs.declared.powers_of_ten.growths.TheConstants.{SIX_GROWTHS_HIGH}
use Rattle.fix_interval.specs.declared.powers_of_ten.starts.TheConstants.{STARTS_HIGH}
use Rattle.fix_interval.proofs.TenTables.{ten_high-start, ten_high-small}
use Rattle.fix_interval.proofs.ExactProducts.{IsNear}
use Rattle.fix_interval.proofs.DigitTables.{high-near}
use Rattle.fix_interval.proofs.powers_of_ten.power_estimates.high_estimate.Goals as goal

start-near : (fraction : ℕ) → fraction < 2 ^ 32 → IsNear (product times_high ten_factor_high one_factor fraction 8) (get_or STARTS_HIGH (fraction / 2 ^ 24) 0) 0 0
start-near fraction small =
    let start = ten_high-start fraction small in
    record { least = omega (arith, start); most = omega (arith, start) }

pub loop-block-init : goal.loop-block-init
loop-block-init c = start-near c.args.fraction (omega arith)

pub grown_down-product-requires : goal.grown_down-product-requires
grown_down-product-requires c =
    let block = c.loop-block.block in
    let small : c.loop-block.product < 2 ^ 64 = omega (arith, c.loop-block.invariant.least, ten_high-small c.args.fraction (8 + 6 * block) (omega arith)) in
    let near = high-near c.args.fraction block c.loop-block.product (get_or SIX_GROWTHS_HIGH c.six_digits.result 0) c.loop-block-test.true small
    (ap (λ i. get_or SIX_GROWTHS_HIGH i 0) c.six_digits.ensures.value) c.loop-block.invariant in
    omega (arith, near.least, ten_high-small c.args.fraction (8 + 6 * suc block) (omega arith), c.loop-block-test.true)

pub loop-block-preserved : goal.loop-block-preserved
loop-block-preserved c =
    let block = c.loop-block.block in
    let small : c.loop-block.product < 2 ^ 64 = omega (arith, c.loop-block.invariant.least, ten_high-small c.args.fraction (8 + 6 * block) (omega arith)) in
    let near = high-near c.args.fraction block c.loop-block.product (get_or SIX_GROWTHS_HIGH c.six_digits.result 0) c.loop-block-test.true small
    (ap (λ i. get_or SIX_GROWTHS_HIGH i 0) c.six_digits.ensures.value) c.loop-block.invariant in
    rw (add-one, c.grown_down-product.ensures) near

-- the estimate after all digits
whole : (fraction block q : ℕ) → block ≡ 4 → IsNear (product times_high ten_factor_high one_factor fraction (8 + 6 * block)) q 0 (9 * block) →
    IsNear (fraction_high fraction) q 0 36
unfolding fraction_high
whole fraction block q count near =
    let P : ℕ → Type 0 = λ b. IsNear (product times_high ten_factor_high one_factor fraction (8 + 6 * b)) q 0 (9 * b) in
    subst P count near

pub returns-clause-least : goal.returns-clause-least
returns-clause-least c =
    let near = whole c.args.fraction c.loop-block.block c.loop-block.product (omega arith) c.loop-block.invariant in
    omega (arith, near.least)

pub returns-clause-most : goal.returns-clause-most
returns-clause-most c =
    let near = whole c.args.fraction c.loop-block.block c.loop-block.product (omega arith) c.loop-block.invariant in
    omega (arith, near.most)

pub returns-clause-room : goal.returns-clause-room
unfolding fraction_high
returns-clause-room c =
    let near = whole c.args.fraction c.loop-block.block c.loop-block.product (omega arith) c.loop-block.invariant in
    omega (arith, near.least, ten_high-small c.args.fraction 32 (omega arith))
