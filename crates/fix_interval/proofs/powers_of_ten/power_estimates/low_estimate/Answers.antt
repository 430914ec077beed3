use Rattle.std.proofs.Common.{◌≡◌, ℕ, suc, ◌+◌, ◌*◌, ◌/◌, ◌^◌, ◌<◌, get_or, subst, ap, arith, add-one}
use Rattle.fix_interval.specs.Roots.{one_factor, product, times_low}
use Rattle.fix_interval.specs.Ten.{ten_factor_low, fraction_low}
use Rattle.fix_interval.specs.declared.powers_of_ten.growths.TheConstants.{SIX_GROWTHS_LOW}
use Rattle.fix_interval.specs.declared.powers_of_ten.starts.TheConstants.{STARTS_LOW}
use Rattle.fix_interval.proofs.TenTables.{ten_low-start, ten_low-start_large, ten_low-small}
use Rattle.fix_interval.proofs.ExactProducts.{IsNear}
use Rattle.fix_interval.proofs.DigitTables.{low-near}
use Rattle.fix_interval.proofs.powers_of_ten.power_estimates.low_estimate.Goals as goal

start-near : (fraction : ℕ) → fraction < 2 ^ 32 → IsNear (product times_low ten_factor_low one_factor fraction 8) (get_or STARTS_LOW (fraction / 2 ^ 24) 0) 0 0
start-near fraction small =
    let start = ten_low-start fraction small in
    record { least = omega (arith, start); most = omega (arith, start) }

pub loop-block-init : goal.loop-block-init
loop-block-init c = record { near = start-near c.args.fraction (omega arith); large = omega (arith, ten_low-start_large c.args.fraction (omega arith)) }

pub grown_down-product-requires : goal.grown_down-product-requires
grown_down-product-requires c =
    let block = c.loop-block.block in
    let small : c.loop-block.product < 2 ^ 64 = omega (arith, c.loop-block.invariant.near.least, ten_low-small c.args.fraction (8 + 6 * block) (omega arith)) in
    let near = low-near c.args.fraction block c.loop-block.product (get_or SIX_GROWTHS_LOW c.six_digits.result 0) c.loop-block-test.true small
    (ap (λ i. get_or SIX_GROWTHS_LOW i 0) c.six_digits.ensures.value) c.loop-block.invariant.near in
    omega (arith, near.least, ten_low-small c.args.fraction (8 + 6 * suc block) (omega arith), c.loop-block-test.true)

pub loop-block-preserved : goal.loop-block-preserved
loop-block-preserved c =
    let block = c.loop-block.block in
    let small : c.loop-block.product < 2 ^ 64 = omega (arith, c.loop-block.invariant.near.least, ten_low-small c.args.fraction (8 + 6 * block) (omega arith)) in
    let near = low-near c.args.fraction block c.loop-block.product (get_or SIX_GROWTHS_LOW c.six_digits.result 0) c.loop-block-test.true small
    (ap (λ i. get_or SIX_GROWTHS_LOW i 0) c.six_digits.ensures.value) c.loop-block.invariant.near in
    rw (add-one, c.grown_down-product.ensures) (record { near = near; large = omega (arith, c.loop-block.invariant.large) })

-- the estimate after all digits
whole : (fraction block q : ℕ) → block ≡ 4 → IsNear (product times_low ten_factor_low one_factor fraction (8 + 6 * block)) q (7 * block) (3 * block) →
    IsNear (fraction_low fraction) q 28 12
unfolding fraction_low
whole fraction block q count near =
    let P : ℕ → Type 0 = λ b. IsNear (product times_low ten_factor_low one_factor fraction (8 + 6 * b)) q (7 * b) (3 * b) in
    subst P count near

pub returns-clause-least : goal.returns-clause-least
returns-clause-least c =
    let near = whole c.args.fraction c.loop-block.block c.loop-block.product (omega arith) c.loop-block.invariant.near in
    omega (arith, near.least)

pub returns-clause-most : goal.returns-clause-most
returns-clause-most c =
    let near = whole c.args.fraction c.loop-block.block c.loop-block.product (omega arith) c.loop-block.invariant.near in
    omega (arith, near.most)

pub returns-clause-room : goal.returns-clause-room
unfolding fraction_low
returns-clause-room c =
    let near = whole c.args.fraction c.loop-block.block c.loop-block.product (omega arith) c.loop-block.invariant.near in
    omega (arith, near.least, ten_low-small c.args.fraction 32 (omega arith))
