use Rattle.std.proofs.Common.{◌≡◌, ℕ, ◌+◌, ◌-◌, ◌*◌, ◌^◌, ◌<◌, suc, get_or, ap, ◌∙◌, arith}
use Rattle.std.specs.Int.{div_ceil}
use Rattle.fix_interval.specs.Roots.{one_factor, product, times_high, digit_at}
use Rattle.fix_interval.specs.Ten.{ten_factor_high, fraction_high}
use Rattle.fix_interval.specs.declared.powers_of_ten.growths.TheConstants.{GROWTHS_HIGH}
use Rattle.fix_interval.proofs.TenTables.{ten_high-start, ten_high-small}
use Rattle.fix_interval.proofs.DigitSteps.{ten_high-step}
use Rattle.fix_interval.proofs.powers_of_ten.fraction_powers.fraction_up.Goals as goal

pub loop-block-init : goal.loop-block-init
loop-block-init c = ten_high-start c.args.fraction (omega arith)

-- one more digit, where the table begins at the place 8
next : (fraction place p t : ℕ) → place < 24 → p ≡ product times_high ten_factor_high one_factor fraction (8 + place) →
    t ≡ get_or GROWTHS_HIGH place 0 * digit_at fraction (place + 8) → p + div_ceil (p * t) (2 ^ 64) ≡ product times_high ten_factor_high one_factor fraction (8 + suc place)
next fraction place p t within before made =
    let order : place + 8 ≡ 8 + place = omega arith in
    let back : place ≡ 8 + place - 8 = omega arith in
    let last : suc (8 + place) ≡ 8 + suc place = omega arith in
    ten_high-step fraction (8 + place) p t (omega arith) (omega arith) before
    (made ∙ ap (λ n. get_or GROWTHS_HIGH place 0 * digit_at fraction n) order ∙ ap (λ i. get_or GROWTHS_HIGH i 0 * digit_at fraction (8 + place)) back)
    ∙ ap (product times_high ten_factor_high one_factor fraction) last

pub grown_up-product-requires : goal.grown_up-product-requires
grown_up-product-requires c =
    let place = 6 * c.loop-block.block + c.loop-digit.digit in
    rw (next c.args.fraction place c.loop-digit.product c.taken.result (omega arith) c.loop-digit.invariant c.taken.ensures)
    (omega (arith, ten_high-small c.args.fraction (8 + suc place) (omega arith)))

pub loop-digit-preserved : goal.loop-digit-preserved
loop-digit-preserved c =
    let place = 6 * c.loop-block.block + c.loop-digit.digit in
    let more : 8 + suc place ≡ 8 + (6 * c.loop-block.block + (c.loop-digit.digit + 1)) = omega arith in
    c.grown_up-product.ensures ∙ next c.args.fraction place c.loop-digit.product c.taken.result (omega arith) c.loop-digit.invariant c.taken.ensures
    ∙ ap (product times_high ten_factor_high one_factor c.args.fraction) more

pub returns : goal.returns
unfolding fraction_high
returns c =
    let count : 8 + 6 * c.loop-block.block ≡ 32 = omega arith in
    c.loop-block.invariant ∙ ap (product times_high ten_factor_high one_factor c.args.fraction) count
