use Rattle.std.proofs.Common.{◌≡◌, ◌/◌, ◌%◌, ◌^◌, ap, sym, ◌∙◌, arith, add-one, get_or}
use Rattle.fix_interval.specs.Roots.{product, times_low}
use Rattle.fix_interval.specs.ExpNeg.{decay_factor_low}
use Rattle.enclose_exp.specs.declared.tables.TheConstants.{WHOLE_LOW}
use Rattle.enclose_exp.proofs.DecayLaw.{low-made}
use Rattle.fix_interval.proofs.DigitProducts.{product-zero}
use Rattle.enclose_exp.proofs.Steps.{decay_low-step}
use Rattle.enclose_exp.proofs.decay.decay_down.Goals as goal

pub loop-place-init : goal.loop-place-init
loop-place-init c = sym (product-zero times_low decay_factor_low (get_or WHOLE_LOW (c.args.exponent / 2 ^ 32) 0) (c.args.exponent % 2 ^ 32))

pub loop-place-preserved : goal.loop-place-preserved
loop-place-preserved c =
    rw add-one (c.shrunk_down-product.ensures
    ∙ decay_low-step (get_or WHOLE_LOW (c.args.exponent / 2 ^ 32) 0) (c.args.exponent % 2 ^ 32) c.loop-place.place c.loop-place.product c.taken.result c.loop-place-test.true c.loop-place.invariant c.taken.ensures)

pub returns : goal.returns
returns c =
    let count : c.loop-place.place ≡ 32 = omega arith in
    low-made c.args.exponent c.loop-place.product c.requires
    (c.loop-place.invariant ∙ ap (product times_low decay_factor_low (get_or WHOLE_LOW (c.args.exponent / 2 ^ 32) 0) (c.args.exponent % 2 ^ 32)) count)
