use Rattle.std.proofs.Common.{◌≡◌, suc, refl, ap, arith}
use Rattle.fix_interval.specs.Ten.{fraction_low, fraction_high}
use Rattle.fix_interval.proofs.TenTables.{fraction_low-small, fraction_high-small}
use Rattle.enclose_log.proofs.TestedDigits.{low-tested, high-tested}
use Rattle.enclose_log.proofs.guess.tested_digits.Goals as goal

pub returns-then-units-low_estimate-clause-low : goal.returns-then-units-low_estimate-clause-low
returns-then-units-low_estimate-clause-low c =
    let g = c.guess-digits.result in
    let next : c.in_ok-next.next ≡ suc g = omega (arith, c.in_ok-next.ensures {u = tt}) in
    λ below. low-tested c.args.mantissa g (fraction_high g) (fraction_low c.in_ok-next.next) refl (ap fraction_low next) (omega arith) (omega (arith, fraction_high-small g))
    (omega (arith, c.high_estimate.ensures.most, c.if-high_estimate-units.true, c.requires.least)) (omega (arith, c.low_estimate.ensures.least, c.if-units-low_estimate.true)) c.requires.least below

pub returns-then-units-low_estimate-clause-high : goal.returns-then-units-low_estimate-clause-high
returns-then-units-low_estimate-clause-high c =
    let g = c.guess-digits.result in
    let next : c.in_ok-next.next ≡ suc g = omega (arith, c.in_ok-next.ensures {u = tt}) in
    high-tested c.args.mantissa g (fraction_high g) (fraction_low c.in_ok-next.next) refl (ap fraction_low next) (omega arith) (omega (arith, fraction_low-small c.in_ok-next.next))
    (omega (arith, c.high_estimate.ensures.most, c.if-high_estimate-units.true, c.requires.least)) (omega (arith, c.low_estimate.ensures.least, c.if-units-low_estimate.true)) c.requires.least c.requires.most
