use Rattle.std.proofs.Common.{◌≡◌, ◌-◌, ◌*◌, ◌/◌, ◌%◌, ◌^◌, ◌∙◌, ap, arith}
use Rattle.std.specs.Int.{div_ceil}
use Rattle.std.proofs.lemmas.Nat.{mul-le}
use Rattle.fix_interval.specs.Units.{unit-is}
use Rattle.fix_interval.specs.Ten.{fraction_high}
use Rattle.enclose_exp.proofs.Scaling.{scaled_high-below, scaled_high-above}
use Rattle.fix_interval.proofs.TenTables.{fraction_high-small}
use Rattle.enclose_exp.proofs.power.power_up.Goals as goal

pub returns-then-whole-lt20-clause-value : goal.returns-then-whole-lt20-clause-value
returns-then-whole-lt20-clause-value c =
    let whole = c.args.exponent / 2 ^ 32 in
    let p = fraction_high (c.args.exponent % 2 ^ 32) in
    let t = c.small_power_of_ten.result in
    let once : p * 1 ≡ p = omega arith in
    rw unit-is
    (c.from.ensures ∙ c.div_ceil.ensures ∙ ap (λ n. div_ceil n t) (c.scaled_up.ensures ∙ ap (λ n. div_ceil n (2 ^ 28)) once)
    ∙ scaled_high-below p whole t c.if-whole-lt20.true c.small_power_of_ten.ensures.value)

pub returns-then-whole-lt-FROM_DIGITS-clause-value : goal.returns-then-whole-lt-FROM_DIGITS-clause-value
returns-then-whole-lt-FROM_DIGITS-clause-value c =
    let whole = c.args.exponent / 2 ^ 32 in
    let t = c.small_power_of_ten-then-whole-lt-FROM_DIGITS in
    rw unit-is
    (c.scaled_up-then-whole-lt-FROM_DIGITS.ensures ∙ scaled_high-above (fraction_high (c.args.exponent % 2 ^ 32)) whole t.result c.if-whole-lt20.false t.ensures.value)

pub returns-else-whole-lt-FROM_DIGITS-clause-value : goal.returns-else-whole-lt-FROM_DIGITS-clause-value
returns-else-whole-lt-FROM_DIGITS-clause-value c =
    let whole = c.args.exponent / 2 ^ 32 in
    let t = c.small_power_of_ten-else-whole-lt-FROM_DIGITS in
    rw unit-is
    (c.units_up.ensures ∙ ap (λ p. div_ceil (p * t.result) (2 ^ 28)) c.fraction_up.ensures
    ∙ scaled_high-above (fraction_high (c.args.exponent % 2 ^ 32)) whole t.result c.if-whole-lt20.false t.ensures.value)

pub overflow_cast-scaled_up : goal.overflow_cast-scaled_up
overflow_cast-scaled_up c = record { fits = omega (arith, c.scaled_up.ensures, fraction_high-small (c.args.exponent % 2 ^ 32)) }

pub returns-then-whole-lt-FROM_DIGITS-clause-bound : goal.returns-then-whole-lt-FROM_DIGITS-clause-bound
returns-then-whole-lt-FROM_DIGITS-clause-bound c =
    let p = fraction_high (c.args.exponent % 2 ^ 32) in
    let t = c.small_power_of_ten-then-whole-lt-FROM_DIGITS.result in
    let most = mul-le p t (2 ^ 64 - 1) (2 ^ 64 - 1) (omega (arith, fraction_high-small (c.args.exponent % 2 ^ 32))) (omega arith) in
    omega (arith, c.scaled_up-then-whole-lt-FROM_DIGITS.ensures, most)
