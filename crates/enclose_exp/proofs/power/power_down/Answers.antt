use Rattle.std.proofs.Common.{◌≡◌, ◌-◌, ◌*◌, ◌/◌, ◌%◌, ◌^◌, ◌∙◌, ap, arith}
use Rattle.std.proofs.lemmas.Nat.{mul-le}
use Rattle.std.proofs.Math.Nat.{div-le_self}
use Rattle.fix_interval.specs.Units.{unit-is}
use Rattle.fix_interval.specs.Ten.{fraction_low}
use Rattle.enclose_exp.proofs.Scaling.{scaled_low-below, scaled_low-above}
use Rattle.fix_interval.proofs.TenTables.{fraction_low-small}
use Rattle.enclose_exp.proofs.power.power_down.Goals as goal

pub returns-then-whole-lt20-clause-value : goal.returns-then-whole-lt20-clause-value
returns-then-whole-lt20-clause-value c =
    let whole = c.args.exponent / 2 ^ 32 in
    let p = fraction_low (c.args.exponent % 2 ^ 32) in
    let t = c.small_power_of_ten.result in
    let once : p * 1 ≡ p = omega arith in
    rw unit-is
    (c.from.ensures ∙ ap (λ n. n / t) (c.scaled_down.ensures ∙ ap (λ n. n / 2 ^ 28) once)
    ∙ scaled_low-below p whole t c.if-whole-lt20.true c.small_power_of_ten.ensures.value)

pub returns-then-whole-lt-FROM_DIGITS-clause-value : goal.returns-then-whole-lt-FROM_DIGITS-clause-value
returns-then-whole-lt-FROM_DIGITS-clause-value c =
    let whole = c.args.exponent / 2 ^ 32 in
    let t = c.small_power_of_ten-then-whole-lt-FROM_DIGITS in
    rw unit-is
    (c.scaled_down-then-whole-lt-FROM_DIGITS.ensures ∙ scaled_low-above (fraction_low (c.args.exponent % 2 ^ 32)) whole t.result c.if-whole-lt20.false t.ensures.value)

pub returns-else-whole-lt-FROM_DIGITS-clause-value : goal.returns-else-whole-lt-FROM_DIGITS-clause-value
returns-else-whole-lt-FROM_DIGITS-clause-value c =
    let whole = c.args.exponent / 2 ^ 32 in
    let t = c.small_power_of_ten-else-whole-lt-FROM_DIGITS in
    rw unit-is
    (c.units_down.ensures ∙ ap (λ p. p * t.result / 2 ^ 28) c.fraction_down.ensures
    ∙ scaled_low-above (fraction_low (c.args.exponent % 2 ^ 32)) whole t.result c.if-whole-lt20.false t.ensures.value)

pub overflow_cast-scaled_down : goal.overflow_cast-scaled_down
overflow_cast-scaled_down c = record { fits = omega (arith, c.scaled_down.ensures, fraction_low-small (c.args.exponent % 2 ^ 32)) }

pub returns-then-whole-lt-FROM_DIGITS-clause-bound : goal.returns-then-whole-lt-FROM_DIGITS-clause-bound
returns-then-whole-lt-FROM_DIGITS-clause-bound c =
    let p = fraction_low (c.args.exponent % 2 ^ 32) in
    let t = c.small_power_of_ten-then-whole-lt-FROM_DIGITS.result in
    let most = mul-le p t (2 ^ 64 - 1) (2 ^ 64 - 1) (omega (arith, fraction_low-small (c.args.exponent % 2 ^ 32))) (omega arith) in
    omega (arith, c.scaled_down-then-whole-lt-FROM_DIGITS.ensures, most)

pub returns-then-whole-lt20-clause-bound : goal.returns-then-whole-lt20-clause-bound
returns-then-whole-lt20-clause-bound c =
    omega (arith, c.from.ensures, div-le_self c.scaled_down.result c.small_power_of_ten.result, c.scaled_down.ensures, fraction_low-small (c.args.exponent % 2 ^ 32))
