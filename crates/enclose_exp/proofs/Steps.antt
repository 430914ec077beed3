-- One step of a decay, by the distance of its factor from 1.
use Rattle.std.proofs.Common.{◌≡◌, ℕ, suc, ◌+◌, ◌-◌, ◌*◌, ◌/◌, ◌^◌, ◌<◌, ap, arith, get_or}
use Rattle.std.proofs.lemmas.Grind.{div_ceil_times}
use Rattle.std.proofs.Math.Nat.{div-eq_of_lt-le, div-mul-le_self, lt-div-mul-add, lt_of_mul-lt-mul_right}
use Rattle.std.specs.Int.{div_ceil}
use Rattle.fix_interval.specs.Roots.{one_factor, times_low, times_high, product, digit_at}
use Rattle.fix_interval.specs.ExpNeg.{decay_factor_low, decay_factor_high}
use Rattle.fix_interval.proofs.Ceilings.{div_ceil-is}
use Rattle.fix_interval.proofs.DigitSteps.{step-is}
use Rattle.enclose_exp.specs.declared.tables.TheConstants.{LOSSES_LOW, LOSSES_HIGH}
use Rattle.enclose_exp.proofs.TableLemmas.{decay_low-loss, decay_high-loss}

-- ---- a factor below 1: sixteen of it and its loss are 2^64

pub times_low-shrunk : (p b g : ℕ) → 16 * b + g ≡ 2 ^ 64 → times_low p b ≡ p - div_ceil (p * g) (2 ^ 64)
times_low-shrunk p b g e =
    let scaled : p * (16 * b + g) ≡ p * 2 ^ 64 = ap (λ (n : ℕ). p * n) e in
    let bounds = div_ceil_times (p * g) (2 ^ 64) (omega arith) in
    let most : div_ceil (p * g) (2 ^ 64) < p + 1 = lt_of_mul-lt-mul_right (2 ^ 64) (omega (arith, scaled, bounds.1)) in
    div-eq_of_lt-le {k = p - div_ceil (p * g) (2 ^ 64)} one_factor {m = p * b}
    (omega (arith, scaled, bounds.0, most)) (omega (arith, scaled, bounds.1, most))

pub times_high-shrunk : (p b g : ℕ) → 16 * b + g ≡ 2 ^ 64 → times_high p b ≡ p - p * g / 2 ^ 64
times_high-shrunk p b g e =
    let scaled : p * (16 * b + g) ≡ p * 2 ^ 64 = ap (λ (n : ℕ). p * n) e in
    let below = div-mul-le_self (p * g) (2 ^ 64) in
    let above = lt-div-mul-add {a = p * g} {b = 2 ^ 64} (omega arith) in
    let most : p * g / 2 ^ 64 < p + 1 = lt_of_mul-lt-mul_right (2 ^ 64) (omega (arith, scaled, below)) in
    div_ceil-is (p * b) one_factor (p - p * g / 2 ^ 64) (omega arith)
    (omega (arith, scaled, above, most)) (omega (arith, scaled, below, most))

-- ---- one more place

pub decay_low-step : (start fraction place p t : ℕ) → place < 32 → p ≡ product times_low decay_factor_low start fraction place →
    t ≡ get_or LOSSES_LOW place 0 * digit_at fraction place → p - div_ceil (p * t) (2 ^ 64) ≡ product times_low decay_factor_low start fraction (suc place)
decay_low-step start fraction place p t within before made =
    step-is times_low (λ p t. p - div_ceil (p * t) (2 ^ 64)) decay_factor_low start fraction place p (get_or LOSSES_LOW place 0) t
    (nothing-up p) (times_low-shrunk p (decay_factor_low place) (get_or LOSSES_LOW place 0) (decay_low-loss place within)) before made
  where
    nothing-up : (p : ℕ) → p - div_ceil (p * 0) (2 ^ 64) ≡ p
    nothing-up p = omega (arith, div_ceil-is (p * 0) (2 ^ 64) 0 (omega arith) (omega arith) (omega arith))

pub decay_high-step : (start fraction place p t : ℕ) → place < 32 → p ≡ product times_high decay_factor_high start fraction place →
    t ≡ get_or LOSSES_HIGH place 0 * digit_at fraction place → p - p * t / 2 ^ 64 ≡ product times_high decay_factor_high start fraction (suc place)
decay_high-step start fraction place p t within before made =
    step-is times_high (λ p t. p - p * t / 2 ^ 64) decay_factor_high start fraction place p (get_or LOSSES_HIGH place 0) t
    (omega arith) (times_high-shrunk p (decay_factor_high place) (get_or LOSSES_HIGH place 0) (decay_high-loss place within)) before made
