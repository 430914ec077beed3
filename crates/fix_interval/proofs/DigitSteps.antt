-- One step of a product, by the distance of its factor from 1.
use Rattle.std.proofs.Common.{◌≡◌, ℕ, suc, ◌+◌, ◌-◌, ◌*◌, ◌/◌, ◌%◌, ◌^◌, ◌<◌, ◌≤◌, inl, inr, sym, ap, ◌∙◌, arith, get_or}
use Rattle.std.proofs.lemmas.Bool.{cases_lt}
use Rattle.std.proofs.lemmas.Nat.{and_mask}
use Rattle.std.proofs.lemmas.Grind.{div_ceil_times}
use Rattle.std.proofs.Math.Nat.{div-eq_of_lt-le, div-mul-le_self, lt-div-mul-add}
use Rattle.std.specs.Int.{div_ceil}
use Rattle.std.specs.Prelude.{bit_and}
use Rattle.fix_interval.specs.Roots.{one_factor, times_low, times_high, product, digit_at}
use Rattle.fix_interval.specs.Ten.{ten_factor_low, ten_factor_high}
use Rattle.fix_interval.specs.declared.powers_of_ten.growths.TheConstants.{GROWTHS_LOW, GROWTHS_HIGH}
use Rattle.fix_interval.proofs.Ceilings.{div_ceil-is}
use Rattle.fix_interval.proofs.DigitProducts.{product-cases}
use Rattle.fix_interval.proofs.TenTables.{ten_low-growth, ten_high-growth}

-- a number masked by a digit
pub masked-is : (g d : ℕ) → d < 2 → g < 2 ^ 64 → bit_and g ((0 + (2 ^ 64 - d)) % 2 ^ 64) ≡ g * d
masked-is g d digit small =
    elim (cases_lt d 1) [
      | inl none ↦ (let zero_digit : d ≡ 0 = omega arith in rw zero_digit (and_mask g 0 ∙ omega arith))
      | inr some ↦ (let one_digit : d ≡ 1 = omega arith in rw one_digit (and_mask g 64 ∙ omega arith))
    ]

-- ---- a factor above 1: sixteen of it are 2^64 and its growth

pub times_low-grown : (p a g : ℕ) → 16 * a ≡ 2 ^ 64 + g → times_low p a ≡ p + p * g / 2 ^ 64
times_low-grown p a g e =
    let scaled : p * (16 * a) ≡ p * (2 ^ 64 + g) = ap (λ (n : ℕ). p * n) e in
    div-eq_of_lt-le {k = p + p * g / 2 ^ 64} one_factor {m = p * a}
    (omega (arith, scaled, div-mul-le_self (p * g) (2 ^ 64)))
    (omega (arith, scaled, lt-div-mul-add {a = p * g} {b = 2 ^ 64} (omega arith)))

pub times_high-grown : (p a g : ℕ) → 16 * a ≡ 2 ^ 64 + g → times_high p a ≡ p + div_ceil (p * g) (2 ^ 64)
times_high-grown p a g e =
    let scaled : p * (16 * a) ≡ p * (2 ^ 64 + g) = ap (λ (n : ℕ). p * n) e in
    let bounds = div_ceil_times (p * g) (2 ^ 64) (omega arith) in
    div_ceil-is (p * a) one_factor (p + div_ceil (p * g) (2 ^ 64)) (omega arith)
    (omega (arith, scaled, bounds.0)) (omega (arith, scaled, bounds.1))

-- ---- one more place

-- `move` multiplies by a factor that is given by its distance from 1, and by 1 where the distance is 0
pub step-is : (times move : ℕ → ℕ → ℕ) (factor : ℕ → ℕ) (start fraction place p g t : ℕ) → move p 0 ≡ p → times p (factor place) ≡ move p g →
    p ≡ product times factor start fraction place → t ≡ g * digit_at fraction place → move p t ≡ product times factor start fraction (suc place)
step-is times move factor start fraction place p g t none some before made =
    elim (product-cases times factor start fraction place) [
      | inl c ↦ (let one : t ≡ g = omega (arith, made, ap (λ (d : ℕ). g * d) c.0) in
          rw (c.1, ← before, one) (sym some))
      | inr c ↦ (let zero_digit : t ≡ 0 = omega (arith, made, ap (λ (d : ℕ). g * d) c.0) in
          rw (c.1, ← before, zero_digit) none)
    ]

pub ten_low-step : (fraction place p t : ℕ) → 8 ≤ place → place < 32 → p ≡ product times_low ten_factor_low one_factor fraction place →
    t ≡ get_or GROWTHS_LOW (place - 8) 0 * digit_at fraction place → p + p * t / 2 ^ 64 ≡ product times_low ten_factor_low one_factor fraction (suc place)
ten_low-step fraction place p t from within before made =
    step-is times_low (λ p t. p + p * t / 2 ^ 64) ten_factor_low one_factor fraction place p (get_or GROWTHS_LOW (place - 8) 0) t
    (omega arith) (times_low-grown p (ten_factor_low place) (get_or GROWTHS_LOW (place - 8) 0) (ten_low-growth place from within)) before made

pub ten_high-step : (fraction place p t : ℕ) → 8 ≤ place → place < 32 → p ≡ product times_high ten_factor_high one_factor fraction place →
    t ≡ get_or GROWTHS_HIGH (place - 8) 0 * digit_at fraction place → p + div_ceil (p * t) (2 ^ 64) ≡ product times_high ten_factor_high one_factor fraction (suc place)
ten_high-step fraction place p t from within before made =
    step-is times_high (λ p t. p + div_ceil (p * t) (2 ^ 64)) ten_factor_high one_factor fraction place p (get_or GROWTHS_HIGH (place - 8) 0) t
    (nothing-up p) (times_high-grown p (ten_factor_high place) (get_or GROWTHS_HIGH (place - 8) 0) (ten_high-growth place from within)) before made
  where
    nothing-up : (p : ℕ) → p + div_ceil (p * 0) (2 ^ 64) ≡ p
    nothing-up p = omega (arith, div_ceil-is (p * 0) (2 ^ 64) 0 (omega arith) (omega arith) (omega arith))
