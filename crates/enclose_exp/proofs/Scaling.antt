-- Scaling a factor by a power of ten, rounded down and rounded up.
use Rattle.std.proofs.Common.{◌≡◌, ℕ, ◌+◌, ◌-◌, ◌*◌, ◌/◌, ◌^◌, ◌<◌, ◌≤◌, sym, ap, ◌∙◌, arith}
use Rattle.std.proofs.Math.Nat.{div-div-eq-div-mul, mul-div-mul_left, mul-div-mul_right, one-le-pow}
use Rattle.std.proofs.lemmas.Nat.{pow-add}
use Rattle.std.specs.Int.{div_ceil}
use Rattle.fix_interval.proofs.Ceilings.{div_ceil-scaled, div_ceil-nested}

-- below the power 20, t is what is divided by
pub scaled_low-below : (p k t : ℕ) → k < 20 → t ≡ 10 ^ (20 - k) → p / 2 ^ 28 / t ≡ p * 10 ^ k / (10 ^ 20 * 2 ^ 28)
scaled_low-below p k t below e =
    let above : 0 < 10 ^ k = one-le-pow k 10 (omega arith) in
    let shift : 20 ≡ (20 - k) + k = omega arith in
    let power : 10 ^ 20 ≡ t * 10 ^ k = ap (λ i. 10 ^ i) shift ∙ pow-add 10 (20 - k) k ∙ ap (λ x. x * 10 ^ k) (sym e) in
    let whole : 10 ^ 20 * 2 ^ 28 ≡ 2 ^ 28 * t * 10 ^ k = omega (arith, power) in
    div-div-eq-div-mul p (2 ^ 28) t ∙ sym (mul-div-mul_right {m = 10 ^ k} p (2 ^ 28 * t) above) ∙ ap (λ d. p * 10 ^ k / d) (sym whole)

pub scaled_high-below : (p k t : ℕ) → k < 20 → t ≡ 10 ^ (20 - k) → div_ceil (div_ceil p (2 ^ 28)) t ≡ div_ceil (p * 10 ^ k) (10 ^ 20 * 2 ^ 28)
scaled_high-below p k t below e =
    let above : 0 < 10 ^ k = one-le-pow k 10 (omega arith) in
    let divisor : 0 < t = rw e (one-le-pow (20 - k) 10 (omega arith)) in
    let shift : 20 ≡ (20 - k) + k = omega arith in
    let power : 10 ^ 20 ≡ t * 10 ^ k = ap (λ i. 10 ^ i) shift ∙ pow-add 10 (20 - k) k ∙ ap (λ x. x * 10 ^ k) (sym e) in
    let whole : 10 ^ 20 * 2 ^ 28 ≡ 10 ^ k * (2 ^ 28 * t) = omega (arith, power) in
    let numerator : p * 10 ^ k ≡ 10 ^ k * p = omega arith in
    let some : 0 < 2 ^ 28 * t = omega (arith, divisor) in
    div_ceil-nested p (2 ^ 28) t (omega arith) divisor ∙ sym (div_ceil-scaled (10 ^ k) p (2 ^ 28 * t) above some)
    ∙ ap (λ n. div_ceil n (10 ^ k * (2 ^ 28 * t))) (sym numerator) ∙ ap (λ d. div_ceil (p * 10 ^ k) d) (sym whole)

-- from the power 20 on, t is what is multiplied by
pub scaled_low-above : (p k t : ℕ) → 20 ≤ k → t ≡ 10 ^ (k - 20) → p * t / 2 ^ 28 ≡ p * 10 ^ k / (10 ^ 20 * 2 ^ 28)
scaled_low-above p k t from e =
    let shift : k ≡ 20 + (k - 20) = omega arith in
    let power : 10 ^ k ≡ 10 ^ 20 * t = ap (λ i. 10 ^ i) shift ∙ pow-add 10 20 (k - 20) ∙ ap (λ x. 10 ^ 20 * x) (sym e) in
    let whole : p * 10 ^ k ≡ 10 ^ 20 * (p * t) = (let f = ap (λ x. p * x) power in omega (arith, f)) in
    sym (mul-div-mul_left {m = 10 ^ 20} (p * t) (2 ^ 28) (omega arith)) ∙ ap (λ n. n / (10 ^ 20 * 2 ^ 28)) (sym whole)

pub scaled_high-above : (p k t : ℕ) → 20 ≤ k → t ≡ 10 ^ (k - 20) → div_ceil (p * t) (2 ^ 28) ≡ div_ceil (p * 10 ^ k) (10 ^ 20 * 2 ^ 28)
scaled_high-above p k t from e =
    let shift : k ≡ 20 + (k - 20) = omega arith in
    let power : 10 ^ k ≡ 10 ^ 20 * t = ap (λ i. 10 ^ i) shift ∙ pow-add 10 20 (k - 20) ∙ ap (λ x. 10 ^ 20 * x) (sym e) in
    let whole : p * 10 ^ k ≡ 10 ^ 20 * (p * t) = (let f = ap (λ x. p * x) power in omega (arith, f)) in
    sym (div_ceil-scaled (10 ^ 20) (p * t) (2 ^ 28) (omega arith) (omega arith)) ∙ ap (λ n. div_ceil n (10 ^ 20 * 2 ^ 28)) (sym whole)
