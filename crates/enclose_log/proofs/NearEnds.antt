-- How near the ends of a logarithm are to it, by powers of ten whose exponents count from the decade -10. So the enclosure of
-- the logarithm of a length is narrow.
use Rattle.std.proofs.Common.{◌≡◌, ℕ, ◌+◌, ◌-◌, ◌*◌, ◌^◌, ◌<◌, ◌≤◌, refl, sym, ap, ◌∙◌, arith, add_assoc, pos, ◌+ℤ◌, ◌-ℤ◌, lit≤}
use Rattle.std.proofs.lemmas.Int.{ints}
use Rattle.std.proofs.lemmas.Nat.{pow-add, mul-pow}
use Rattle.std.proofs.lemmas.Grind.{div_ceil_times}
use Rattle.std.proofs.Math.Nat.{one-le-pow, pow-le-pow_left, mul-le-mul_left, mul-le-mul_right, le_of_mul-le-mul_right, lt-div-mul-add}
use Rattle.fix_interval.specs.Units.{unit, unit-is}
use Rattle.fix_interval.specs.Lg.{decade_of, mantissa_low, mantissa_high, one_mantissa, digits_low, digits_high, rounded_up, lg_low, lg_high, IsAtMostLg, IsAtLeastLg, turn_low, turn_high, turns}
use Rattle.fix_interval.proofs.Powers.{pow-mul}
use Rattle.fix_interval.proofs.Shifted.{at_most-shifted, at_least-shifted}
use Rattle.enclose_log.proofs.DecadeLemmas.{mantissa_low-within, mantissa_high-within}
use Rattle.enclose_log.proofs.Nearness.{low-near, high-near}
use Rattle.enclose_log.proofs.Value.{decade_of-holds, lifted, exponents}

-- the exponents of the ends in units of 2^-32
abbrev pub low_exponent : ℕ → ℕ
low_exponent n = decade_of n * unit + (digits_low (mantissa_low n)).digits

abbrev pub high_exponent : ℕ → ℕ
high_exponent n = decade_of n * unit + rounded_up (digits_high (mantissa_high n))

pub lg_low-exponent : (n : ℕ) → lg_low n ≡ pos (low_exponent n) -ℤ pos (10 * unit)
unfolding lg_low
lg_low-exponent n = refl

pub lg_high-exponent : (n : ℕ) → lg_high n ≡ pos (high_exponent n) -ℤ pos (10 * unit)
unfolding lg_high
lg_high-exponent n = refl

few_turns : unit ≤ 2 ^ 32
few_turns = rw unit-is (omega arith)

in_decade : (k : ℕ) → (10 ^ k * unit) ^ unit ≡ 10 ^ (k * unit) * unit ^ unit
in_decade k = mul-pow (10 ^ k) unit unit ∙ ap (λ y. y * unit ^ unit) (sym (pow-mul 10 k unit))

-- two units more than the low end are not below the logarithm
pub low-lifted-near : (n : ℕ) → 0 < n → n < 2 ^ 126 → 10 ^ (10 * unit) * n ^ unit ≤ 10 ^ (low_exponent n + 2) * unit ^ unit
unfolding digits_low
low-lifted-near n positive small =
    let k = decade_of n in
    let m = mantissa_low n in
    let d = decade_of-holds n positive small in
    let range = mantissa_low-within n k d in
    let f : ℕ = (turns turn_low 32 (record { mantissa = m; digits = 0 })).digits in
    let parts : 10 ^ 10 * n * 2 ^ 26 < m * 10 ^ k + 10 ^ k = lt-div-mul-add {a = 10 ^ 10 * n * 2 ^ 26} {b = 10 ^ k} (one-le-pow k 10 (omega arith)) in
    let start : 10 ^ 10 * n * (one_mantissa - 1) ≤ 10 ^ k * unit * m = low-start (10 ^ k) m (10 ^ 10 * n) parts d.reached in
    let near = low-near (10 ^ k * unit) (10 ^ 10 * n) m 32 unit unit-is few_turns range.0 range.1 start in
    let power : 10 ^ (k * unit + f + 2) ≡ 10 ^ (k * unit) * 10 ^ (f + 2) = ap (λ i. 10 ^ i) (add_assoc (k * unit) f 2) ∙ pow-add 10 (k * unit) (f + 2) in
    rw (← lifted n, power) (omega (arith, rw (in_decade k) at near))
  where
    low-start : (p m x : ℕ) → x * 2 ^ 26 < m * p + p → p * 2 ^ 32 ≤ x → x * (one_mantissa - 1) ≤ p * unit * m
    low-start p m x h reached = rw unit-is (omega (arith, h, reached))

-- and two less than the high end not above it
pub high-lifted-near : (n : ℕ) → 0 < n → n < 2 ^ 126 → 10 ^ high_exponent n * unit ^ unit ≤ 100 * (10 ^ (10 * unit) * n ^ unit)
unfolding digits_high
high-lifted-near n positive small =
    let k = decade_of n in
    let m = mantissa_high n in
    let d = decade_of-holds n positive small in
    let range = mantissa_high-within n k d in
    let f : ℕ = rounded_up (turns turn_high 32 (record { mantissa = m; digits = 0 })) in
    let parts = (div_ceil_times (10 ^ 10 * n * 2 ^ 26) (10 ^ k) (one-le-pow k 10 (omega arith))).1 in
    let start : 10 ^ k * unit * m ≤ 10 ^ 10 * n * (one_mantissa + 1) = high-start (10 ^ k) m (10 ^ 10 * n) parts d.reached in
    let near = high-near (10 ^ k * unit) (10 ^ 10 * n) m 32 unit unit-is few_turns range.0 range.1 start in
    rw (← lifted n, pow-add 10 (k * unit) f) (omega (arith, rw (in_decade k) at near))
  where
    high-start : (p m x : ℕ) → m * p < x * 2 ^ 26 + p → p * 2 ^ 32 ≤ x → p * unit * m ≤ x * (one_mantissa + 1)
    high-start p m x h reached = rw unit-is (omega (arith, h, reached))

pub lg_low-near : (n : ℕ) → 0 < n → n < 2 ^ 126 → IsAtLeastLg (lg_low n +ℤ pos 2) n
lg_low-near n positive small =
    let e : lg_low n +ℤ pos 2 ≡ pos (low_exponent n + 2) -ℤ pos (10 * unit) = rw (lg_low-exponent n) (omega (arith, ints)) in
    rw e (at_least-shifted _ _ n (low-lifted-near n positive small))

pub lg_high-near : (n : ℕ) → 0 < n → n < 2 ^ 126 → IsAtMostLg (lg_high n -ℤ pos 2) n
lg_high-near n positive small =
    let e : lg_high n -ℤ pos 2 ≡ pos (high_exponent n) -ℤ pos (10 * unit + 2) = rw (lg_high-exponent n) (omega (arith, ints)) in
    let power = pow-add 10 (10 * unit) 2 in
    rw e (at_most-shifted (high_exponent n) (10 * unit + 2) n (rw power (omega (arith, high-lifted-near n positive small))))

-- ---- two numbers that are near

-- a power of a quotient, by one with a part of its exponent
raised : (a b c p w u : ℕ) → u ≡ p * w → a ^ p ≤ c * b ^ p → a ^ u ≤ c ^ w * b ^ u
raised a b c p w u e h = rw (e, pow-mul a p w, pow-mul b p w, ← mul-pow c (b ^ p) w) (pow-le-pow_left h w)

little : 8193 ^ 1024 ≤ 10 * 8192 ^ 1024
little = lit≤ tt

-- a number that is at most one part in 8,192 greater has a logarithm that is little greater
narrow : (m n w : ℕ) → unit ≡ 1024 * w → 0 < m → m < 2 ^ 126 → 0 < n → n < 2 ^ 126 → 8192 * n ≤ 8193 * m → high_exponent n ≤ low_exponent m + (w + 4)
narrow m n w e m_positive m_small n_positive n_small near =
    let powers : (8192 * n) ^ unit ≤ (8193 * m) ^ unit = pow-le-pow_left near unit in
    let parts = rw (mul-pow 8192 n unit, mul-pow 8193 m unit) at powers in
    let few = raised 8193 8192 10 1024 w unit e little in
    let below : n ^ unit ≤ 10 ^ w * m ^ unit = cancelled (8192 ^ unit) (8193 ^ unit) (n ^ unit) (m ^ unit) (10 ^ w) (one-le-pow unit 8192 (omega arith)) parts few in
    let top = high-lifted-near n n_positive n_small in
    let bottom = low-lifted-near m m_positive m_small in
    let sum : 10 ^ (low_exponent m + (w + 4)) ≡ 10 ^ (low_exponent m + 2) * (10 ^ w * 100) = exponent (low_exponent m) w in
    exponents (high_exponent n) (low_exponent m + (w + 4)) (unit ^ unit) (one-le-pow unit unit (rw unit-is (omega arith)))
    (rw sum (chained (10 ^ high_exponent n) (10 ^ (low_exponent m + 2)) (unit ^ unit) (10 ^ (10 * unit)) (n ^ unit) (m ^ unit) (10 ^ w) top below bottom))
  where
    cancelled : (a b x y c : ℕ) → 0 < a → a * x ≤ b * y → b ≤ c * a → x ≤ c * y
    cancelled a b x y c positive h few =
        le_of_mul-le-mul_right {k = a} (omega (arith, h, mul-le-mul_right y few)) positive

    exponent : (l w : ℕ) → 10 ^ (l + (w + 4)) ≡ 10 ^ (l + 2) * (10 ^ w * 100)
    exponent l w =
        let same : l + (w + 4) ≡ (l + 2) + (w + 2) = omega arith in
        rw (same, pow-add 10 (l + 2) (w + 2), pow-add 10 w 2) refl

    chained : (h l y t x z c : ℕ) → h * y ≤ 100 * (t * x) → x ≤ c * z → t * z ≤ l * y → h * y ≤ l * (c * 100) * y
    chained h l y t x z c top below bottom = omega (arith, top, mul-le-mul_left t below, mul-le-mul_left c bottom)

pub ends-narrow : (m n : ℕ) → 0 < m → m < 2 ^ 126 → 0 < n → n < 2 ^ 126 → 8192 * n ≤ 8193 * m → 1000 * high_exponent n < 1000 * low_exponent m + unit
ends-narrow m n m_positive m_small n_positive n_small near =
    within (high_exponent n) (low_exponent m) unit unit-is (narrow m n (2 ^ 22) (rw unit-is refl) m_positive m_small n_positive n_small near)
  where
    within : (h l u : ℕ) → u ≡ 2 ^ 32 → h ≤ l + (2 ^ 22 + 4) → 1000 * h < 1000 * l + u
    within h l u e k = omega (arith, e, k)
