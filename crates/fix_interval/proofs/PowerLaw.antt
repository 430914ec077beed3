-- The law of products of roots: an induction over the places. No power is ever evaluated, so the number of
-- places is i and their exponent u, of which it is known only that u ≡ 2^i. The factors are roots of g / h.
use Rattle.std.proofs.Common.{◌≡◌, ℕ, zero, suc, ◌+◌, ◌-◌, ◌*◌, ◌/◌, ◌^◌, ◌<◌, ◌≤◌, inl, inr, sym, ap, ◌∙◌, subst, arith}
use Rattle.std.proofs.lemmas.Nat.{mul-le, pow-add, mul-pow}
use Rattle.std.proofs.lemmas.Grind.{div_ceil_times}
use Rattle.std.proofs.Math.Nat.{pow-suc, one-le-pow, pow-le-pow_left, mul-le-mul_right, le_of_mul-le-mul_right, div-mul-le_self, div-div-eq-div-mul, div-eq_of_lt, div-one}
use Rattle.fix_interval.specs.Roots.{one_factor, times_low, times_high, root_low, root_high, digit_at, product}
use Rattle.fix_interval.proofs.Powers.{pow-one}
use Rattle.fix_interval.proofs.DigitProducts.{product-zero, product-cases}
use Rattle.fix_interval.proofs.Rooting.{floor_root-below, ceil_root-above}

-- the power of a square root
squared : (r q : ℕ) → r ^ (q + q) ≡ (r * r) ^ q
squared r q = pow-add r q q ∙ sym (mul-pow r r q)

two_pow-suc : (i : ℕ) → 2 ^ suc i ≡ 2 ^ i + 2 ^ i
two_pow-suc i = omega (arith, pow-suc 2 i)

-- ---- roots

root_low-step : (g h p a r q : ℕ) → r * r ≤ a * p → a ^ q * h ≤ g * p ^ q → r ^ (q + q) * h ≤ g * p ^ (q + q)
root_low-step g h p a r q root before =
    let powers : (r * r) ^ q ≤ (a * p) ^ q = pow-le-pow_left root q in
    let split = mul-pow a p q in
    let sides = pow-add p q q in
    let first = mul-le-mul_right h powers in
    let second = mul-le-mul_right (p ^ q) before in
    rw (squared r q, sides) (omega (arith, first, second, ap (λ x. x * h) split))

root_high-step : (g h p a r q : ℕ) → a * p ≤ r * r → g * p ^ q ≤ a ^ q * h → g * p ^ (q + q) ≤ r ^ (q + q) * h
root_high-step g h p a r q root before =
    let powers : (a * p) ^ q ≤ (r * r) ^ q = pow-le-pow_left root q in
    let split = mul-pow a p q in
    let sides = pow-add p q q in
    let first = mul-le-mul_right h powers in
    let second = mul-le-mul_right (p ^ q) before in
    rw (squared r q, sides) (omega (arith, first, second, ap (λ x. x * h) split))

pub root_low-law : (g h factor i : ℕ) → factor * h ≤ g * one_factor → root_low factor i ^ (2 ^ i) * h ≤ g * one_factor ^ (2 ^ i)
unfolding root_low
root_low-law g h factor zero start = rw (pow-one factor) (omega (arith, start))
root_low-law g h factor (suc i) start =
    rw (two_pow-suc i)
    (root_low-step g h one_factor (root_low factor i) (root_low factor (suc i)) (2 ^ i)
    (floor_root-below (root_low factor i * one_factor)) (root_low-law g h factor i start))

pub root_high-law : (g h factor i : ℕ) → g * one_factor ≤ factor * h → g * one_factor ^ (2 ^ i) ≤ root_high factor i ^ (2 ^ i) * h
unfolding root_high
root_high-law g h factor zero start = rw (pow-one factor) (omega (arith, start))
root_high-law g h factor (suc i) start =
    rw (two_pow-suc i)
    (root_high-step g h one_factor (root_high factor i) (root_high factor (suc i)) (2 ^ i)
    (ceil_root-above (root_high factor i * one_factor)) (root_high-law g h factor i start))

-- ---- products

-- a place whose digit is 0 squares both sides
zero-low : (g h p x q e : ℕ) → x ^ q * h ^ e ≤ g ^ e * p ^ q → x ^ (q + q) * h ^ (e + e) ≤ g ^ (e + e) * p ^ (q + q)
zero-low g h p x q e before =
    let sides = mul-le (x ^ q * h ^ e) (x ^ q * h ^ e) (g ^ e * p ^ q) (g ^ e * p ^ q) before before in
    rw (pow-add x q q, pow-add h e e, pow-add g e e, pow-add p q q) (omega (arith, sides))

-- one whose digit is 1 also multiplies by its root a
one-low : (g h p x a y q e : ℕ) → 0 < p → y * p ≤ x * a → a ^ (q + q) * h ≤ g * p ^ (q + q) → x ^ q * h ^ e ≤ g ^ e * p ^ q →
    y ^ (q + q) * h ^ suc (e + e) ≤ g ^ suc (e + e) * p ^ (q + q)
one-low g h p x a y q e positive times root before =
    let twice = zero-low g h p x q e before in
    let powers : (y * p) ^ (q + q) ≤ (x * a) ^ (q + q) = pow-le-pow_left times (q + q) in
    let left = mul-pow y p (q + q) in
    let right = mul-pow x a (q + q) in
    let known : y ^ (q + q) * p ^ (q + q) ≤ x ^ (q + q) * a ^ (q + q) = rw (← left, ← right) powers in
    let scaled = mul-le-mul_right (h ^ (e + e) * h) known in
    let both = mul-le (x ^ (q + q) * h ^ (e + e)) (a ^ (q + q) * h) (g ^ (e + e) * p ^ (q + q)) (g * p ^ (q + q)) twice root in
    rw (pow-suc h (e + e), pow-suc g (e + e))
    (le_of_mul-le-mul_right {k = p ^ (q + q)} (omega (arith, scaled, both)) (one-le-pow (q + q) p positive))

zero-high : (g h p x q e : ℕ) → g ^ e * p ^ q ≤ x ^ q * h ^ e → g ^ (e + e) * p ^ (q + q) ≤ x ^ (q + q) * h ^ (e + e)
zero-high g h p x q e before =
    let sides = mul-le (g ^ e * p ^ q) (g ^ e * p ^ q) (x ^ q * h ^ e) (x ^ q * h ^ e) before before in
    rw (pow-add x q q, pow-add h e e, pow-add g e e, pow-add p q q) (omega (arith, sides))

one-high : (g h p x a y q e : ℕ) → 0 < p → x * a ≤ y * p → g * p ^ (q + q) ≤ a ^ (q + q) * h → g ^ e * p ^ q ≤ x ^ q * h ^ e →
    g ^ suc (e + e) * p ^ (q + q) ≤ y ^ (q + q) * h ^ suc (e + e)
one-high g h p x a y q e positive times root before =
    let twice = zero-high g h p x q e before in
    let powers : (x * a) ^ (q + q) ≤ (y * p) ^ (q + q) = pow-le-pow_left times (q + q) in
    let left = mul-pow y p (q + q) in
    let right = mul-pow x a (q + q) in
    let known : x ^ (q + q) * a ^ (q + q) ≤ y ^ (q + q) * p ^ (q + q) = rw (← left, ← right) powers in
    let scaled = mul-le-mul_right (h ^ (e + e) * h) known in
    let both = mul-le (g ^ (e + e) * p ^ (q + q)) (g * p ^ (q + q)) (x ^ (q + q) * h ^ (e + e)) (a ^ (q + q) * h) twice root in
    rw (pow-suc h (e + e), pow-suc g (e + e))
    (le_of_mul-le-mul_right {k = p ^ (q + q)} (omega (arith, scaled, both)) (one-le-pow (q + q) p positive))

-- the exponent that the first i places have: the whole part k and those digits
abbrev pub exponent_at : ℕ → ℕ → ℕ → ℕ
exponent_at k fraction i = k * 2 ^ i + fraction / 2 ^ (32 - i)

exponent-next : (k fraction i d : ℕ) → i < 32 → digit_at fraction i ≡ d → exponent_at k fraction (suc i) ≡ exponent_at k fraction i + exponent_at k fraction i + d
exponent-next k fraction i d within digit =
    let places : 32 - i ≡ suc (31 - i) = omega arith in
    let left : 32 - suc i ≡ 31 - i = omega arith in
    let x = fraction / 2 ^ (31 - i) in
    let power : 2 ^ (32 - i) ≡ 2 ^ (31 - i) * 2 = ap (λ j. 2 ^ j) places ∙ pow-suc 2 (31 - i) in
    let half : fraction / 2 ^ (32 - i) ≡ x / 2 = ap (λ y. fraction / y) power ∙ sym (div-div-eq-div-mul fraction (2 ^ (31 - i)) 2) in
    let next : fraction / 2 ^ (32 - suc i) ≡ x = ap (λ j. fraction / 2 ^ j) left in
    let twice = two_pow-suc i in
    let whole : k * 2 ^ suc i ≡ k * 2 ^ i + k * 2 ^ i = ap (λ y. k * y) twice ∙ omega arith in
    omega (arith, half, next, whole, digit)

pub product_low-law : (g h : ℕ) (factor : ℕ → ℕ) (k start fraction i : ℕ) → i ≤ 32 → fraction < 2 ^ 32 →
    ((j : ℕ) → factor j ^ (2 ^ suc j) * h ≤ g * one_factor ^ (2 ^ suc j)) → start * h ^ k ≤ g ^ k * one_factor →
    product times_low factor start fraction i ^ (2 ^ i) * h ^ exponent_at k fraction i ≤ g ^ exponent_at k fraction i * one_factor ^ (2 ^ i)
product_low-law g h factor k start fraction zero within small roots begin =
    let none : fraction / 2 ^ 32 ≡ 0 = div-eq_of_lt small in
    let e : exponent_at k fraction 0 ≡ k = omega (arith, none) in
    rw (product-zero times_low factor start fraction, e, pow-one start) (omega (arith, begin))
product_low-law g h factor k start fraction (suc i) within small roots begin =
    let before = product_low-law g h factor k start fraction i (omega arith) small roots begin in
    let p = product times_low factor start fraction i in
    let e = exponent_at k fraction i in
    elim (product-cases times_low factor start fraction i) [
      | inl c ↦ (let next : exponent_at k fraction (suc i) ≡ suc (e + e) = omega (arith, exponent-next k fraction i 1 (omega arith) c.0) in
          rw (c.1, next, two_pow-suc i)
          (one-low g h one_factor p (factor i) (times_low p (factor i)) (2 ^ i) e (omega arith) (div-mul-le_self (p * factor i) one_factor)
          (let root = roots i in rw (two_pow-suc i) at root) before))
      | inr c ↦ (let next : exponent_at k fraction (suc i) ≡ e + e = omega (arith, exponent-next k fraction i 0 (omega arith) c.0) in
          rw (c.1, next, two_pow-suc i) (zero-low g h one_factor p (2 ^ i) e before))
    ]

pub product_high-law : (g h : ℕ) (factor : ℕ → ℕ) (k start fraction i : ℕ) → i ≤ 32 → fraction < 2 ^ 32 →
    ((j : ℕ) → g * one_factor ^ (2 ^ suc j) ≤ factor j ^ (2 ^ suc j) * h) → g ^ k * one_factor ≤ start * h ^ k →
    g ^ exponent_at k fraction i * one_factor ^ (2 ^ i) ≤ product times_high factor start fraction i ^ (2 ^ i) * h ^ exponent_at k fraction i
product_high-law g h factor k start fraction zero within small roots begin =
    let none : fraction / 2 ^ 32 ≡ 0 = div-eq_of_lt small in
    let e : exponent_at k fraction 0 ≡ k = omega (arith, none) in
    rw (product-zero times_high factor start fraction, e, pow-one start) (omega (arith, begin))
product_high-law g h factor k start fraction (suc i) within small roots begin =
    let before = product_high-law g h factor k start fraction i (omega arith) small roots begin in
    let p = product times_high factor start fraction i in
    let e = exponent_at k fraction i in
    elim (product-cases times_high factor start fraction i) [
      | inl c ↦ (let next : exponent_at k fraction (suc i) ≡ suc (e + e) = omega (arith, exponent-next k fraction i 1 (omega arith) c.0) in
          rw (c.1, next, two_pow-suc i)
          (one-high g h one_factor p (factor i) (times_high p (factor i)) (2 ^ i) e (omega arith) (div_ceil_times (p * factor i) one_factor (omega arith)).0
          (let root = roots i in rw (two_pow-suc i) at root) before))
      | inr c ↦ (let next : exponent_at k fraction (suc i) ≡ e + e = omega (arith, exponent-next k fraction i 0 (omega arith) c.0) in
          rw (c.1, next, two_pow-suc i) (zero-high g h one_factor p (2 ^ i) e before))
    ]

-- all places at once, with the exponent u
pub all_low-law : (g h : ℕ) (factor : ℕ → ℕ) (k start fraction i u : ℕ) → i ≡ 32 → u ≡ 2 ^ i → fraction < 2 ^ 32 →
    ((j : ℕ) → factor j ^ (2 ^ suc j) * h ≤ g * one_factor ^ (2 ^ suc j)) → start * h ^ k ≤ g ^ k * one_factor →
    product times_low factor start fraction i ^ u * h ^ (k * u + fraction) ≤ g ^ (k * u + fraction) * one_factor ^ u
all_low-law g h factor k start fraction i u places e small roots begin =
    let law = product_low-law g h factor k start fraction i (omega (arith, places)) small roots begin in
    let none : 32 - i ≡ 0 = omega (arith, places) in
    let whole : fraction / 2 ^ (32 - i) ≡ fraction = ap (λ j. fraction / 2 ^ j) none ∙ div-one fraction in
    let exponent : exponent_at k fraction i ≡ k * u + fraction = ap (λ f. k * 2 ^ i + f) whole ∙ ap (λ q. k * q + fraction) (sym e) in
    let P : ℕ → ℕ → Type 0 = λ q n. product times_low factor start fraction i ^ q * h ^ n ≤ g ^ n * one_factor ^ q in
    subst (λ n. P u n) exponent (subst (λ q. P q (exponent_at k fraction i)) (sym e) law)

pub all_high-law : (g h : ℕ) (factor : ℕ → ℕ) (k start fraction i u : ℕ) → i ≡ 32 → u ≡ 2 ^ i → fraction < 2 ^ 32 →
    ((j : ℕ) → g * one_factor ^ (2 ^ suc j) ≤ factor j ^ (2 ^ suc j) * h) → g ^ k * one_factor ≤ start * h ^ k →
    g ^ (k * u + fraction) * one_factor ^ u ≤ product times_high factor start fraction i ^ u * h ^ (k * u + fraction)
all_high-law g h factor k start fraction i u places e small roots begin =
    let law = product_high-law g h factor k start fraction i (omega (arith, places)) small roots begin in
    let none : 32 - i ≡ 0 = omega (arith, places) in
    let whole : fraction / 2 ^ (32 - i) ≡ fraction = ap (λ j. fraction / 2 ^ j) none ∙ div-one fraction in
    let exponent : exponent_at k fraction i ≡ k * u + fraction = ap (λ f. k * 2 ^ i + f) whole ∙ ap (λ q. k * q + fraction) (sym e) in
    let P : ℕ → ℕ → Type 0 = λ q n. g ^ n * one_factor ^ q ≤ product times_high factor start fraction i ^ q * h ^ n in
    subst (λ n. P u n) exponent (subst (λ q. P q (exponent_at k fraction i)) (sym e) law)
