-- What the decay's value encloses, end by end.
use Rattle.std.proofs.Common.{◌≡◌, ℕ, zero, suc, ◌+◌, ◌-◌, ◌*◌, ◌/◌, ◌%◌, ◌^◌, ◌<◌, ◌≤◌, ◌⊎◌, true, false, nat_le, inl, inr, refl, sym, ap, ◌∙◌, subst, arith, rules, tests, get_or, lit<, lit≤, min}
use Rattle.std.proofs.lemmas.Bool.{cases_lt}
use Rattle.std.specs.Int.{div_ceil}
use Rattle.std.proofs.lemmas.Nat.{mul-le, pow-add, mul-pow}
use Rattle.std.proofs.lemmas.Grind.{div_ceil_times}
use Rattle.std.proofs.Math.Nat.{pow-suc, pow-zero, one-le-pow, pow-le-pow_left, mul-le-mul_left, mul-le-mul_right, le_of_mul-le-mul_right, div-mul-le_self}
use Rattle.fix_interval.specs.Units.{unit, unit-is}
use Rattle.fix_interval.specs.Powers.{factorial_20, exponential_sum}
use Rattle.fix_interval.specs.Roots.{one_factor, times_low, times_high, product}
use Rattle.fix_interval.specs.ExpNeg.{inverse_e_low, inverse_e_high, whole_decay_low, whole_decay_high, decay_factor_low, decay_factor_high, decay_low, decay_high, exp_neg_low, exp_neg_high}
use Rattle.enclose_exp.specs.declared.tables.TheConstants.{WHOLE_LOW, WHOLE_HIGH}
use Rattle.fix_interval.proofs.Powers.{pow-mul, one-pow, bases}
use Rattle.fix_interval.proofs.Spans.{unit-pos}
use Rattle.fix_interval.proofs.TenLaw.{one_factor-split, parts, fraction-small}
use Rattle.fix_interval.proofs.PowerLaw.{root_low-law, root_high-law, all_low-law, all_high-law}
use Rattle.enclose_exp.proofs.TableLemmas.{whole_low-at, whole_high-at, decay_high-le}
use Rattle.fix_interval.proofs.Ceilings.{quotient_up-le}

-- ---- the code's values

below-cut : (n : ℕ) → n < 23 * 2 ^ 32 → nat_le (23 * unit) n ≡ false
below-cut n small = rw unit-is (let h : n < 23 * 2 ^ 32 = small in search (rules, tests))

past-cut : (n : ℕ) → 23 * 2 ^ 32 ≤ n → nat_le (23 * unit) n ≡ true
past-cut n large = rw unit-is (let h : 23 * 2 ^ 32 ≤ n = large in search (rules, tests))

pub exp_neg_low-within : (n : ℕ) → n < 23 * 2 ^ 32 → exp_neg_low n ≡ decay_low n / 2 ^ 28
unfolding exp_neg_low
exp_neg_low-within n small = rw (below-cut n small) refl

pub exp_neg_low-past : (n : ℕ) → 23 * 2 ^ 32 ≤ n → exp_neg_low n ≡ 0
unfolding exp_neg_low
exp_neg_low-past n large = rw (past-cut n large) refl

pub exp_neg_high-within : (n : ℕ) → n < 23 * 2 ^ 32 → exp_neg_high n ≡ div_ceil (decay_high n) (2 ^ 28)
unfolding exp_neg_high
exp_neg_high-within n small = rw (below-cut n small) refl

pub exp_neg_high-past : (n : ℕ) → 23 * 2 ^ 32 ≤ n → exp_neg_high n ≡ 1
unfolding exp_neg_high
exp_neg_high-past n large = rw (past-cut n large) refl

pub low-made : (n p : ℕ) → n ≤ 23 * 2 ^ 32 →
    p ≡ product times_low decay_factor_low (get_or WHOLE_LOW (n / 2 ^ 32) 0) (n % 2 ^ 32) 32 → p ≡ decay_low n
unfolding decay_low
low-made n p small made =
    let whole : n / 2 ^ 32 < 24 = omega (arith, small) in
    rw (unit-is, made, whole_low-at (n / 2 ^ 32) whole) refl

pub high-made : (n p : ℕ) → n ≤ 23 * 2 ^ 32 →
    p ≡ product times_high decay_factor_high (get_or WHOLE_HIGH (n / 2 ^ 32) 0) (n % 2 ^ 32) 32 → p ≡ decay_high n
unfolding decay_high
high-made n p small made =
    let whole : n / 2 ^ 32 < 24 = omega (arith, small) in
    rw (unit-is, made, whole_high-at (n / 2 ^ 32) whole) refl

-- ---- the law

sum-positive : 0 < exponential_sum
unfolding exponential_sum
sum-positive = lit< tt

whole_low-law : (k : ℕ) → whole_decay_low k * suc exponential_sum ^ k ≤ factorial_20 ^ k * one_factor
unfolding whole_decay_low inverse_e_low
whole_low-law zero = rw (pow-zero (suc exponential_sum), pow-zero factorial_20) (omega arith)
whole_low-law (suc k) =
    let w = whole_decay_low k in
    let before = whole_low-law k in
    let first = div-mul-le_self (one_factor * factorial_20) (suc exponential_sum) in
    let times = div-mul-le_self (w * inverse_e_low) one_factor in
    let both = mul-le (w * suc exponential_sum ^ k) (inverse_e_low * suc exponential_sum) (factorial_20 ^ k * one_factor) (one_factor * factorial_20) before first in
    let scaled = mul-le-mul_right (suc exponential_sum ^ k * suc exponential_sum) times in
    rw (pow-suc (suc exponential_sum) k, pow-suc factorial_20 k)
    (le_of_mul-le-mul_right {k = one_factor} (omega (arith, both, scaled)) (omega arith))

whole_high-law : (k : ℕ) → factorial_20 ^ k * one_factor ≤ whole_decay_high k * exponential_sum ^ k
unfolding whole_decay_high inverse_e_high
whole_high-law zero = rw (pow-zero exponential_sum, pow-zero factorial_20) (omega arith)
whole_high-law (suc k) =
    let w = whole_decay_high k in
    let before = whole_high-law k in
    let first = (div_ceil_times (one_factor * factorial_20) exponential_sum sum-positive).0 in
    let times = (div_ceil_times (w * inverse_e_high) one_factor (omega arith)).0 in
    let both = mul-le (factorial_20 ^ k * one_factor) (one_factor * factorial_20) (w * exponential_sum ^ k) (inverse_e_high * exponential_sum) before first in
    let scaled = mul-le-mul_right (exponential_sum ^ k * exponential_sum) times in
    rw (pow-suc exponential_sum k, pow-suc factorial_20 k)
    (le_of_mul-le-mul_right {k = one_factor} (omega (arith, both, scaled)) (omega arith))

roots_low : (j : ℕ) → decay_factor_low j ^ (2 ^ suc j) * suc exponential_sum ≤ factorial_20 * one_factor ^ (2 ^ suc j)
unfolding decay_factor_low inverse_e_low
roots_low j =
    root_low-law factorial_20 (suc exponential_sum) inverse_e_low (suc j)
    (omega (arith, div-mul-le_self (one_factor * factorial_20) (suc exponential_sum)))

roots_high : (j : ℕ) → factorial_20 * one_factor ^ (2 ^ suc j) ≤ decay_factor_high j ^ (2 ^ suc j) * exponential_sum
unfolding decay_factor_high inverse_e_high
roots_high j =
    root_high-law factorial_20 exponential_sum inverse_e_high (suc j)
    (omega (arith, (div_ceil_times (one_factor * factorial_20) exponential_sum sum-positive).0))

-- the last rounding, with everything raised to u
rounded-low : (u c g h n p x : ℕ) → x * c ≤ p → 0 < c → one_factor ≡ c * u → p ^ u * h ^ n ≤ g ^ n * one_factor ^ u →
    x ^ u * h ^ n ≤ u ^ u * g ^ n
rounded-low u c g h n p x scaled positive split before =
    let powers : (x * c) ^ u ≤ p ^ u = pow-le-pow_left scaled u in
    let left = mul-pow x c u in
    let factor : one_factor ^ u ≡ c ^ u * u ^ u = ap (λ y. y ^ u) split ∙ mul-pow c u u in
    let after = mul-le-mul_right (h ^ n) powers in
    le_of_mul-le-mul_right {k = c ^ u} (omega (arith, after, before, ap (λ y. y * h ^ n) left, ap (λ y. g ^ n * y) factor)) (one-le-pow u c positive)

rounded-high : (u c g h n p x : ℕ) → p ≤ x * c → 0 < c → one_factor ≡ c * u → g ^ n * one_factor ^ u ≤ p ^ u * h ^ n →
    u ^ u * g ^ n ≤ x ^ u * h ^ n
rounded-high u c g h n p x scaled positive split before =
    let powers : p ^ u ≤ (x * c) ^ u = pow-le-pow_left scaled u in
    let left = mul-pow x c u in
    let factor : one_factor ^ u ≡ c ^ u * u ^ u = ap (λ y. y ^ u) split ∙ mul-pow c u u in
    let after = mul-le-mul_right (h ^ n) powers in
    le_of_mul-le-mul_right {k = c ^ u} (omega (arith, after, before, ap (λ y. y * h ^ n) left, ap (λ y. g ^ n * y) factor)) (one-le-pow u c positive)

-- both ends of the decay of a number within the range
pub low-law : (n : ℕ) → (decay_low n / 2 ^ 28) ^ unit * suc exponential_sum ^ n ≤ unit ^ unit * factorial_20 ^ n
unfolding decay_low
low-law n =
    let k = n / unit in
    let f = n % unit in
    let law = all_low-law factorial_20 (suc exponential_sum) decay_factor_low k (whole_decay_low k) f 32 unit refl unit-is (fraction-small n) roots_low (whole_low-law k) in
    let p = product times_low decay_factor_low (whole_decay_low k) f 32 in
    let P : ℕ → Type 0 = λ e. p ^ unit * suc exponential_sum ^ e ≤ factorial_20 ^ e * one_factor ^ unit in
    rounded-low unit (2 ^ 28) factorial_20 (suc exponential_sum) n p (p / 2 ^ 28) (div-mul-le_self p (2 ^ 28)) (omega arith) (one_factor-split unit unit-is) (subst P (parts n) law)

pub high-law : (n : ℕ) → unit ^ unit * factorial_20 ^ n ≤ div_ceil (decay_high n) (2 ^ 28) ^ unit * exponential_sum ^ n
unfolding decay_high
high-law n =
    let k = n / unit in
    let f = n % unit in
    let law = all_high-law factorial_20 exponential_sum decay_factor_high k (whole_decay_high k) f 32 unit refl unit-is (fraction-small n) roots_high (whole_high-law k) in
    let p = product times_high decay_factor_high (whole_decay_high k) f 32 in
    let P : ℕ → Type 0 = λ e. factorial_20 ^ e * one_factor ^ unit ≤ p ^ unit * exponential_sum ^ e in
    rounded-high unit (2 ^ 28) factorial_20 exponential_sum n p (div_ceil p (2 ^ 28)) (div_ceil_times p (2 ^ 28) (omega arith)).0 (omega arith) (one_factor-split unit unit-is) (subst P (parts n) law)

-- from 23 on the decay is less than the least end above 0
sum-le : factorial_20 ≤ exponential_sum
unfolding factorial_20 exponential_sum
sum-le = lit≤ tt

cut-power : 2 ^ 32 * factorial_20 ^ 23 ≤ exponential_sum ^ 23
unfolding factorial_20 exponential_sum
cut-power = lit≤ tt

past-law : (u g h n : ℕ) → u * g ^ 23 ≤ h ^ 23 → g ≤ h → 23 * u ≤ n → u ^ u * g ^ n ≤ 1 ^ u * h ^ n
past-law u g h n cut le large =
    let powers : (u * g ^ 23) ^ u ≤ (h ^ 23) ^ u = pow-le-pow_left cut u in
    let left : (u * g ^ 23) ^ u ≡ u ^ u * g ^ (23 * u) = mul-pow u (g ^ 23) u ∙ ap (λ y. u ^ u * y) (sym (pow-mul g 23 u)) in
    let right : (h ^ 23) ^ u ≡ h ^ (23 * u) = sym (pow-mul h 23 u) in
    let known : u ^ u * g ^ (23 * u) ≤ h ^ (23 * u) = rw (← left, ← right) powers in
    let rest : g ^ (n - 23 * u) ≤ h ^ (n - 23 * u) = pow-le-pow_left le (n - 23 * u) in
    let whole : n ≡ 23 * u + (n - 23 * u) = omega arith in
    let split_g : g ^ n ≡ g ^ (23 * u) * g ^ (n - 23 * u) = ap (λ i. g ^ i) whole ∙ pow-add g (23 * u) (n - 23 * u) in
    let split_h : h ^ n ≡ h ^ (23 * u) * h ^ (n - 23 * u) = ap (λ i. h ^ i) whole ∙ pow-add h (23 * u) (n - 23 * u) in
    let both = mul-le (u ^ u * g ^ (23 * u)) (g ^ (n - 23 * u)) (h ^ (23 * u)) (h ^ (n - 23 * u)) known rest in
    rw (one-pow u, split_g, split_h) (omega (arith, both))

pub high_end-law : (n : ℕ) → unit ^ unit * factorial_20 ^ n ≤ exp_neg_high n ^ unit * exponential_sum ^ n
high_end-law n =
    elim (cases_lt n (23 * 2 ^ 32)) [
      | inl small ↦ rw (exp_neg_high-within n small) (high-law n)
      | inr large ↦ rw (exp_neg_high-past n large)
          (past-law unit factorial_20 exponential_sum n (let P : ℕ → Type 0 = λ y. y * factorial_20 ^ 23 ≤ exponential_sum ^ 23 in subst P (sym unit-is) cut-power) sum-le (rw unit-is large))
    ]

pub low_end-law : (n : ℕ) → (exp_neg_low n ≡ 0) ⊎ (exp_neg_low n ^ unit * suc exponential_sum ^ n ≤ unit ^ unit * factorial_20 ^ n)
low_end-law n =
    elim (cases_lt n (23 * 2 ^ 32)) [
      | inl small ↦ inr (rw (exp_neg_low-within n small) (low-law n))
      | inr large ↦ inl (exp_neg_low-past n large)
    ]

-- the greater exponent has the smaller decay
ordered-bases : (u g h m n x y : ℕ) → 0 < u → 0 < h → g ≤ suc h → m ≤ n → x ^ u * suc h ^ n ≤ u ^ u * g ^ n → u ^ u * g ^ m ≤ y ^ u * h ^ m → x ≤ y
ordered-bases u g h m n x y positive some le order low high =
    let t = n - m in
    let whole : n ≡ m + t = omega arith in
    let split_g : g ^ n ≡ g ^ m * g ^ t = ap (λ i. g ^ i) whole ∙ pow-add g m t in
    let split_h : suc h ^ n ≡ suc h ^ m * suc h ^ t = ap (λ i. suc h ^ i) whole ∙ pow-add (suc h) m t in
    let lower : h ^ m ≤ suc h ^ m = pow-le-pow_left (omega arith) m in
    let rest : g ^ t ≤ suc h ^ t = pow-le-pow_left le t in
    let both = mul-le (h ^ m) (g ^ t) (suc h ^ m) (suc h ^ t) lower rest in
    let one = mul-le-mul_right (g ^ t) high in
    let two = mul-le-mul_left (y ^ u) both in
    let above : 0 < suc h ^ m * suc h ^ t = mul-le 1 1 (suc h ^ m) (suc h ^ t) (one-le-pow m (suc h) (omega arith)) (one-le-pow t (suc h) (omega arith)) in
    let first : x ^ u * (suc h ^ m * suc h ^ t) ≤ u ^ u * (g ^ m * g ^ t) = rw (← split_h, ← split_g) low in
    bases x y u positive (le_of_mul-le-mul_right {k = suc h ^ m * suc h ^ t} (omega (arith, first, one, two)) above)

pub ends-ordered : (m n : ℕ) → m ≤ n → exp_neg_low n ≤ exp_neg_high m
ends-ordered m n le =
    elim (low_end-law n) [
      | inl none ↦ rw none (omega arith)
      | inr low ↦ ordered-bases unit factorial_20 exponential_sum m n (exp_neg_low n) (exp_neg_high m) unit-pos sum-positive (omega (arith, sum-le)) le low (high_end-law m)
    ]

-- no decay is above 1
bound : (n : ℕ) → decay_high n ≤ one_factor
unfolding decay_high
bound n = decay_high-le (n / unit) (n % unit)

pub exp_neg_high-le : (n : ℕ) → exp_neg_high n ≤ 2 ^ 32
exp_neg_high-le n =
    elim (cases_lt n (23 * 2 ^ 32)) [
      | inl small ↦ rw (exp_neg_high-within n small) (quotient_up-le (decay_high n) (2 ^ 32) (2 ^ 28) (omega arith) (omega (arith, bound n)))
      | inr large ↦ rw (exp_neg_high-past n large) (omega arith)
    ]

-- an exponent that is kept within 23 decays the same
pub exp_neg_low-kept : (n : ℕ) → exp_neg_low (min n (23 * 2 ^ 32)) ≡ exp_neg_low n
exp_neg_low-kept n =
    elim (cases_lt n (23 * 2 ^ 32)) [
      | inl small ↦ ap exp_neg_low (omega arith)
      | inr large ↦ exp_neg_low-past (min n (23 * 2 ^ 32)) (omega arith) ∙ sym (exp_neg_low-past n large)
    ]

pub exp_neg_high-kept : (n : ℕ) → exp_neg_high (min n (23 * 2 ^ 32)) ≡ exp_neg_high n
exp_neg_high-kept n =
    elim (cases_lt n (23 * 2 ^ 32)) [
      | inl small ↦ ap exp_neg_high (omega arith)
      | inr large ↦ exp_neg_high-past (min n (23 * 2 ^ 32)) (omega arith) ∙ sym (exp_neg_high-past n large)
    ]
