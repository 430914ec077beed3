-- The decade of an end is the one power of ten that it reaches while it doesn't reach the next.
use Rattle.std.proofs.Common.{◌≡◌, ℕ, zero, suc, ◌+◌, ◌-◌, ◌*◌, ◌/◌, ◌^◌, ◌<◌, ◌≤◌, Bool, true, false, nat_le, inl, inr, sym, ap, ◌∙◌, subst, arith, rules, tests}
use Rattle.std.proofs.lemmas.Bool.{cases_lt}
use Rattle.std.proofs.Math.Nat.{pow-le-pow_right, mul-le-mul_right, pow-suc, one-le-pow, mul-div-mul_left, div-lt_iff_lt-mul, le-div_iff_mul-le, mul-div_cancel_left, lt_of_mul-lt-mul_left, lt_of_mul-lt-mul_right}
use Rattle.std.proofs.lemmas.Nat.{pow-add}
use Rattle.std.proofs.lemmas.Grind.{div_ceil_times}
use Rattle.std.specs.Int.{div_ceil}
use Rattle.fix_interval.specs.Units.{unit-is}
use Rattle.fix_interval.specs.Lg.{greatest, decade_of, one_mantissa}
use Rattle.enclose_log.specs.inner.Decade.{IsDecade}
use Rattle.fix_interval.proofs.Ceilings.{div_ceil-scaled, div_ceil-whole}

-- the greatest number that passes, where no greater one does
pub greatest-is : (passes : ℕ → Bool) (limit k : ℕ) → k ≤ limit → passes k ≡ true → ((j : ℕ) → k < j → passes j ≡ false) → greatest passes limit ≡ k
unfolding greatest
greatest-is passes zero k within pass fail = omega arith
greatest-is passes (suc limit) k within pass fail =
    elim (cases_lt k (suc limit)) [
      | inl below ↦ rw (fail (suc limit) below) (greatest-is passes limit k (omega arith) pass fail)
      | inr above ↦ (let e : k ≡ suc limit = omega arith in rw (subst (λ j. passes j ≡ true) e pass) (sym e))
    ]

-- the definition gives the decade
pub decade_of-is : (n k : ℕ) → IsDecade n k → decade_of n ≡ k
unfolding decade_of
decade_of-is n k d = rw unit-is
    (greatest-is (λ j. nat_le (10 ^ j * 2 ^ 32) (10 ^ 10 * n)) 38 k d.last (search (rules, tests, d.reached))
    (λ j above. let more : 10 ^ suc k ≤ 10 ^ j = pow-le-pow_right {n = 10} (omega arith) above in
    let scaled = mul-le-mul_right (2 ^ 32) more in
    let power = pow-suc 10 k in
    let short : 10 ^ 10 * n < 10 ^ j * 2 ^ 32 = omega (arith, scaled, power, d.below_next) in search (rules, tests, short)))

-- an end below 1: q is its quotient by the least decade, and r the decade of that
pub decade-below_one : (n q r : ℕ) → q ≡ n * 10 ^ 10 / 2 ^ 32 → 10 ^ r ≤ q → q < 10 * 10 ^ r → r < 39 → IsDecade n r
decade-below_one n q r e low high last = record {
  reached = omega (arith, mul-le-mul_right (2 ^ 32) low);
  below_next = omega (arith, high);
  last = omega arith;
}

-- an end from 1 on: q is its whole part, and r the decade of that
pub decade-from_one : (n q r : ℕ) → n < 2 ^ 126 → q ≡ n / 2 ^ 32 → 10 ^ r ≤ q → q < 10 * 10 ^ r → IsDecade n (10 + r)
decade-from_one n q r small e low high =
    let power = pow-add 10 10 r in
    record {
      reached = omega (arith, power, low);
      below_next = omega (arith, power, high);
      last = elim (cases_lt r 29) [
        | inl within ↦ omega arith
        | inr past ↦ (let large : 10 ^ 29 ≤ 10 ^ r = pow-le-pow_right {n = 10} (omega arith) past in absurd (omega arith))
      ];
    }

-- What the mantissa of an end from 1 on is made of. Here p is the power of ten of its decade
pub record FromOne (n k p : ℕ) : Type 0 where
  pub positive : 0 < p
  pub reached : p * 2 ^ 32 ≤ n
  pub below_next : n < 10 * 2 ^ 32 * p
  pub last : p ≤ 10 ^ 28
  pub low : 10 ^ 10 * n * 2 ^ 26 / 10 ^ k ≡ n * 2 ^ 26 / p
  pub high : div_ceil (10 ^ 10 * n * 2 ^ 26) (10 ^ k) ≡ div_ceil (n * 2 ^ 26) p

pub mantissa-from_one : (n k p : ℕ) → IsDecade n k → 10 ≤ k → p ≡ 10 ^ (k - 10) → FromOne n k p
mantissa-from_one n k p d from e =
    let shift : k ≡ 10 + (k - 10) = omega arith in
    let power : 10 ^ k ≡ 10 ^ 10 * p = ap (λ i. 10 ^ i) shift ∙ pow-add 10 10 (k - 10) ∙ ap (λ x. 10 ^ 10 * x) (sym e) in
    let above : 0 < p = rw e (one-le-pow (k - 10) 10 (omega arith)) in
    let factor : 10 ^ 10 * n * 2 ^ 26 ≡ 10 ^ 10 * (n * 2 ^ 26) = omega arith in
    record {
      positive = above;
      reached = omega (arith, power, d.reached);
      below_next = omega (arith, power, d.below_next);
      last = rw e (pow-le-pow_right {n = 10} (omega arith) {j = 28} (omega (arith, d.last)));
      low = rw (power, factor) (mul-div-mul_left {m = 10 ^ 10} (n * 2 ^ 26) p (omega arith));
      high = rw (power, factor) (div_ceil-scaled (10 ^ 10) (n * 2 ^ 26) p (omega arith) above);
    }

-- The mantissa of an end below 1 is whole. Here p is the power of ten that lifts its decade to that of 1
pub record BelowOne (n k p : ℕ) : Type 0 where
  pub small : n * p < 10 * 2 ^ 32
  pub low : 10 ^ 10 * n * 2 ^ 26 / 10 ^ k ≡ n * p * 2 ^ 26
  pub high : div_ceil (10 ^ 10 * n * 2 ^ 26) (10 ^ k) ≡ n * p * 2 ^ 26

pub mantissa-below_one : (n k p : ℕ) → IsDecade n k → k < 10 → p ≡ 10 ^ (10 - k) → BelowOne n k p
mantissa-below_one n k p d below e =
    let shift : 10 ≡ (10 - k) + k = omega arith in
    let power : 10 ^ 10 ≡ p * 10 ^ k = ap (λ i. 10 ^ i) shift ∙ pow-add 10 (10 - k) k ∙ ap (λ x. x * 10 ^ k) (sym e) in
    let above : 0 < 10 ^ k = one-le-pow k 10 (omega arith) in
    let whole : 10 ^ 10 * n * 2 ^ 26 ≡ 10 ^ k * (n * p * 2 ^ 26) = (let f = ap (λ x. x * n) power in omega (arith, f)) in
    record {
      small = lt_of_mul-lt-mul_left (10 ^ k) (let f = ap (λ x. x * n) power in omega (arith, f, d.below_next));
      low = rw whole (mul-div_cancel_left (n * p * 2 ^ 26) above);
      high = rw whole (div_ceil-whole (n * p * 2 ^ 26) (10 ^ k) above);
    }

-- a mantissa is from 1 to 10
pub mantissa_low-within : (n k : ℕ) → IsDecade n k → (one_mantissa ≤ 10 ^ 10 * n * 2 ^ 26 / 10 ^ k) × (10 ^ 10 * n * 2 ^ 26 / 10 ^ k < 10 * one_mantissa)
mantissa_low-within n k d =
    let above : 0 < 10 ^ k = one-le-pow k 10 (omega arith) in
    ((le-div_iff_mul-le above).1 (omega (arith, d.reached)), (div-lt_iff_lt-mul above).1 (omega (arith, d.below_next)))

pub mantissa_high-within : (n k : ℕ) → IsDecade n k → (one_mantissa ≤ div_ceil (10 ^ 10 * n * 2 ^ 26) (10 ^ k)) × (div_ceil (10 ^ 10 * n * 2 ^ 26) (10 ^ k) ≤ 10 * one_mantissa)
mantissa_high-within n k d =
    let above : 0 < 10 ^ k = one-le-pow k 10 (omega arith) in
    let bounds = div_ceil_times (10 ^ 10 * n * 2 ^ 26) (10 ^ k) above in
    let below : div_ceil (10 ^ 10 * n * 2 ^ 26) (10 ^ k) < 10 * one_mantissa + 1 =
    lt_of_mul-lt-mul_right (10 ^ k) (omega (arith, d.below_next, bounds.1)) in
    let least : one_mantissa < div_ceil (10 ^ 10 * n * 2 ^ 26) (10 ^ k) + 1 =
    lt_of_mul-lt-mul_right (10 ^ k) (omega (arith, d.reached, bounds.0, above)) in
    (omega (arith, least), omega (arith, below))

-- a power of ten that fits 32 bits has an exponent below 10
pub exponent-narrow : (p i : ℕ) → p ≡ 10 ^ i → p < 2 ^ 32 → i < 10
exponent-narrow p i e small =
    elim (cases_lt i 10) [
      | inl below ↦ below
      | inr past ↦ (let large : 10 ^ 10 ≤ 10 ^ i = pow-le-pow_right {n = 10} (omega arith) past in absurd (omega arith))
    ]
