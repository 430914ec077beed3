-- The two ends of the logarithm's value: what they enclose, their order and their bounds.
use Rattle.std.proofs.Common.{◌≡◌, ℕ, zero, suc, ◌+◌, ◌*◌, ◌^◌, ◌<◌, ◌≤◌, ◌⊎◌, Bool, true, false, leb, inl, inr, refl, sym, ap, ◌∙◌, subst, arith, rules, tests, pos, ◌≤ℤ◌, neg_ℤ}
use Rattle.std.proofs.lemmas.Int.{ints}
use Rattle.std.proofs.lemmas.Bool.{cases_lt, leb-true, leb-false}
use Rattle.std.proofs.lemmas.Nat.{mul-pow}
use Rattle.std.proofs.lemmas.Grind.{div_ceil_times}
use Rattle.std.proofs.Math.Nat.{pow-suc, pow-zero, one-le-pow, pow-le-pow_left, pow-le-pow_right, mul-le-mul_left, le_of_mul-le-mul_right, div-mul-le_self}
use Rattle.fix_interval.specs.Units.{unit, unit-is}
use Rattle.fix_interval.specs.Lg.{greatest, decade_of, mantissa_low, mantissa_high, one_mantissa, digits_low, digits_high, rounded_up, lg_low, lg_high, IsAtMostLg, IsAtLeastLg, turn_high, turns}
use Rattle.enclose_log.specs.inner.Decade.{IsDecade}
use Rattle.enclose_log.proofs.DecadeLemmas.{mantissa_low-within, mantissa_high-within}
use Rattle.enclose_log.proofs.Turns.{turns_low-in_range, turns_high-in_range}
use Rattle.fix_interval.proofs.Powers.{pow-mul}
use Rattle.fix_interval.proofs.Shifted.{at_most-shifted, at_least-shifted}
use Rattle.enclose_log.proofs.Law.{low-law, high-law, rounded_up-cases}

true_or_false : (b : Bool) → (b ≡ true) ⊎ (b ≡ false)
true_or_false true = inl refl
true_or_false false = inr refl

-- the greatest number that passes does pass, and none above it within the limit does
pub greatest-passes : (passes : ℕ → Bool) (limit : ℕ) → passes 0 ≡ true → passes (greatest passes limit) ≡ true
unfolding greatest
greatest-passes passes zero first = first
greatest-passes passes (suc limit) first =
    elim (true_or_false (passes (suc limit))) [
      | inl holds ↦ rw holds holds
      | inr fails ↦ rw fails (greatest-passes passes limit first)
    ]

pub greatest-le : (passes : ℕ → Bool) (limit : ℕ) → greatest passes limit ≤ limit
unfolding greatest
greatest-le passes zero = omega arith
greatest-le passes (suc limit) =
    elim (true_or_false (passes (suc limit))) [
      | inl holds ↦ rw holds (omega arith)
      | inr fails ↦ rw fails (omega (arith, greatest-le passes limit))
    ]

pub greatest-last : (passes : ℕ → Bool) (limit j : ℕ) → greatest passes limit < j → j ≤ limit → passes j ≡ false
unfolding greatest
greatest-last passes zero j above within = absurd (omega arith)
greatest-last passes (suc limit) j above within =
    elim (true_or_false (passes (suc limit))) [
      | inl holds ↦ absurd (omega (arith, rw holds at above))
      | inr fails ↦ (elim (cases_lt j (suc limit)) [
        | inl below ↦ greatest-last passes limit j (rw fails at above) (omega arith)
        | inr last ↦ (let e : j ≡ suc limit = omega arith in rw e fails)
      ])
    ]

-- a decade by powers of ten in units
decade-in_units : (n k : ℕ) → 10 ^ k * unit ≤ 10 ^ 10 * n → 10 ^ 10 * n < 10 ^ suc k * unit → k ≤ 38 → IsDecade n k
decade-in_units n k reached next last = record {
  reached = rw unit-is at reached;
  below_next = omega (arith, rw unit-is at next, pow-suc 10 k);
  last = last;
}

-- no end is past the last decade
below_last : (n : ℕ) → n < 2 ^ 126 → 10 ^ 10 * n < 10 ^ 39 * unit
below_last n small = rw unit-is (omega arith)

-- the definition's decade is that of the end
pub decade_of-holds : (n : ℕ) → 0 < n → n < 2 ^ 126 → IsDecade n (decade_of n)
unfolding decade_of
decade_of-holds n positive small =
    let P : ℕ → Bool = λ j. leb (10 ^ j * unit) (10 ^ 10 * n) in
    let k = greatest P 38 in
    let first : P 0 ≡ true = rw (pow-zero 10, unit-is) (search (rules, tests)) in
    let last = greatest-le P 38 in
    decade-in_units n k
    (leb-true (10 ^ k * unit) (10 ^ 10 * n) (greatest-passes P 38 first))
    (elim (cases_lt k 38) [
      | inl more ↦ leb-false (10 ^ suc k * unit) (10 ^ 10 * n) (greatest-last P 38 (suc k) (omega arith) (omega arith))
      | inr most ↦ (let e : k ≡ 38 = omega arith in let P : ℕ → Type 0 = λ j. 10 ^ 10 * n < 10 ^ suc j * unit in subst P (sym e) (below_last n small))
    ])
    last

-- the two laws, with all powers of ten on the side where they are whole
pub lifted : (n : ℕ) → (10 ^ 10 * n) ^ unit ≡ 10 ^ (10 * unit) * n ^ unit
lifted n = mul-pow (10 ^ 10) n unit ∙ ap (λ y. y * n ^ unit) (sym (pow-mul 10 10 unit))

pub low-lifted : (n : ℕ) → 0 < n → n < 2 ^ 126 → 10 ^ (decade_of n * unit + (digits_low (mantissa_low n)).digits) * unit ^ unit ≤ 10 ^ (10 * unit) * n ^ unit
unfolding digits_low
low-lifted n positive small =
    let k = decade_of n in
    let m = mantissa_low n in
    let d = decade_of-holds n positive small in
    let range = mantissa_low-within n k d in
    let parts : m * 10 ^ k ≤ 10 ^ 10 * n * 2 ^ 26 = div-mul-le_self (10 ^ 10 * n * 2 ^ 26) (10 ^ k) in
    let start : 10 ^ k * unit * m ≤ 10 ^ 10 * n * one_mantissa = low-start k m (10 ^ 10 * n) parts in
    rw (← lifted n) (low-law k (10 ^ 10 * n) m 32 unit unit-is start range.0 range.1)
  where
    low-start : (k m x : ℕ) → m * 10 ^ k ≤ x * 2 ^ 26 → 10 ^ k * unit * m ≤ x * one_mantissa
    low-start k m x h = rw unit-is (omega (arith, h))

pub high-lifted : (n : ℕ) → 0 < n → n < 2 ^ 126 → 10 ^ (10 * unit) * n ^ unit ≤ 10 ^ (decade_of n * unit + rounded_up (digits_high (mantissa_high n))) * unit ^ unit
unfolding digits_high
high-lifted n positive small =
    let k = decade_of n in
    let m = mantissa_high n in
    let d = decade_of-holds n positive small in
    let range = mantissa_high-within n k d in
    let parts : 10 ^ 10 * n * 2 ^ 26 ≤ m * 10 ^ k = (div_ceil_times (10 ^ 10 * n * 2 ^ 26) (10 ^ k) (one-le-pow k 10 (omega arith))).0 in
    let start : 10 ^ 10 * n * one_mantissa ≤ 10 ^ k * unit * m = high-start k m (10 ^ 10 * n) parts in
    rw (← lifted n) (high-law k (10 ^ 10 * n) m 32 unit unit-is start range.0 range.1)
  where
    high-start : (k m x : ℕ) → x * 2 ^ 26 ≤ m * 10 ^ k → x * one_mantissa ≤ 10 ^ k * unit * m
    high-start k m x h = rw unit-is (omega (arith, h))

pub lg_low-at_most : (n : ℕ) → 0 < n → n < 2 ^ 126 → IsAtMostLg (lg_low n) n
unfolding lg_low
lg_low-at_most n positive small = at_most-shifted _ _ n (low-lifted n positive small)

pub lg_high-at_least : (n : ℕ) → 0 < n → n < 2 ^ 126 → IsAtLeastLg (lg_high n) n
unfolding lg_high
lg_high-at_least n positive small = at_least-shifted _ _ n (high-lifted n positive small)

-- a power of ten that isn't greater has an exponent that isn't greater
pub exponents : (s t y : ℕ) → 0 < y → 10 ^ s * y ≤ 10 ^ t * y → s ≤ t
exponents s t y positive h =
    let powers : 10 ^ s ≤ 10 ^ t = le_of_mul-le-mul_right {k = y} h positive in
    elim (cases_lt t s) [
      | inl less ↦ absurd (omega (arith, powers, pow-suc 10 t, one-le-pow t 10 (omega arith), pow-le-pow_right {n = 10} (omega arith) {i = suc t} {j = s} less))
      | inr more ↦ more
    ]

-- the low end of a number's logarithm isn't above the high end of a greater one's
pub lg-ordered : (m n : ℕ) → 0 < m → m ≤ n → n < 2 ^ 126 → lg_low m ≤ℤ lg_high n
unfolding lg_low lg_high
lg-ordered m n positive le small =
    let grown = mul-le-mul_left (10 ^ (10 * unit)) (pow-le-pow_left le unit) in
    let least = low-lifted m positive (omega arith) in
    let most = high-lifted n (omega arith) small in
    let above : 0 < unit ^ unit = one-le-pow unit unit (rw unit-is (omega arith)) in
    let s = decade_of m * unit + (digits_low (mantissa_low m)).digits in
    let t = decade_of n * unit + rounded_up (digits_high (mantissa_high n)) in
    let sums : s ≤ t = exponents s t (unit ^ unit) above (omega (arith, grown, least, most)) in
    omega (arith, ints, sums)

-- what the digits leave of the decades
pub digits_low-small : (n : ℕ) → 0 < n → n < 2 ^ 126 → (digits_low (mantissa_low n)).digits < 2 ^ 32
unfolding digits_low
digits_low-small n positive small =
    let range = mantissa_low-within n (decade_of n) (decade_of-holds n positive small) in
    (turns_low-in_range (mantissa_low n) 32 range.0 range.1).digits

pub rounded_up-small : (n : ℕ) → 0 < n → n < 2 ^ 126 → rounded_up (digits_high (mantissa_high n)) ≤ 2 ^ 32
unfolding digits_high
rounded_up-small n positive small =
    let range = mantissa_high-within n (decade_of n) (decade_of-holds n positive small) in
    let last = (turns_high-in_range (mantissa_high n) 32 range.0 range.1).digits in
    elim (rounded_up-cases (turns turn_high 32 (record { mantissa = mantissa_high n; digits = 0 }))) [
      | inl c ↦ rw c.1 (omega (arith, last))
      | inr c ↦ rw c (omega (arith, last))
    ]

-- both ends of a logarithm are within the decades from -10 to 28
pub lg_low-within : (n : ℕ) → 0 < n → n < 2 ^ 126 → (neg_ℤ (pos (10 * 2 ^ 32)) ≤ℤ lg_low n) × (lg_low n ≤ℤ pos (29 * 2 ^ 32))
unfolding lg_low
lg_low-within n positive small =
    let d = (decade_of-holds n positive small).last in
    let f = digits_low-small n positive small in
    rw unit-is (omega (arith, ints, d, f), omega (arith, ints, d, f))

pub lg_high-within : (n : ℕ) → 0 < n → n < 2 ^ 126 → (neg_ℤ (pos (10 * 2 ^ 32)) ≤ℤ lg_high n) × (lg_high n ≤ℤ pos (29 * 2 ^ 32))
unfolding lg_high
lg_high-within n positive small =
    let d = (decade_of-holds n positive small).last in
    let f = rounded_up-small n positive small in
    rw unit-is (omega (arith, ints, d, f), omega (arith, ints, d, f))

-- a number that is 1 or more has no negative logarithm
pub lg_low-from_one : (n : ℕ) → 2 ^ 32 ≤ n → n < 2 ^ 126 → pos 0 ≤ℤ lg_low n
unfolding lg_low
lg_low-from_one n from small =
    let d = decade_of-holds n (omega arith) small in
    let k = decade_of n in
    let ten : 10 ≤ k = (elim (cases_lt k 10) [
      | inl less ↦ (let more : 10 ^ suc k ≤ 10 ^ 10 = pow-le-pow_right {n = 10} (omega arith) {i = suc k} {j = 10} less in
          absurd (omega (arith, d.below_next, more, pow-suc 10 k)))
      | inr enough ↦ enough
    ]) in
    rw unit-is (omega (arith, ints, ten))
