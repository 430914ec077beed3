-- The ranges of exponents.
use Rattle.std.proofs.Common.{◌≡◌, ℕ, ◌*◌, ◌^◌, ◌<◌, ◌≤◌, true, false, refl, sym, ap, ◌∙◌, arith, ℤ, pos, negsuc, ◌+ℤ◌, ◌≤ℤ◌, ◌<ℤ◌, neg_ℤ, unsigned_abs, Some, None, min, tests, rules, Option}
use Rattle.std.proofs.lemmas.Int.{ints, clamps, by_lt_z, to_z-of_z}
use Rattle.std.specs.Prelude.{int_le, int_lt, nat_le, nat_lt}
use Rattle.std.specs.Int.{int_min, int_max}
use Rattle.std.specs.Option.{option_map_or, option_and_then}
use Rattle.enclose_exp.specs.inner.Exponent.{counted, low_value, high_value}
use mir.Syntax.{w64, w128}
use mir.Val.{SFits, Fits, to_z, of_z}
use lib.Signed.{non_neg}
use lib.Dec.{T}
use Rattle.fix_interval.specs.Units.{unit-is}
use Rattle.fix_interval.specs.Ten.{ten_low, ten_high, raised_low, raised_high}

pub ten_low-greatest : (n : ℤ) → pos (20 * 2 ^ 32) ≤ℤ n → ten_low n ≡ 10 ^ 20 * 2 ^ 32
unfolding ten_low
ten_low-greatest n h = rw unit-is (let e : int_le (pos (20 * 2 ^ 32)) n ≡ true = grind (arith, ints) in rw e refl)

pub ten_low-least : (n : ℤ) → n <ℤ neg_ℤ (pos (19 * 2 ^ 32)) → ten_low n ≡ 0
unfolding ten_low
ten_low-least n h =
    rw unit-is (let e : int_le (pos (20 * 2 ^ 32)) n ≡ false = grind (arith, ints) in
    let f : int_lt n (neg_ℤ (pos (19 * 2 ^ 32))) ≡ true = grind (arith, ints) in rw (e, f) refl)

pub ten_low-within : (n : ℤ) → neg_ℤ (pos (19 * 2 ^ 32)) ≤ℤ n → n <ℤ pos (20 * 2 ^ 32) → ten_low n ≡ raised_low (unsigned_abs (n +ℤ pos (20 * 2 ^ 32)))
unfolding ten_low
ten_low-within n low high =
    rw unit-is (let e : int_le (pos (20 * 2 ^ 32)) n ≡ false = grind (arith, ints) in
    let f : int_lt n (neg_ℤ (pos (19 * 2 ^ 32))) ≡ false = grind (arith, ints) in rw (e, f) refl)

pub ten_high-greatest : (n : ℤ) → pos (20 * 2 ^ 32) ≤ℤ n → ten_high n ≡ None
unfolding ten_high
ten_high-greatest n h = rw unit-is (let e : int_le (pos (20 * 2 ^ 32)) n ≡ true = grind (arith, ints) in rw e refl)

pub ten_high-least : (n : ℤ) → n <ℤ neg_ℤ (pos (19 * 2 ^ 32)) → ten_high n ≡ Some (pos 1)
unfolding ten_high
ten_high-least n h =
    rw unit-is (let e : int_le (pos (20 * 2 ^ 32)) n ≡ false = grind (arith, ints) in
    let f : int_lt n (neg_ℤ (pos (19 * 2 ^ 32))) ≡ true = grind (arith, ints) in rw (e, f) refl)

pub ten_high-within : (n : ℤ) → neg_ℤ (pos (19 * 2 ^ 32)) ≤ℤ n → n <ℤ pos (20 * 2 ^ 32) → ten_high n ≡ Some (pos (raised_high (unsigned_abs (n +ℤ pos (20 * 2 ^ 32)))))
unfolding ten_high
ten_high-within n low high =
    rw unit-is (let e : int_le (pos (20 * 2 ^ 32)) n ≡ false = grind (arith, ints) in
    let f : int_lt n (neg_ℤ (pos (19 * 2 ^ 32))) ≡ false = grind (arith, ints) in rw (e, f) refl)

-- ---- exponents as the code counts them

pub low_value-greatest : (s : ℕ) → 40 * 2 ^ 32 ≤ s → low_value s ≡ 10 ^ 20 * 2 ^ 32
unfolding low_value
low_value-greatest s h = (let e : nat_le (40 * 2 ^ 32) s ≡ true = search (rules, tests, h) in rw e refl)

pub low_value-least : (s : ℕ) → s < 2 ^ 32 → low_value s ≡ 0
unfolding low_value
low_value-least s h =
    let below : s < 40 * 2 ^ 32 = omega arith in
    let e : nat_le (40 * 2 ^ 32) s ≡ false = search (rules, tests, below) in
    let f : nat_lt s (2 ^ 32) ≡ true = search (rules, tests, h) in rw (e, f) refl

pub low_value-within : (s : ℕ) → 2 ^ 32 ≤ s → s < 40 * 2 ^ 32 → low_value s ≡ raised_low s
unfolding low_value
low_value-within s from below =
    let e : nat_le (40 * 2 ^ 32) s ≡ false = search (rules, tests, below) in
    let f : nat_lt s (2 ^ 32) ≡ false = search (rules, tests, from) in rw (e, f) refl

pub high_value-greatest : (s : ℕ) → 40 * 2 ^ 32 ≤ s → high_value s ≡ None
unfolding high_value
high_value-greatest s h = (let e : nat_le (40 * 2 ^ 32) s ≡ true = search (rules, tests, h) in rw e refl)

pub high_value-least : (s : ℕ) → s < 2 ^ 32 → high_value s ≡ Some (pos 1)
unfolding high_value
high_value-least s h =
    let below : s < 40 * 2 ^ 32 = omega arith in
    let e : nat_le (40 * 2 ^ 32) s ≡ false = search (rules, tests, below) in
    let f : nat_lt s (2 ^ 32) ≡ true = search (rules, tests, h) in rw (e, f) refl

pub high_value-within : (s : ℕ) → 2 ^ 32 ≤ s → s < 40 * 2 ^ 32 → high_value s ≡ Some (pos (raised_high s))
unfolding high_value
high_value-within s from below =
    let e : nat_le (40 * 2 ^ 32) s ≡ false = search (rules, tests, below) in
    let f : nat_lt s (2 ^ 32) ≡ false = search (rules, tests, from) in rw (e, f) refl

-- what the count of an exponent is
counted-greatest : (n : ℤ) → pos (20 * 2 ^ 32) ≤ℤ n → counted n ≡ 40 * 2 ^ 32
counted-greatest n h =
    ap unsigned_abs (let e : int_min (int_max n (neg_ℤ (pos (20 * 2 ^ 32)))) (pos (20 * 2 ^ 32)) +ℤ pos (20 * 2 ^ 32) ≡ pos (40 * 2 ^ 32) = omega (arith, ints, clamps) in e)

counted-within : (n : ℤ) → neg_ℤ (pos (19 * 2 ^ 32)) ≤ℤ n → n <ℤ pos (20 * 2 ^ 32) → counted n ≡ unsigned_abs (n +ℤ pos (20 * 2 ^ 32))
counted-within n low high =
    ap unsigned_abs (let e : int_min (int_max n (neg_ℤ (pos (20 * 2 ^ 32)))) (pos (20 * 2 ^ 32)) +ℤ pos (20 * 2 ^ 32) ≡ n +ℤ pos (20 * 2 ^ 32) = omega (arith, ints, clamps) in e)

abs-below : (z : ℤ) (m : ℕ) → pos 0 ≤ℤ z → z <ℤ pos m → unsigned_abs z < m
abs-below (pos n) m low high = omega (arith, ints, high)
abs-below (negsuc n) m low high = absurd (omega (arith, ints, low))

abs-from : (z : ℤ) (m : ℕ) → pos m ≤ℤ z → m ≤ unsigned_abs z
abs-from (pos n) m low = omega (arith, ints, low)
abs-from (negsuc n) m low = absurd (omega (arith, ints, low))

counted-least : (n : ℤ) → n <ℤ neg_ℤ (pos (19 * 2 ^ 32)) → counted n < 2 ^ 32
counted-least n h =
    abs-below (int_min (int_max n (neg_ℤ (pos (20 * 2 ^ 32)))) (pos (20 * 2 ^ 32)) +ℤ pos (20 * 2 ^ 32)) (2 ^ 32)
    (omega (arith, ints, clamps)) (omega (arith, ints, clamps))

counted-from : (n : ℤ) → neg_ℤ (pos (19 * 2 ^ 32)) ≤ℤ n → n <ℤ pos (20 * 2 ^ 32) → (2 ^ 32 ≤ unsigned_abs (n +ℤ pos (20 * 2 ^ 32))) × (unsigned_abs (n +ℤ pos (20 * 2 ^ 32)) < 40 * 2 ^ 32)
counted-from n low high =
    (abs-from (n +ℤ pos (20 * 2 ^ 32)) (2 ^ 32) (omega (arith, ints)), abs-below (n +ℤ pos (20 * 2 ^ 32)) (40 * 2 ^ 32) (omega (arith, ints)) (omega (arith, ints)))

-- the values of the definition by that count
low_value-counted : (n : ℤ) → low_value (counted n) ≡ ten_low n
low_value-counted n =
    by_lt_z n (neg_ℤ (pos (19 * 2 ^ 32))) (λ h. low_value-least (counted n) (counted-least n h) ∙ sym (ten_low-least n h))
    (λ low. by_lt_z n (pos (20 * 2 ^ 32))
    (λ high. let range = counted-from n low high in
    rw (counted-within n low high, ten_low-within n low high) (low_value-within (unsigned_abs (n +ℤ pos (20 * 2 ^ 32))) range.0 range.1))
    (λ h. low_value-greatest (counted n) (omega (arith, counted-greatest n h)) ∙ sym (ten_low-greatest n h)))

high_value-counted : (n : ℤ) → high_value (counted n) ≡ ten_high n
high_value-counted n =
    by_lt_z n (neg_ℤ (pos (19 * 2 ^ 32))) (λ h. high_value-least (counted n) (counted-least n h) ∙ sym (ten_high-least n h))
    (λ low. by_lt_z n (pos (20 * 2 ^ 32))
    (λ high. let range = counted-from n low high in
    rw (counted-within n low high, ten_high-within n low high) (high_value-within (unsigned_abs (n +ℤ pos (20 * 2 ^ 32))) range.0 range.1))
    (λ h. high_value-greatest (counted n) (omega (arith, counted-greatest n h)) ∙ sym (ten_high-greatest n h)))

pub low_value-end : (end : Option ℤ) → low_value (option_map_or counted end 0) ≡ option_map_or ten_low end 0
low_value-end None = low_value-least 0 (omega arith)
low_value-end (Some n) = low_value-counted n

pub high_value-end : (end : Option ℤ) → high_value (option_map_or counted end (40 * 2 ^ 32)) ≡ option_and_then ten_high end
high_value-end None = high_value-greatest (40 * 2 ^ 32) (omega arith)
high_value-end (Some n) = high_value-counted n

-- ---- exponents of a decay

pub min-made : (z : ℤ) (m : ℤ) → pos 0 ≤ℤ z → m ≡ int_min z (pos (23 * 2 ^ 32)) → (unsigned_abs m ≡ min (unsigned_abs z) (23 * 2 ^ 32)) × (pos 0 ≤ℤ m)
min-made (pos n) m low made = (ap unsigned_abs (let e : m ≡ pos (min n (23 * 2 ^ 32)) = omega (arith, ints, clamps) in e), omega (arith, ints, clamps))
min-made (negsuc n) m low made = absurd (omega (arith, ints, low))

pub kept-is : (z m f : ℤ) → SFits w128 z → f ≡ pos (23 * 2 ^ 32) → m ≡ int_min (to_z w128 (of_z w128 z)) (to_z w128 (of_z w128 f)) → m ≡ int_min z (pos (23 * 2 ^ 32))
kept-is z m f fits e made =
    made ∙ ap (λ y. int_min y (to_z w128 (of_z w128 f))) (to_z-of_z w128 z fits) ∙ ap (λ y. int_min z (to_z w128 (of_z w128 y))) e

pub cast-kept : (m : ℤ) → SFits w128 m → pos 0 ≤ℤ m → m ≤ℤ pos (23 * 2 ^ 32) →
    T (non_neg (to_z w128 (of_z w128 m))) × Fits w64 (unsigned_abs (to_z w128 (of_z w128 m)))
cast-kept m fits low high = rw (to_z-of_z w128 m fits) (whole m low high)
  where
    whole : (z : ℤ) → pos 0 ≤ℤ z → z ≤ℤ pos (23 * 2 ^ 32) → T (non_neg z) × Fits w64 (unsigned_abs z)
    whole (pos n) low high = (tt, record { fits = omega (arith, ints, high) })
    whole (negsuc n) low high = absurd (omega (arith, ints, low))
