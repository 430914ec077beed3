-- The tables of powers of ten hold the values of their definitions, and the products of their factors fit 64 bits.
use Rattle.std.proofs.Common.{◌≡◌, ℕ, zero, suc, ◌+◌, ◌*◌, ◌^◌, ◌<◌, ◌≤◌, ◌-◌, ◌/◌, ◌==◌, Bool, true, refl, sym, ap, ◌∙◌, arith, List, [], ◌∷◌, ◌++◌, map, length, get_or, lit<, zero-add}
use Rattle.std.specs.Prelude.{◌&&◌}
use Rattle.std.proofs.lemmas.Bool.{eqb-true}
use Rattle.std.proofs.Math.Nat.{le-div_iff_mul-le, mul-le-mul_left, mul-le-mul_right, div-mul-le_self, lt_of_mul-lt-mul_right}
use Rattle.std.proofs.lemmas.Grind.{div_ceil_times}
use Rattle.std.proofs.lemmas.List.{get_or-append_right, get_or-map}
use Rattle.std.proofs.Math.ListN.{get_or-append}
use Rattle.fix_interval.specs.Roots.{one_factor, times_low, times_high, root_low, root_high, product, digit_at}
use Rattle.fix_interval.specs.Ten.{ten_factor_low, ten_factor_high, fraction_low, fraction_high}
use Rattle.fix_interval.specs.declared.powers_of_ten.starts.TheConstants.{STARTS_LOW, STARTS_HIGH}
use Rattle.fix_interval.specs.declared.powers_of_ten.growths.TheConstants.{GROWTHS_LOW, GROWTHS_HIGH}
use Rattle.fix_interval.proofs.Ceilings.{quotient_up-le}
use Rattle.fix_interval.proofs.DigitProducts.{Grows, product_of_all, product-same, product-digits, product-le_all}
use Rattle.fix_interval.proofs.RootTables.{roots_low-at, roots_high-at}
use Rattle.fix_interval.proofs.Tables.{both-true, all_from-at, are_sixteens, sixteens-at}

-- ---- the two roundings of a product

grows-low : Grows times_low one_factor
grows-low = record {
  monotone = λ p q x le. (le-div_iff_mul-le {k = one_factor} (omega arith)).1 (omega (arith, div-mul-le_self (p * x) one_factor, mul-le-mul_right x le));
  grows = λ p x large. (le-div_iff_mul-le {k = one_factor} (omega arith)).1 (mul-le-mul_left p large);
}

grows-high : Grows times_high one_factor
grows-high = record {
  monotone = λ p q x le. quotient_up-le (p * x) (times_high q x) one_factor (omega arith)
      (omega (arith, (div_ceil_times (q * x) one_factor (omega arith)).0, mul-le-mul_right x le));
  grows = λ p x large. (let reach = (div_ceil_times (p * x) one_factor (omega arith)).0 in
      let more = mul-le-mul_left p large in
      let most : p < times_high p x + 1 = lt_of_mul-lt-mul_right one_factor (omega (arith, reach, more)) in
      omega (arith, most));
}

-- ---- the tables

-- the factor above 1 with this growth
abbrev pub grown : ℕ → ℕ
grown growth = (2 ^ 64 + growth) / 16

-- the factors of the first eight digits of a power of ten
abbrev pub firsts_low : List ℕ
firsts_low = 3645857917945947428 ∷ 2050216573033451056 ∷ 1537445535995216957 ∷ 1331372983281051052 ∷ 1238938474290509674 ∷ 1195156395579392702 ∷ 1173849014921377965 ∷ 1163338202099638886 ∷ []

abbrev pub firsts_high : List ℕ
firsts_high = 3645857917945947429 ∷ 2050216573033451058 ∷ 1537445535995216959 ∷ 1331372983281051054 ∷ 1238938474290509676 ∷ 1195156395579392704 ∷ 1173849014921377967 ∷ 1163338202099638888 ∷ []

-- the factors of all digits
abbrev pub ten_low : List ℕ
ten_low = firsts_low ++ map grown GROWTHS_LOW

abbrev pub ten_high : List ℕ
ten_high = firsts_high ++ map grown GROWTHS_HIGH

pub ten_low-at : (i : ℕ) → i < 32 → get_or ten_low i 0 ≡ ten_factor_low i
unfolding root_low ten_factor_low
ten_low-at i within =
    roots_low-at (10 * one_factor) 0 ten_low i refl within ∙ ap (λ k. root_low (10 * one_factor) (suc k)) (zero-add i)

pub ten_high-at : (i : ℕ) → i < 32 → get_or ten_high i 0 ≡ ten_factor_high i
unfolding root_high ten_factor_high
ten_high-at i within =
    roots_high-at (10 * one_factor) 0 ten_high i refl within ∙ ap (λ k. root_high (10 * one_factor) (suc k)) (zero-add i)

-- ---- the distances of the factors from 1

growth-is : (firsts growths : List ℕ) (place : ℕ) → length firsts ≡ 8 → are_sixteens growths ≡ true → 8 ≤ place → place - 8 < length growths →
    16 * get_or (firsts ++ map grown growths) place 0 ≡ 2 ^ 64 + get_or growths (place - 8) 0
growth-is firsts growths place eight all from within =
    let later = get_or-append_right firsts (map grown growths) 8 place 0 eight from in
    let mapped = get_or-map grown growths (place - 8) 0 0 within in
    let whole = sixteens-at growths (place - 8) all within in
    omega (arith, later, mapped, whole.0)

pub ten_low-growth : (place : ℕ) → 8 ≤ place → place < 32 → 16 * ten_factor_low place ≡ 2 ^ 64 + get_or GROWTHS_LOW (place - 8) 0
ten_low-growth place from within = rw (← ten_low-at place within) (growth-is firsts_low GROWTHS_LOW place refl refl from (omega arith))

pub ten_high-growth : (place : ℕ) → 8 ≤ place → place < 32 → 16 * ten_factor_high place ≡ 2 ^ 64 + get_or GROWTHS_HIGH (place - 8) 0
ten_high-growth place from within = rw (← ten_high-at place within) (growth-is firsts_high GROWTHS_HIGH place refl refl from (omega arith))

-- ---- the products of the first eight digits

-- each entry is the product of the first eight digits of its place, where the first place is j
abbrev are_starts : (ℕ → ℕ → ℕ) → List ℕ → ℕ → List ℕ → Bool
are_starts times factors j [] = true
are_starts times factors j (x ∷ xs) =
    (x == product times (λ i. get_or factors i 0) one_factor (j * 2 ^ 24) 8) && are_starts times factors (suc j) xs

starts-at : (times : ℕ → ℕ → ℕ) (factors : List ℕ) (j : ℕ) (xs : List ℕ) (i : ℕ) → are_starts times factors j xs ≡ true → i < length xs →
    get_or xs i 0 ≡ product times (λ i. get_or factors i 0) one_factor ((j + i) * 2 ^ 24) 8
starts-at times factors j [] i all within = absurd (omega arith)
starts-at times factors j (x ∷ xs) zero all within =
    let value = product times (λ i. get_or factors i 0) one_factor (j * 2 ^ 24) 8 in
    eqb-true x value (both-true (x == value) (are_starts times factors (suc j) xs) all).0
    ∙ ap (λ k. product times (λ i. get_or factors i 0) one_factor (k * 2 ^ 24) 8) (omega arith)
starts-at times factors j (x ∷ xs) (suc i) all within =
    let value = product times (λ i. get_or factors i 0) one_factor (j * 2 ^ 24) 8 in
    starts-at times factors (suc j) xs i (both-true (x == value) (are_starts times factors (suc j) xs) all).1 (omega arith)
    ∙ ap (λ k. product times (λ i. get_or factors i 0) one_factor (k * 2 ^ 24) 8) (omega arith)

-- the first eight digits don't depend on the others
first_digits : (n i : ℕ) → i < 8 → digit_at (n / 2 ^ 24 * 2 ^ 24) i ≡ digit_at n i
first_digits n zero within = omega arith
first_digits n (suc zero) within = omega arith
first_digits n (suc (suc zero)) within = omega arith
first_digits n (suc (suc (suc zero))) within = omega arith
first_digits n (suc (suc (suc (suc zero)))) within = omega arith
first_digits n (suc (suc (suc (suc (suc zero))))) within = omega arith
first_digits n (suc (suc (suc (suc (suc (suc zero)))))) within = omega arith
first_digits n (suc (suc (suc (suc (suc (suc (suc zero))))))) within = omega arith
first_digits n (suc (suc (suc (suc (suc (suc (suc (suc i)))))))) within = absurd (omega arith)

start-is : (times : ℕ → ℕ → ℕ) (factors starts : List ℕ) (factor : ℕ → ℕ) (fraction : ℕ) → are_starts times factors 0 starts ≡ true → fraction / 2 ^ 24 < length starts →
    ((i : ℕ) → i < 8 → get_or factors i 0 ≡ factor i) → get_or starts (fraction / 2 ^ 24) 0 ≡ product times factor one_factor fraction 8
start-is times factors starts factor fraction all within same =
    starts-at times factors 0 starts (fraction / 2 ^ 24) all within
    ∙ ap (λ k. product times (λ i. get_or factors i 0) one_factor (k * 2 ^ 24) 8) (zero-add (fraction / 2 ^ 24))
    ∙ product-same times (λ i. get_or factors i 0) factor one_factor (fraction / 2 ^ 24 * 2 ^ 24) 8 same
    ∙ product-digits times factor one_factor (fraction / 2 ^ 24 * 2 ^ 24) fraction 8 (first_digits fraction)

starts_low-hold : are_starts times_low firsts_low 0 STARTS_LOW ≡ true
unfolding product
starts_low-hold = refl

starts_high-hold : are_starts times_high firsts_high 0 STARTS_HIGH ≡ true
unfolding product
starts_high-hold = refl

first_low-at : (i : ℕ) → i < 8 → get_or firsts_low i 0 ≡ ten_factor_low i
first_low-at i within = sym (get_or-append firsts_low (map grown GROWTHS_LOW) 0 i within) ∙ ten_low-at i (omega arith)

first_high-at : (i : ℕ) → i < 8 → get_or firsts_high i 0 ≡ ten_factor_high i
first_high-at i within = sym (get_or-append firsts_high (map grown GROWTHS_HIGH) 0 i within) ∙ ten_high-at i (omega arith)

pub ten_low-start : (fraction : ℕ) → fraction < 2 ^ 32 → get_or STARTS_LOW (fraction / 2 ^ 24) 0 ≡ product times_low ten_factor_low one_factor fraction 8
ten_low-start fraction small = start-is times_low firsts_low STARTS_LOW ten_factor_low fraction starts_low-hold (omega arith) first_low-at

pub ten_high-start : (fraction : ℕ) → fraction < 2 ^ 32 → get_or STARTS_HIGH (fraction / 2 ^ 24) 0 ≡ product times_high ten_factor_high one_factor fraction 8
ten_high-start fraction small = start-is times_high firsts_high STARTS_HIGH ten_factor_high fraction starts_high-hold (omega arith) first_high-at

pub ten_low-start_large : (fraction : ℕ) → fraction < 2 ^ 32 → one_factor ≤ get_or STARTS_LOW (fraction / 2 ^ 24) 0
ten_low-start_large fraction small = all_from-at one_factor STARTS_LOW (fraction / 2 ^ 24) refl (omega arith)

-- ---- what the products are below

pub ten_low-small : (fraction count : ℕ) → count ≤ 32 → product times_low ten_factor_low one_factor fraction count < 15 * 2 ^ 60
ten_low-small fraction count within =
    let most : product_of_all times_low ten_low one_factor < 15 * 2 ^ 60 = lit< tt in
    let same = product-same times_low (λ i. get_or ten_low i 0) ten_factor_low one_factor fraction count (λ i h. ten_low-at i (omega arith)) in
    let less = product-le_all times_low one_factor grows-low ten_low one_factor fraction count (λ i h. all_from-at one_factor ten_low i refl h) within in
    omega (arith, most, same, less)

pub ten_high-small : (fraction count : ℕ) → count ≤ 32 → product times_high ten_factor_high one_factor fraction count < 15 * 2 ^ 60
ten_high-small fraction count within =
    let most : product_of_all times_high ten_high one_factor < 15 * 2 ^ 60 = lit< tt in
    let same = product-same times_high (λ i. get_or ten_high i 0) ten_factor_high one_factor fraction count (λ i h. ten_high-at i (omega arith)) in
    let less = product-le_all times_high one_factor grows-high ten_high one_factor fraction count (λ i h. all_from-at one_factor ten_high i refl h) within in
    omega (arith, most, same, less)

pub fraction_low-small : (fraction : ℕ) → fraction_low fraction < 2 ^ 64
unfolding fraction_low
fraction_low-small fraction = omega (arith, ten_low-small fraction 32 (omega arith))

pub fraction_high-small : (fraction : ℕ) → fraction_high fraction < 2 ^ 64
unfolding fraction_high
fraction_high-small fraction = omega (arith, ten_high-small fraction 32 (omega arith))
