-- The tables of several digits of a decay, and what a step by one of their entries keeps near. One table serves the factors
-- rounded down and those rounded up, of which the products exceed its entries by a little more.
use Rattle.std.proofs.Common.{◌≡◌, ℕ, zero, suc, ◌+◌, ◌-◌, ◌*◌, ◌/◌, ◌%◌, ◌^◌, ◌<◌, ◌≤◌, Bool, true, false, nat_le, refl, sym, ap, ◌∙◌, subst, arith, List, [], ◌∷◌, length, get_or}
use Rattle.std.specs.Prelude.{◌&&◌}
use Rattle.std.specs.Int.{div_ceil}
use Rattle.std.proofs.lemmas.Bool.{leb-true}
use Rattle.std.proofs.lemmas.Nat.{pow-add}
use Rattle.std.proofs.lemmas.Grind.{div_ceil_times}
use Rattle.std.proofs.Math.Nat.{div-div-eq-div-mul, lt_of_mul-lt-mul_right}
use Rattle.fix_interval.specs.Roots.{one_factor, times_low, times_high, product, digit_at}
use Rattle.fix_interval.specs.ExpNeg.{decay_factor_low, decay_factor_high}
use Rattle.enclose_exp.specs.declared.losses.TheConstants.{EIGHT_LOSSES, SIX_LOSSES}
use Rattle.enclose_exp.specs.declared.tables.TheConstants.{WHOLE_LOW, WHOLE_HIGH}
use Rattle.fix_interval.proofs.DigitProducts.{product-zero}
use Rattle.fix_interval.proofs.Tables.{both-true, all_to-at}
use Rattle.enclose_exp.proofs.TableLemmas.{decay_low_factors, decay_high_factors, decay_low-at, decay_high-at}
use Rattle.fix_interval.proofs.ExactProducts.{Rounds, exact, spread, exact-same, spread-same, product-over, product-under, IsNear, IsFactor, near-step}
use Rattle.fix_interval.proofs.DigitTables.{rounds-low, rounds-high, factor-holds, entry_is, are_entries, entry-at, six_digit, six_factor, six_place, six-holds}

-- ---- the first eight digits

abbrev eight_digit : ℕ → ℕ → ℕ
eight_digit i k = i / 2 ^ (7 - k) % 2

abbrev eight_factor : List ℕ → ℕ → ℕ → ℕ
eight_factor factors i k = get_or factors k 0

eight_digit-is : (fraction k : ℕ) → k < 8 → eight_digit (fraction / 2 ^ 24) k ≡ digit_at fraction (0 + k)
eight_digit-is fraction k within =
    let shift : 31 - (0 + k) ≡ 24 + (7 - k) = omega arith in
    ap (λ n. n % 2) (div-div-eq-div-mul fraction (2 ^ 24) (2 ^ (7 - k)) ∙ ap (λ d. fraction / d) (sym (ap (λ i. 2 ^ i) shift ∙ pow-add 2 24 (7 - k))))

-- the entry for the first eight digits of a fraction
eight-holds : (factors xs : List ℕ) (factor : ℕ → ℕ) (excess least most : ℕ) (scale : ℕ → ℕ) (fraction : ℕ) → fraction < 2 ^ 32 →
    are_entries eight_digit (eight_factor factors) 8 excess least most scale 0 xs ≡ true → length xs ≡ 256 → ((i : ℕ) → i < 32 → get_or factors i 0 ≡ factor i) →
    IsFactor (2 ^ 64) (one_factor ^ 8) excess least most (scale (get_or xs (fraction / 2 ^ 24) 0))
    (exact one_factor (λ i. digit_at fraction (0 + i)) (λ i. factor (0 + i)) 8) (spread one_factor (λ i. digit_at fraction (0 + i)) (λ i. factor (0 + i)) 8)
eight-holds factors xs factor excess least most scale fraction small all size same =
    let place = fraction / 2 ^ 24 in
    let x = scale (get_or xs place 0) in
    let digit : ℕ → ℕ = λ i. digit_at fraction (0 + i) in
    let later : ℕ → ℕ = λ i. factor (0 + i) in
    let first : 0 + place ≡ place = omega arith in
    let entry = ap (λ k. entry_is eight_digit (eight_factor factors) 8 excess least most k x) (sym first)
    ∙ entry-at eight_digit (eight_factor factors) 8 excess least most scale 0 xs place all (omega (arith, small)) in
    let digits : (k : ℕ) → k < 8 → eight_digit place k ≡ digit k = λ k h. eight_digit-is fraction k h in
    let number : (k : ℕ) → 0 + k ≡ k = λ k. omega arith in
    let factors_are : (k : ℕ) → k < 8 → eight_factor factors place k ≡ later k =
    λ k h. same k (omega arith) ∙ ap factor (sym (number k)) in
    let holds = factor-holds (one_factor ^ 8) excess least most x (exact one_factor (eight_digit place) (eight_factor factors place) 8) (spread one_factor (eight_digit place) (eight_factor factors place) 8) entry in
    let E : ℕ → Type 0 = λ e. IsFactor (2 ^ 64) (one_factor ^ 8) excess least most x e (spread one_factor (eight_digit place) (eight_factor factors place) 8) in
    let S : ℕ → Type 0 = λ s. IsFactor (2 ^ 64) (one_factor ^ 8) excess least most x (exact one_factor digit later 8) s in
    subst S (spread-same one_factor (eight_digit place) digit (eight_factor factors place) later 8 digits factors_are)
    (subst E (exact-same one_factor (eight_digit place) digit (eight_factor factors place) later 8 digits factors_are) holds)

-- ---- the tables

abbrev shrunk_by : ℕ → ℕ
shrunk_by loss = 2 ^ 64 - loss

low_eights : are_entries eight_digit (eight_factor decay_low_factors) 8 1 1 1 shrunk_by 0 EIGHT_LOSSES ≡ true
unfolding exact spread
low_eights = refl

high_eights : are_entries eight_digit (eight_factor decay_high_factors) 8 208 1 1 shrunk_by 0 EIGHT_LOSSES ≡ true
unfolding exact spread
high_eights = refl

low_sixes : are_entries six_digit (six_factor decay_low_factors) 6 1 1 1 shrunk_by 0 SIX_LOSSES ≡ true
unfolding exact spread
low_sixes = refl

high_sixes : are_entries six_digit (six_factor decay_high_factors) 6 208 1 1 shrunk_by 0 SIX_LOSSES ≡ true
unfolding exact spread
high_sixes = refl

-- ---- a step

-- what the code's product by a loss is
shrunk-moves : (q l x : ℕ) → x + l ≡ 2 ^ 64 → ((q - div_ceil (q * l) (2 ^ 64)) * 2 ^ 64 ≤ q * x) × (q * x ≤ (q - div_ceil (q * l) (2 ^ 64)) * 2 ^ 64 + 2 ^ 64)
shrunk-moves q l x parts =
    let whole : q * (x + l) ≡ q * 2 ^ 64 = ap (λ (n : ℕ). q * n) parts in
    let bounds = div_ceil_times (q * l) (2 ^ 64) (omega arith) in
    let most : div_ceil (q * l) (2 ^ 64) < q + 1 = lt_of_mul-lt-mul_right (2 ^ 64) (omega (arith, whole, bounds.1)) in
    (omega (arith, whole, bounds.0, most), omega (arith, whole, bounds.1, most))

-- the digits after a place, by a factor that stands for them
step-near : (times : ℕ → ℕ → ℕ) (up down : ℕ) → Rounds times one_factor up down → (factor : ℕ → ℕ) (start fraction from count excess more q l below above : ℕ) →
    IsFactor (2 ^ 64) (one_factor ^ count) excess 1 1 (2 ^ 64 - l) (exact one_factor (λ i. digit_at fraction (from + i)) (λ i. factor (from + i)) count)
    (spread one_factor (λ i. digit_at fraction (from + i)) (λ i. factor (from + i)) count) →
    0 < one_factor ^ count → l ≤ 2 ^ 64 → q * excess ≤ more * 2 ^ 64 → IsNear (product times factor start fraction from) q below above →
    IsNear (product times factor start fraction (from + count)) (q - div_ceil (q * l) (2 ^ 64)) (below + down * count) (above + up * count + more + 1)
step-near times up down rounds factor start fraction from count excess more q l below above f positive fits small near =
    let moves = shrunk-moves q l (2 ^ 64 - l) (omega arith) in
    near-step (2 ^ 64) (one_factor ^ count) excess 1 1 more (2 ^ 64 - l) (exact one_factor (λ i. digit_at fraction (from + i)) (λ i. factor (from + i)) count)
    (spread one_factor (λ i. digit_at fraction (from + i)) (λ i. factor (from + i)) count) (product times factor start fraction from) q
    (product times factor start fraction (from + count)) (q - div_ceil (q * l) (2 ^ 64)) (up * count) (down * count) below above (below + down * count) (above + up * count)
    (omega arith) positive (omega arith) f (product-over times one_factor up down rounds factor start fraction from count)
    (product-under times one_factor up down rounds factor start fraction from count) moves.0 moves.1 small (omega arith) (omega arith) near

-- what the estimate after the first eight digits and so many blocks of six is
pub record IsDecay (low_start high_start fraction block q : ℕ) : Type 0 where
  pub low : IsNear (product times_low decay_factor_low low_start fraction (8 + 6 * block)) q (8 + 6 * block) (2 + 2 * block)
  pub high : IsNear (product times_high decay_factor_high high_start fraction (8 + 6 * block)) q 0 (24 + 20 * block)
  pub small : q ≤ one_factor

pub first-decay : (low_start high_start fraction l : ℕ) → fraction < 2 ^ 32 → low_start ≤ one_factor → low_start ≤ high_start → high_start ≤ low_start + 2 →
    l ≡ get_or EIGHT_LOSSES (fraction / 2 ^ 24) 0 → IsDecay low_start high_start fraction 0 (low_start - div_ceil (low_start * l) (2 ^ 64))
first-decay low_start high_start fraction l within small below above is =
    let place : fraction / 2 ^ 24 < 256 = omega arith in
    let fits : l ≤ 2 ^ 64 = omega (arith, is, all_to-at (2 ^ 64) EIGHT_LOSSES (fraction / 2 ^ 24) refl place) in
    let digit : ℕ → ℕ = λ i. digit_at fraction (0 + i) in
    let low_later : ℕ → ℕ = λ i. decay_factor_low (0 + i) in
    let high_later : ℕ → ℕ = λ i. decay_factor_high (0 + i) in
    let L : ℕ → Type 0 = λ n. IsFactor (2 ^ 64) (one_factor ^ 8) 1 1 1 (2 ^ 64 - n) (exact one_factor digit low_later 8) (spread one_factor digit low_later 8) in
    let H : ℕ → Type 0 = λ n. IsFactor (2 ^ 64) (one_factor ^ 8) 208 1 1 (2 ^ 64 - n) (exact one_factor digit high_later 8) (spread one_factor digit high_later 8) in
    let low_factor = subst L (sym is) (eight-holds decay_low_factors EIGHT_LOSSES decay_factor_low 1 1 1 shrunk_by fraction within low_eights refl decay_low-at) in
    let high_factor = subst H (sym is) (eight-holds decay_high_factors EIGHT_LOSSES decay_factor_high 208 1 1 shrunk_by fraction within high_eights refl decay_high-at) in
    let low_zero = product-zero times_low decay_factor_low low_start fraction in
    let high_zero = product-zero times_high decay_factor_high high_start fraction in
    record {
      low = step-near times_low 0 1 rounds-low decay_factor_low low_start fraction 0 8 1 1 low_start l 0 0 low_factor (omega arith) fits (omega arith)
          (record { least = omega (arith, low_zero); most = omega (arith, low_zero) });
      high = step-near times_high 1 0 rounds-high decay_factor_high high_start fraction 0 8 208 13 low_start l 0 2 high_factor (omega arith) fits (omega arith)
          (record { least = omega (arith, high_zero); most = omega (arith, high_zero) });
      small = omega arith;
    }

pub next-decay : (low_start high_start fraction block q l : ℕ) → block < 4 → l ≡ get_or SIX_LOSSES (six_place fraction block) 0 →
    IsDecay low_start high_start fraction block q → IsDecay low_start high_start fraction (suc block) (q - div_ceil (q * l) (2 ^ 64))
next-decay low_start high_start fraction block q l within is near =
    let from = 8 + 6 * block in
    let next : from + 6 ≡ 8 + 6 * suc block = omega arith in
    let place : six_place fraction block < 256 = omega arith in
    let small = near.small in
    let fits : l ≤ 2 ^ 64 = omega (arith, is, all_to-at (2 ^ 64) SIX_LOSSES (six_place fraction block) refl place) in
    let digit : ℕ → ℕ = λ i. digit_at fraction (from + i) in
    let low_later : ℕ → ℕ = λ i. decay_factor_low (from + i) in
    let high_later : ℕ → ℕ = λ i. decay_factor_high (from + i) in
    let L : ℕ → Type 0 = λ n. IsFactor (2 ^ 64) (one_factor ^ 6) 1 1 1 (2 ^ 64 - n) (exact one_factor digit low_later 6) (spread one_factor digit low_later 6) in
    let H : ℕ → Type 0 = λ n. IsFactor (2 ^ 64) (one_factor ^ 6) 208 1 1 (2 ^ 64 - n) (exact one_factor digit high_later 6) (spread one_factor digit high_later 6) in
    let low_factor = subst L (sym is) (six-holds decay_low_factors SIX_LOSSES decay_factor_low 1 1 1 shrunk_by fraction block low_sixes refl decay_low-at within) in
    let high_factor = subst H (sym is) (six-holds decay_high_factors SIX_LOSSES decay_factor_high 208 1 1 shrunk_by fraction block high_sixes refl decay_high-at within) in
    let low = step-near times_low 0 1 rounds-low decay_factor_low low_start fraction from 6 1 1 q l (8 + 6 * block) (2 + 2 * block) low_factor (omega arith) fits (omega arith) near.low in
    let high = step-near times_high 1 0 rounds-high decay_factor_high high_start fraction from 6 208 13 q l 0 (24 + 20 * block) high_factor (omega arith) fits (omega arith) near.high in
    let A : ℕ → Type 0 = λ n. IsNear (product times_low decay_factor_low low_start fraction n) (q - div_ceil (q * l) (2 ^ 64)) (8 + 6 * suc block) (2 + 2 * suc block) in
    let B : ℕ → Type 0 = λ n. IsNear (product times_high decay_factor_high high_start fraction n) (q - div_ceil (q * l) (2 ^ 64)) 0 (24 + 20 * suc block) in
    record {
      low = subst A next (record { least = omega (arith, low.least); most = omega (arith, low.most) });
      high = subst B next (record { least = omega (arith, high.least); most = omega (arith, high.most) });
      small = omega arith;
    }

-- ---- the start

-- each entry of the first table is at most that of the second, which is at most 2 more
abbrev are_near : List ℕ → List ℕ → Bool
are_near [] ys = true
are_near (x ∷ xs) [] = false
are_near (x ∷ xs) (y ∷ ys) = (nat_le x y && nat_le y (x + 2)) && are_near xs ys

near-at : (xs ys : List ℕ) (i : ℕ) → are_near xs ys ≡ true → i < length xs → (get_or xs i 0 ≤ get_or ys i 0) × (get_or ys i 0 ≤ get_or xs i 0 + 2)
near-at [] ys i all within = absurd (omega arith)
near-at (x ∷ xs) [] i all within = cc
near-at (x ∷ xs) (y ∷ ys) zero all within =
    let parts = both-true (nat_le x y) (nat_le y (x + 2)) (both-true (nat_le x y && nat_le y (x + 2)) (are_near xs ys) all).0 in
    (leb-true _ _ parts.0, leb-true _ _ parts.1)
near-at (x ∷ xs) (y ∷ ys) (suc i) all within = near-at xs ys i (both-true (nat_le x y && nat_le y (x + 2)) (are_near xs ys) all).1 (omega arith)

pub whole-near : (i : ℕ) → i < 24 → (get_or WHOLE_LOW i 0 ≤ get_or WHOLE_HIGH i 0) × (get_or WHOLE_HIGH i 0 ≤ get_or WHOLE_LOW i 0 + 2)
whole-near i within = near-at WHOLE_LOW WHOLE_HIGH i refl within

pub whole-small : (i : ℕ) → i < 24 → get_or WHOLE_LOW i 0 ≤ one_factor
whole-small i within = all_to-at one_factor WHOLE_LOW i refl within
