-- The tables of several digits hold the values of their definitions, and what a step by one of their entries keeps near.
use Rattle.std.proofs.Common.{◌≡◌, ℕ, zero, suc, ◌+◌, ◌-◌, ◌*◌, ◌/◌, ◌%◌, ◌^◌, ◌<◌, ◌≤◌, Bool, true, nat_le, refl, sym, ap, ◌∙◌, subst, arith, List, [], ◌∷◌, length, get_or}
use Rattle.std.specs.Prelude.{◌&&◌}
use Rattle.std.proofs.lemmas.Bool.{leb-true}
use Rattle.std.proofs.lemmas.Nat.{pow-add}
use Rattle.std.proofs.lemmas.Grind.{div_ceil_times}
use Rattle.std.proofs.Math.Nat.{div-div-eq-div-mul, div-mul-le_self, lt-div-mul-add}
use Rattle.fix_interval.specs.Roots.{one_factor, times_low, times_high, product, digit_at}
use Rattle.fix_interval.specs.Ten.{ten_factor_low, ten_factor_high}
use Rattle.fix_interval.specs.declared.powers_of_ten.growths.TheConstants.{SIX_GROWTHS_LOW, SIX_GROWTHS_HIGH}
use Rattle.fix_interval.proofs.Tables.{both-true}
use Rattle.fix_interval.proofs.TenTables.{ten_low, ten_high, ten_low-at, ten_high-at}
use Rattle.fix_interval.proofs.ExactProducts.{Rounds, exact, spread, exact-same, spread-same, product-over, product-under, IsNear, IsFactor, near-step}

-- ---- the two roundings of a product

pub rounds-low : Rounds times_low one_factor 0 1
rounds-low = record {
  over = λ p x. omega (arith, div-mul-le_self (p * x) one_factor);
  under = λ p x. omega (arith, lt-div-mul-add {a = p * x} {b = one_factor} (omega arith));
}

pub rounds-high : Rounds times_high one_factor 1 0
rounds-high = record {
  over = λ p x. omega (arith, (div_ceil_times (p * x) one_factor (omega arith)).1);
  under = λ p x. omega (arith, (div_ceil_times (p * x) one_factor (omega arith)).0);
}

-- ---- a test over a table

abbrev pub is_factor : ℕ → ℕ → ℕ → ℕ → ℕ → ℕ → ℕ → Bool
is_factor unit excess least most x e s =
    (nat_le (x * unit) (e * 2 ^ 64) && nat_le (e * 2 ^ 64) ((x + excess) * unit)) && (nat_le e s && nat_le (least * s) (most * unit))

pub factor-holds : (unit excess least most x e s : ℕ) → is_factor unit excess least most x e s ≡ true → IsFactor (2 ^ 64) unit excess least most x e s
factor-holds unit excess least most x e s test =
    let halves = both-true (nat_le (x * unit) (e * 2 ^ 64) && nat_le (e * 2 ^ 64) ((x + excess) * unit)) (nat_le e s && nat_le (least * s) (most * unit)) test in
    let first = both-true (nat_le (x * unit) (e * 2 ^ 64)) (nat_le (e * 2 ^ 64) ((x + excess) * unit)) halves.0 in
    let second = both-true (nat_le e s) (nat_le (least * s) (most * unit)) halves.1 in
    record { reached = leb-true _ _ first.0; below_next = leb-true _ _ first.1; spreads = leb-true _ _ second.0; little = leb-true _ _ second.1 }

-- the entry i stands for the factors and digits of the place i, `count` of them
abbrev pub entry_is : (ℕ → ℕ → ℕ) → (ℕ → ℕ → ℕ) → ℕ → ℕ → ℕ → ℕ → ℕ → ℕ → Bool
entry_is digit factor count excess least most i x =
    is_factor (one_factor ^ count) excess least most x (exact one_factor (digit i) (factor i) count) (spread one_factor (digit i) (factor i) count)

-- each entry does, by this scale, where the first place is i
abbrev pub are_entries : (ℕ → ℕ → ℕ) → (ℕ → ℕ → ℕ) → ℕ → ℕ → ℕ → ℕ → (ℕ → ℕ) → ℕ → List ℕ → Bool
are_entries digit factor count excess least most scale i [] = true
are_entries digit factor count excess least most scale i (x ∷ xs) =
    entry_is digit factor count excess least most i (scale x) && are_entries digit factor count excess least most scale (suc i) xs

pub entry-at : (digit factor : ℕ → ℕ → ℕ) (count excess least most : ℕ) (scale : ℕ → ℕ) (first : ℕ) (xs : List ℕ) (i : ℕ) →
    are_entries digit factor count excess least most scale first xs ≡ true → i < length xs →
    entry_is digit factor count excess least most (first + i) (scale (get_or xs i 0)) ≡ true
entry-at digit factor count excess least most scale first [] i all within = absurd (omega arith)
entry-at digit factor count excess least most scale first (x ∷ xs) zero all within =
    let place : first + 0 ≡ first = omega arith in
    ap (λ k. entry_is digit factor count excess least most k (scale x)) place
    ∙ (both-true (entry_is digit factor count excess least most first (scale x)) (are_entries digit factor count excess least most scale (suc first) xs) all).0
entry-at digit factor count excess least most scale first (x ∷ xs) (suc i) all within =
    let place : first + suc i ≡ suc first + i = omega arith in
    ap (λ k. entry_is digit factor count excess least most k (scale (get_or xs i 0))) place
    ∙ entry-at digit factor count excess least most scale (suc first) xs i
    (both-true (entry_is digit factor count excess least most first (scale x)) (are_entries digit factor count excess least most scale (suc first) xs) all).1 (omega arith)

-- ---- the digits of a place

-- a place of a table of six digits: 64 entries for each block of them
abbrev pub six_digit : ℕ → ℕ → ℕ
six_digit i k = i % 64 / 2 ^ (5 - k) % 2

abbrev pub six_factor : List ℕ → ℕ → ℕ → ℕ
six_factor factors i k = get_or factors (8 + 6 * (i / 64) + k) 0

-- the place of the six digits of a fraction in a block
abbrev pub six_place : ℕ → ℕ → ℕ
six_place fraction block = 64 * block + fraction / 2 ^ (18 - 6 * block) % 64

low_six : (m k : ℕ) → k < 6 → m % 64 / 2 ^ (5 - k) % 2 ≡ m / 2 ^ (5 - k) % 2
low_six m zero within = omega arith
low_six m (suc zero) within = omega arith
low_six m (suc (suc zero)) within = omega arith
low_six m (suc (suc (suc zero))) within = omega arith
low_six m (suc (suc (suc (suc zero)))) within = omega arith
low_six m (suc (suc (suc (suc (suc zero))))) within = omega arith
low_six m (suc (suc (suc (suc (suc (suc k)))))) within = absurd (omega arith)

six_digit-is : (fraction block k : ℕ) → block < 4 → k < 6 → six_digit (six_place fraction block) k ≡ digit_at fraction (8 + 6 * block + k)
six_digit-is fraction block k blocks within =
    let m = fraction / 2 ^ (18 - 6 * block) in
    let rest : (64 * block + m % 64) % 64 ≡ m % 64 = omega arith in
    let shift : 31 - (8 + 6 * block + k) ≡ 18 - 6 * block + (5 - k) = omega arith in
    ap (λ n. n / 2 ^ (5 - k) % 2) rest ∙ low_six m k within
    ∙ ap (λ n. n % 2) (div-div-eq-div-mul fraction (2 ^ (18 - 6 * block)) (2 ^ (5 - k)) ∙ ap (λ d. fraction / d) (sym (ap (λ i. 2 ^ i) shift ∙ pow-add 2 (18 - 6 * block) (5 - k))))

six_place-small : (fraction block : ℕ) → block < 4 → six_place fraction block < 256
six_place-small fraction block within = omega arith

-- the entry for the six digits of a fraction in a block
pub six-holds : (factors xs : List ℕ) (factor : ℕ → ℕ) (excess least most : ℕ) (scale : ℕ → ℕ) (fraction block : ℕ) →
    are_entries six_digit (six_factor factors) 6 excess least most scale 0 xs ≡ true → length xs ≡ 256 → ((i : ℕ) → i < 32 → get_or factors i 0 ≡ factor i) → block < 4 →
    IsFactor (2 ^ 64) (one_factor ^ 6) excess least most (scale (get_or xs (six_place fraction block) 0))
    (exact one_factor (λ i. digit_at fraction (8 + 6 * block + i)) (λ i. factor (8 + 6 * block + i)) 6)
    (spread one_factor (λ i. digit_at fraction (8 + 6 * block + i)) (λ i. factor (8 + 6 * block + i)) 6)
six-holds factors xs factor excess least most scale fraction block all size same within =
    let place = six_place fraction block in
    let x = scale (get_or xs place 0) in
    let digit : ℕ → ℕ = λ i. digit_at fraction (8 + 6 * block + i) in
    let later : ℕ → ℕ = λ i. factor (8 + 6 * block + i) in
    let first : 0 + place ≡ place = omega arith in
    let entry = ap (λ k. entry_is six_digit (six_factor factors) 6 excess least most k x) (sym first)
    ∙ entry-at six_digit (six_factor factors) 6 excess least most scale 0 xs place all (omega (arith, six_place-small fraction block within)) in
    let digits : (k : ℕ) → k < 6 → six_digit place k ≡ digit k = λ k h. six_digit-is fraction block k within h in
    let number : place / 64 ≡ block = omega arith in
    let factors_are : (k : ℕ) → k < 6 → six_factor factors place k ≡ later k =
    λ k h. ap (λ b. get_or factors (8 + 6 * b + k) 0) number ∙ same (8 + 6 * block + k) (omega arith) in
    let holds = factor-holds (one_factor ^ 6) excess least most x (exact one_factor (six_digit place) (six_factor factors place) 6) (spread one_factor (six_digit place) (six_factor factors place) 6) entry in
    let E : ℕ → Type 0 = λ e. IsFactor (2 ^ 64) (one_factor ^ 6) excess least most x e (spread one_factor (six_digit place) (six_factor factors place) 6) in
    let S : ℕ → Type 0 = λ s. IsFactor (2 ^ 64) (one_factor ^ 6) excess least most x (exact one_factor digit later 6) s in
    subst S (spread-same one_factor (six_digit place) digit (six_factor factors place) later 6 digits factors_are)
    (subst E (exact-same one_factor (six_digit place) digit (six_factor factors place) later 6 digits factors_are) holds)

-- ---- the tables of ten

abbrev pub grown_by : ℕ → ℕ
grown_by growth = 2 ^ 64 + growth

low_growths : are_entries six_digit (six_factor ten_low) 6 1 64 65 grown_by 0 SIX_GROWTHS_LOW ≡ true
unfolding exact spread
low_growths = refl

high_growths : are_entries six_digit (six_factor ten_high) 6 1 64 65 grown_by 0 SIX_GROWTHS_HIGH ≡ true
unfolding exact spread
high_growths = refl

-- what the code's product by a growth is
grown-down : (q g : ℕ) → (q + q * g / 2 ^ 64) * 2 ^ 64 ≤ q * (2 ^ 64 + g)
grown-down q g = omega (arith, div-mul-le_self (q * g) (2 ^ 64))

grown-up : (q g : ℕ) → q * (2 ^ 64 + g) ≤ (q + q * g / 2 ^ 64) * 2 ^ 64 + 2 ^ 64
grown-up q g = omega (arith, lt-div-mul-add {a = q * g} {b = 2 ^ 64} (omega arith))

unit-positive : 0 < one_factor ^ 6
unit-positive = omega arith

pub low-near : (fraction block q g : ℕ) → block < 4 → q < 2 ^ 64 → g ≡ get_or SIX_GROWTHS_LOW (six_place fraction block) 0 →
    IsNear (product times_low ten_factor_low one_factor fraction (8 + 6 * block)) q (7 * block) (3 * block) →
    IsNear (product times_low ten_factor_low one_factor fraction (8 + 6 * suc block)) (q + q * g / 2 ^ 64) (7 * suc block) (3 * suc block)
low-near fraction block q g within small is near =
    let from = 8 + 6 * block in
    let next : from + 6 ≡ 8 + 6 * suc block = omega arith in
    let digit : ℕ → ℕ = λ i. digit_at fraction (from + i) in
    let later : ℕ → ℕ = λ i. ten_factor_low (from + i) in
    let factor = six-holds ten_low SIX_GROWTHS_LOW ten_factor_low 1 64 65 grown_by fraction block low_growths refl ten_low-at within in
    let G : ℕ → Type 0 = λ n. IsFactor (2 ^ 64) (one_factor ^ 6) 1 64 65 (2 ^ 64 + n) (exact one_factor digit later 6) (spread one_factor digit later 6) in
    let over = product-over times_low one_factor 0 1 rounds-low ten_factor_low one_factor fraction from 6 in
    let under = product-under times_low one_factor 0 1 rounds-low ten_factor_low one_factor fraction from 6 in
    let moved = near-step (2 ^ 64) (one_factor ^ 6) 1 64 65 1 (2 ^ 64 + g) (exact one_factor digit later 6) (spread one_factor digit later 6)
    (product times_low ten_factor_low one_factor fraction from) q (product times_low ten_factor_low one_factor fraction (from + 6)) (q + q * g / 2 ^ 64)
    0 6 (7 * block) (3 * block) (7 * suc block) (3 * block + 1) (omega arith) unit-positive (omega arith) (subst G (sym is) factor)
    over under (grown-down q g) (grown-up q g) (omega arith) (omega arith) (omega arith) near in
    let P : ℕ → Type 0 = λ n. IsNear (product times_low ten_factor_low one_factor fraction n) (q + q * g / 2 ^ 64) (7 * suc block) (3 * suc block) in
    subst P next (record { least = moved.least; most = omega (arith, moved.most) })

pub high-near : (fraction block q g : ℕ) → block < 4 → q < 2 ^ 64 → g ≡ get_or SIX_GROWTHS_HIGH (six_place fraction block) 0 →
    IsNear (product times_high ten_factor_high one_factor fraction (8 + 6 * block)) q 0 (9 * block) →
    IsNear (product times_high ten_factor_high one_factor fraction (8 + 6 * suc block)) (q + q * g / 2 ^ 64) 0 (9 * suc block)
high-near fraction block q g within small is near =
    let from = 8 + 6 * block in
    let next : from + 6 ≡ 8 + 6 * suc block = omega arith in
    let digit : ℕ → ℕ = λ i. digit_at fraction (from + i) in
    let later : ℕ → ℕ = λ i. ten_factor_high (from + i) in
    let factor = six-holds ten_high SIX_GROWTHS_HIGH ten_factor_high 1 64 65 grown_by fraction block high_growths refl ten_high-at within in
    let G : ℕ → Type 0 = λ n. IsFactor (2 ^ 64) (one_factor ^ 6) 1 64 65 (2 ^ 64 + n) (exact one_factor digit later 6) (spread one_factor digit later 6) in
    let over = product-over times_high one_factor 1 0 rounds-high ten_factor_high one_factor fraction from 6 in
    let under = product-under times_high one_factor 1 0 rounds-high ten_factor_high one_factor fraction from 6 in
    let moved = near-step (2 ^ 64) (one_factor ^ 6) 1 64 65 1 (2 ^ 64 + g) (exact one_factor digit later 6) (spread one_factor digit later 6)
    (product times_high ten_factor_high one_factor fraction from) q (product times_high ten_factor_high one_factor fraction (from + 6)) (q + q * g / 2 ^ 64)
    6 0 0 (9 * block) 0 (9 * block + 7) (omega arith) unit-positive (omega arith) (subst G (sym is) factor)
    over under (grown-down q g) (grown-up q g) (omega arith) (omega arith) (omega arith) near in
    let P : ℕ → Type 0 = λ n. IsNear (product times_high ten_factor_high one_factor fraction n) (q + q * g / 2 ^ 64) 0 (9 * suc block) in
    subst P next (record { least = moved.least; most = omega (arith, moved.most) })
