-- The tables of decays hold the values of their definitions, and the products of their factors fit 64 bits.
use Rattle.std.proofs.Common.{◌≡◌, ℕ, zero, suc, ◌+◌, ◌*◌, ◌^◌, ◌<◌, ◌≤◌, ◌-◌, ◌/◌, ◌==◌, Bool, true, refl, sym, ap, ◌∙◌, arith, List, [], ◌∷◌, map, length, get_or, drop, lit≤, zero-add}
use Rattle.std.specs.Prelude.{◌&&◌}
use Rattle.std.proofs.lemmas.Bool.{eqb-true}
use Rattle.std.proofs.lemmas.List.{get_or-map}
use Rattle.std.proofs.Math.Nat.{mul-le-mul_left}
use Rattle.fix_interval.specs.Roots.{one_factor, times_low, times_high, root_low, root_high, product}
use Rattle.fix_interval.specs.ExpNeg.{inverse_e_low, inverse_e_high, whole_decay_low, whole_decay_high, decay_factor_low, decay_factor_high}
use Rattle.fix_interval.specs.Powers.{factorial_20, exponential_sum}
use Rattle.fix_interval.proofs.Ceilings.{quotient_up-le}
use Rattle.fix_interval.proofs.DigitProducts.{product-le_start}
use Rattle.fix_interval.proofs.RootTables.{roots_low-at, roots_high-at}
use Rattle.fix_interval.proofs.Tables.{both-true, all_to-at, are_sixteens, sixteens-at}
use Rattle.enclose_exp.specs.declared.tables.TheConstants.{LOSSES_LOW, LOSSES_HIGH, WHOLE_LOW, WHOLE_HIGH}

shrinks-high : (p x : ℕ) → x ≤ one_factor → times_high p x ≤ p
shrinks-high p x small = quotient_up-le (p * x) p one_factor (omega arith) (mul-le-mul_left p small)

-- ---- the tables

-- the factor below 1 with this loss
abbrev pub shrunk : ℕ → ℕ
shrunk loss = (2 ^ 64 - loss) / 16

abbrev pub decay_low_factors : List ℕ
decay_low_factors = map shrunk LOSSES_LOW

abbrev pub decay_high_factors : List ℕ
decay_high_factors = map shrunk LOSSES_HIGH

pub decay_low-at : (i : ℕ) → i < 32 → get_or decay_low_factors i 0 ≡ decay_factor_low i
unfolding root_low decay_factor_low inverse_e_low factorial_20 exponential_sum
decay_low-at i within =
    roots_low-at inverse_e_low 0 decay_low_factors i refl within ∙ ap (λ k. root_low inverse_e_low (suc k)) (zero-add i)

pub decay_high-at : (i : ℕ) → i < 32 → get_or decay_high_factors i 0 ≡ decay_factor_high i
unfolding root_high decay_factor_high inverse_e_high factorial_20 exponential_sum
decay_high-at i within =
    roots_high-at inverse_e_high 0 decay_high_factors i refl within ∙ ap (λ k. root_high inverse_e_high (suc k)) (zero-add i)

-- ---- the distances of the factors from 1

loss-is : (losses : List ℕ) (place : ℕ) → are_sixteens losses ≡ true → place < length losses →
    16 * get_or (map shrunk losses) place 0 + get_or losses place 0 ≡ 2 ^ 64
loss-is losses place all within =
    let mapped = get_or-map shrunk losses place 0 0 within in
    let whole = sixteens-at losses place all within in
    omega (arith, mapped, whole.0, whole.1)

pub decay_low-loss : (place : ℕ) → place < 32 → 16 * decay_factor_low place + get_or LOSSES_LOW place 0 ≡ 2 ^ 64
decay_low-loss place within = rw (← decay_low-at place within) (loss-is LOSSES_LOW place refl within)

pub decay_high-loss : (place : ℕ) → place < 32 → 16 * decay_factor_high place + get_or LOSSES_HIGH place 0 ≡ 2 ^ 64
decay_high-loss place within = rw (← decay_high-at place within) (loss-is LOSSES_HIGH place refl within)

-- ---- whole powers of 1/e

-- each entry is the one before, the first of them `before`, times the factor
abbrev are_multiples : (ℕ → ℕ → ℕ) → ℕ → ℕ → List ℕ → Bool
are_multiples times factor before [] = true
are_multiples times factor before (x ∷ xs) = (x == times before factor) && are_multiples times factor x xs

multiples-at : (times : ℕ → ℕ → ℕ) (factor : ℕ) (value : ℕ → ℕ) → ((k : ℕ) → value (suc k) ≡ times (value k) factor) → (j : ℕ) (xs : List ℕ) (i : ℕ) →
    are_multiples times factor (value j) xs ≡ true → i < length xs → get_or xs i 0 ≡ value (suc (j + i))
multiples-at times factor value step j [] i all within = absurd (omega arith)
multiples-at times factor value step j (x ∷ xs) zero all within =
    eqb-true x (times (value j) factor) (both-true (x == times (value j) factor) (are_multiples times factor x xs) all).0
    ∙ sym (step j) ∙ ap (λ k. value (suc k)) (omega arith)
multiples-at times factor value step j (x ∷ xs) (suc i) all within =
    let parts = both-true (x == times (value j) factor) (are_multiples times factor x xs) all in
    let first : x ≡ value (suc j) = eqb-true x (times (value j) factor) parts.0 ∙ sym (step j) in
    multiples-at times factor value step (suc j) xs i (ap (λ y. are_multiples times factor y xs) (sym first) ∙ parts.1) (omega arith)
    ∙ ap (λ k. value (suc k)) (omega arith)

pub whole_low-at : (i : ℕ) → i < 24 → get_or WHOLE_LOW i 0 ≡ whole_decay_low i
unfolding whole_decay_low inverse_e_low factorial_20 exponential_sum
whole_low-at zero within = refl
whole_low-at (suc i) within =
    multiples-at times_low inverse_e_low whole_decay_low (λ k. refl) 0 (drop 1 WHOLE_LOW) i refl (omega arith) ∙ ap (λ k. whole_decay_low (suc k)) (zero-add i)

pub whole_high-at : (i : ℕ) → i < 24 → get_or WHOLE_HIGH i 0 ≡ whole_decay_high i
unfolding whole_decay_high inverse_e_high factorial_20 exponential_sum
whole_high-at zero within = refl
whole_high-at (suc i) within =
    multiples-at times_high inverse_e_high whole_decay_high (λ k. refl) 0 (drop 1 WHOLE_HIGH) i refl (omega arith) ∙ ap (λ k. whole_decay_high (suc k)) (zero-add i)

-- a decay is at most 1
inverse_e_high-le : inverse_e_high ≤ one_factor
unfolding inverse_e_high factorial_20 exponential_sum
inverse_e_high-le = lit≤ tt

whole_high-le : (k : ℕ) → whole_decay_high k ≤ one_factor
unfolding whole_decay_high
whole_high-le zero = omega arith
whole_high-le (suc k) = omega (arith, whole_high-le k, shrinks-high (whole_decay_high k) inverse_e_high inverse_e_high-le)

pub decay_high-le : (k fraction : ℕ) → product times_high decay_factor_high (whole_decay_high k) fraction 32 ≤ one_factor
decay_high-le k fraction =
    let most = product-le_start times_high decay_factor_high (whole_decay_high k) fraction 32
    (λ p i h. shrinks-high p (decay_factor_high i) (omega (arith, decay_high-loss i h))) in
    omega (arith, most, whole_high-le k)

pub whole_low-small : (i : ℕ) → i < 24 → get_or WHOLE_LOW i 0 < 2 ^ 64
whole_low-small i within = omega (arith, all_to-at one_factor WHOLE_LOW i refl within)

pub whole_high-small : (i : ℕ) → i < 24 → get_or WHOLE_HIGH i 0 < 2 ^ 64
whole_high-small i within = omega (arith, all_to-at one_factor WHOLE_HIGH i refl within)
