-- Tables of square roots, each the root of the one before.
use Rattle.std.proofs.Common.{◌≡◌, ℕ, zero, suc, ◌+◌, ◌-◌, ◌*◌, ◌<◌, ◌≤◌, Bool, true, nat_le, nat_lt, sym, ap, ◌∙◌, arith, List, [], ◌∷◌, length, get_or}
use Rattle.std.specs.Prelude.{◌&&◌}
use Rattle.std.proofs.lemmas.Bool.{leb-true}
use borrow.Author.Tests.{ltb-true}
use Rattle.fix_interval.specs.Round.{ceil_root}
use Rattle.fix_interval.specs.Roots.{one_factor, root_low, root_high}
use Rattle.fix_interval.proofs.Rooting.{floor_root-unique, ceil_root-next}
use Rattle.fix_interval.proofs.Tables.{both-true}

-- a number is the root, rounded up, of what lies above the square before its own and up to its own
ceil_root-is : (n root : ℕ) → n ≤ root * root → (root - 1) * (root - 1) < n → ceil_root n ≡ root
ceil_root-is n zero reached below = absurd (omega arith)
ceil_root-is n (suc less) reached below =
    let one : suc less - 1 ≡ less = omega arith in
    let under : less * less < n = rw one at below in
    omega (arith, ceil_root-next n less under (omega (arith, reached)))

-- each entry is the root of the one before, the first that of `before`
abbrev pub are_roots_low : ℕ → List ℕ → Bool
are_roots_low before [] = true
are_roots_low before (x ∷ xs) =
    (nat_le (x * x) (before * one_factor) && nat_lt (before * one_factor) ((x + 1) * (x + 1))) && are_roots_low x xs

abbrev pub are_roots_high : ℕ → List ℕ → Bool
are_roots_high before [] = true
are_roots_high before (x ∷ xs) =
    (nat_le (before * one_factor) (x * x) && nat_lt ((x - 1) * (x - 1)) (before * one_factor)) && are_roots_high x xs

first_low : (factor j x : ℕ) (xs : List ℕ) → are_roots_low (root_low factor j) (x ∷ xs) ≡ true → (root_low factor (suc j) ≡ x) × (are_roots_low x xs ≡ true)
unfolding root_low
first_low factor j x xs all =
    let b = root_low factor j in
    let parts = both-true (nat_le (x * x) (b * one_factor) && nat_lt (b * one_factor) ((x + 1) * (x + 1))) (are_roots_low x xs) all in
    let tests = both-true (nat_le (x * x) (b * one_factor)) (nat_lt (b * one_factor) ((x + 1) * (x + 1))) parts.0 in
    (floor_root-unique (b * one_factor) x (leb-true _ _ tests.0) (ltb-true _ _ tests.1), parts.1)

pub roots_low-at : (factor j : ℕ) (xs : List ℕ) (i : ℕ) → are_roots_low (root_low factor j) xs ≡ true → i < length xs → get_or xs i 0 ≡ root_low factor (suc (j + i))
roots_low-at factor j [] i all within = absurd (omega arith)
roots_low-at factor j (x ∷ xs) zero all within =
    sym (first_low factor j x xs all).0 ∙ ap (λ k. root_low factor k) (omega arith)
roots_low-at factor j (x ∷ xs) (suc i) all within =
    let first = first_low factor j x xs all in
    roots_low-at factor (suc j) xs i (ap (λ y. are_roots_low y xs) first.0 ∙ first.1) (omega arith)
    ∙ ap (λ k. root_low factor k) (omega arith)

first_high : (factor j x : ℕ) (xs : List ℕ) → are_roots_high (root_high factor j) (x ∷ xs) ≡ true → (root_high factor (suc j) ≡ x) × (are_roots_high x xs ≡ true)
unfolding root_high
first_high factor j x xs all =
    let b = root_high factor j in
    let parts = both-true (nat_le (b * one_factor) (x * x) && nat_lt ((x - 1) * (x - 1)) (b * one_factor)) (are_roots_high x xs) all in
    let tests = both-true (nat_le (b * one_factor) (x * x)) (nat_lt ((x - 1) * (x - 1)) (b * one_factor)) parts.0 in
    (ceil_root-is (b * one_factor) x (leb-true _ _ tests.0) (ltb-true _ _ tests.1), parts.1)

pub roots_high-at : (factor j : ℕ) (xs : List ℕ) (i : ℕ) → are_roots_high (root_high factor j) xs ≡ true → i < length xs → get_or xs i 0 ≡ root_high factor (suc (j + i))
roots_high-at factor j [] i all within = absurd (omega arith)
roots_high-at factor j (x ∷ xs) zero all within =
    sym (first_high factor j x xs all).0 ∙ ap (λ k. root_high factor k) (omega arith)
roots_high-at factor j (x ∷ xs) (suc i) all within =
    let first = first_high factor j x xs all in
    roots_high-at factor (suc j) xs i (ap (λ y. are_roots_high y xs) first.0 ∙ first.1) (omega arith)
    ∙ ap (λ k. root_high factor k) (omega arith)
