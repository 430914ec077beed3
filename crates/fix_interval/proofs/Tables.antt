-- Tests over tables.
use Rattle.std.proofs.Common.{◌≡◌, ℕ, zero, suc, ◌^◌, ◌<◌, ◌≤◌, ◌%◌, ◌==◌, Bool, true, false, nat_le, nat_lt, refl, arith, List, [], ◌∷◌, length, get_or}
use Rattle.std.specs.Prelude.{◌&&◌}
use Rattle.std.proofs.lemmas.Bool.{false≢true, eqb-true, leb-true}
use borrow.Author.Tests.{ltb-true}

pub both-true : (a b : Bool) → (a && b) ≡ true → (a ≡ true) × (b ≡ true)
both-true true b h = (refl, h)
both-true false b h = absurd (false≢true h)

-- each entry is at least, or at most, this
abbrev pub all_from : ℕ → List ℕ → Bool
all_from least [] = true
all_from least (x ∷ xs) = nat_le least x && all_from least xs

abbrev pub all_to : ℕ → List ℕ → Bool
all_to most [] = true
all_to most (x ∷ xs) = nat_le x most && all_to most xs

pub all_from-at : (least : ℕ) (xs : List ℕ) (i : ℕ) → all_from least xs ≡ true → i < length xs → least ≤ get_or xs i 0
all_from-at least [] i all within = absurd (omega arith)
all_from-at least (x ∷ xs) zero all within = leb-true least x (both-true (nat_le least x) (all_from least xs) all).0
all_from-at least (x ∷ xs) (suc i) all within = all_from-at least xs i (both-true (nat_le least x) (all_from least xs) all).1 (omega arith)

pub all_to-at : (most : ℕ) (xs : List ℕ) (i : ℕ) → all_to most xs ≡ true → i < length xs → get_or xs i 0 ≤ most
all_to-at most [] i all within = absurd (omega arith)
all_to-at most (x ∷ xs) zero all within = leb-true x most (both-true (nat_le x most) (all_to most xs) all).0
all_to-at most (x ∷ xs) (suc i) all within = all_to-at most xs i (both-true (nat_le x most) (all_to most xs) all).1 (omega arith)

-- each entry is sixteen of something, and less than 2^64
abbrev pub are_sixteens : List ℕ → Bool
are_sixteens [] = true
are_sixteens (x ∷ xs) = (x % 16 == 0 && nat_lt x (2 ^ 64)) && are_sixteens xs

pub sixteens-at : (xs : List ℕ) (i : ℕ) → are_sixteens xs ≡ true → i < length xs → (get_or xs i 0 % 16 ≡ 0) × (get_or xs i 0 < 2 ^ 64)
sixteens-at [] i all within = absurd (omega arith)
sixteens-at (x ∷ xs) zero all within =
    let parts = both-true (x % 16 == 0) (nat_lt x (2 ^ 64)) (both-true (x % 16 == 0 && nat_lt x (2 ^ 64)) (are_sixteens xs) all).0 in
    (eqb-true (x % 16) 0 parts.0, ltb-true x (2 ^ 64) parts.1)
sixteens-at (x ∷ xs) (suc i) all within =
    sixteens-at xs i (both-true (x % 16 == 0 && nat_lt x (2 ^ 64)) (are_sixteens xs) all).1 (omega arith)
