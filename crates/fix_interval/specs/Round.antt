-- Rounding of exact quotients and roots, down and up.
use Rattle.std.specs.Prelude.{ℕ, zero, suc, ◌+◌, ◌*◌, ℤ, pos, negsuc, neg_ℤ, unsigned_abs, ◌==◌, nat_le, if◌then◌else◌}
use Rattle.std.specs.Int.{int_div_euclid}

-- the greatest whole number that is not above z / d, where d is above 0
abbrev pub floor_of : ℤ → ℕ → ℤ
floor_of z d = int_div_euclid z (pos d)

-- the least whole number that is not below z / d, where d is above 0
abbrev pub ceil_of : ℤ → ℕ → ℤ
ceil_of z d = neg_ℤ (floor_of (neg_ℤ z) d)

-- x / y is this number over the absolute value of y
abbrev pub numerator_of : ℤ → ℤ → ℤ
numerator_of x (pos d) = x
numerator_of x (negsuc d) = neg_ℤ x

-- x / y rounded down and up, where y isn't 0
abbrev pub floor_quotient : ℤ → ℤ → ℤ
floor_quotient x y = floor_of (numerator_of x y) (unsigned_abs y)

abbrev pub ceil_quotient : ℤ → ℤ → ℤ
ceil_quotient x y = ceil_of (numerator_of x y) (unsigned_abs y)

-- the square root rounded down: it grows by one wherever n reaches the next square
unfoldable pub floor_root : ℕ → ℕ
floor_root zero = 0
floor_root (suc n) =
    let root = floor_root n in if nat_le ((root + 1) * (root + 1)) (suc n) then root + 1 else root

-- the square root rounded up
unfoldable pub ceil_root : ℕ → ℕ
ceil_root n = let root = floor_root n in if root * root == n then root else root + 1
