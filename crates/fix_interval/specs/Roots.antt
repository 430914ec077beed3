-- Powers with a fraction as their exponent. The square root of a number is its power 1/2, the root of that
-- its power 1/4, and so on: so a power is the product of those roots whose binary digit in the exponent is 1.
use Rattle.std.specs.Prelude.{ℕ, zero, suc, ◌-◌, ◌*◌, ◌/◌, ◌%◌, ◌^◌, ◌==◌, if◌then◌else◌}
use Rattle.std.specs.Int.{div_ceil}
use Rattle.fix_interval.specs.Round.{floor_root, ceil_root}

-- the number 1 as factors count it
abbrev pub one_factor : ℕ
one_factor = 2 ^ 60

-- two factors multiplied, rounded down and rounded up
abbrev pub times_low : ℕ → ℕ → ℕ
times_low p q = p * q / one_factor

abbrev pub times_high : ℕ → ℕ → ℕ
times_high p q = div_ceil (p * q) one_factor

-- a factor's power with the exponent 2^-i: as many square roots, each rounded down or each rounded up
unfoldable pub root_low : ℕ → ℕ → ℕ
root_low factor zero = factor
root_low factor (suc i) = floor_root (root_low factor i * one_factor)

unfoldable pub root_high : ℕ → ℕ → ℕ
root_high factor zero = factor
root_high factor (suc i) = ceil_root (root_high factor i * one_factor)

-- the binary digit of a number of 2^-32nds at a place, from the place 0 of the highest to 31
abbrev pub digit_at : ℕ → ℕ → ℕ
digit_at fraction place = fraction / 2 ^ (31 - place) % 2

-- The start times the factor of each of the first places whose digit is 1. `times` rounds each product
unfoldable pub product : (ℕ → ℕ → ℕ) → (ℕ → ℕ) → ℕ → ℕ → ℕ → ℕ
product times factor start fraction zero = start
product times factor start fraction (suc place) =
    let before = product times factor start fraction place in
    if digit_at fraction place == 1 then times before (factor place) else before
