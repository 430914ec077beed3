-- Exponents of ten as the code counts them, from -20 on.
use Rattle.std.specs.Prelude.{ℕ, ◌*◌, ◌^◌, nat_le, nat_lt, if◌then◌else◌, ℤ, pos, neg_ℤ, ◌+ℤ◌, unsigned_abs, Option, Some, None}
use Rattle.std.specs.Int.{int_min, int_max}
use Rattle.fix_interval.specs.Ten.{raised_low, raised_high}

-- an exponent above -20, kept within -20 and 20
abbrev pub counted : ℤ → ℕ
counted n = unsigned_abs (int_min (int_max n (neg_ℤ (pos (20 * 2 ^ 32)))) (pos (20 * 2 ^ 32)) +ℤ pos (20 * 2 ^ 32))

-- the power of an exponent so counted, rounded down: from 20 on that of 20, and below -19 it is 0
unfoldable pub low_value : ℕ → ℕ
low_value s =
    if nat_le (40 * 2 ^ 32) s then 10 ^ 20 * 2 ^ 32 else (if nat_lt s (2 ^ 32) then 0 else raised_low s)

-- rounded up: from 20 on it is unbounded, and below -19 it is the least end above 0
unfoldable pub high_value : ℕ → Option ℤ
high_value s =
    if nat_le (40 * 2 ^ 32) s then None else (if nat_lt s (2 ^ 32) then Some (pos 1) else Some (pos (raised_high s)))
