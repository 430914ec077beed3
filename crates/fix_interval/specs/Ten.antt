-- Ten to the power of an interval. ISO 9613-2 adds levels by it, in equation (5).
use Rattle.std.specs.Prelude.{ℕ, suc, ◌*◌, ◌/◌, ◌%◌, ◌^◌, if◌then◌else◌, ℤ, pos, neg_ℤ, ◌+ℤ◌, int_le, int_lt, unsigned_abs, Option, Some, None, option_and_then}
use Rattle.std.specs.Int.{div_ceil}
use Rattle.std.specs.Option.{option_map_or}
use Rattle.fix_interval.specs.Units.{unit}
use Rattle.fix_interval.specs.Interval.{Interval}
use Rattle.fix_interval.specs.Roots.{one_factor, times_low, times_high, root_low, root_high, product}

-- the factor of the digit at a place: 10 to the power of 1/2, 1/4 and so on
unfoldable pub ten_factor_low : ℕ → ℕ
ten_factor_low place = root_low (10 * one_factor) (suc place)

unfoldable pub ten_factor_high : ℕ → ℕ
ten_factor_high place = root_high (10 * one_factor) (suc place)

-- 10 to the power of a fraction, in units of 2^-60
unfoldable pub fraction_low : ℕ → ℕ
fraction_low fraction = product times_low ten_factor_low one_factor fraction 32

unfoldable pub fraction_high : ℕ → ℕ
fraction_high fraction = product times_high ten_factor_high one_factor fraction 32

-- 10 to the power s - 20, where s is in units of 2^-32: so that exponents are not negative they count from -20
abbrev pub raised_low : ℕ → ℕ
raised_low s = fraction_low (s % unit) * 10 ^ (s / unit) / (10 ^ 20 * 2 ^ 28)

abbrev pub raised_high : ℕ → ℕ
raised_high s = div_ceil (fraction_high (s % unit) * 10 ^ (s / unit)) (10 ^ 20 * 2 ^ 28)

-- 10 to the power n rounded down. From 20 on it stays at the power 20, and below -19 it is 0
unfoldable pub ten_low : ℤ → ℕ
ten_low n =
    if int_le (pos (20 * unit)) n then 10 ^ 20 * unit
    else (if int_lt n (neg_ℤ (pos (19 * unit))) then 0 else raised_low (unsigned_abs (n +ℤ pos (20 * unit))))

-- 10 to the power n rounded up. From 20 on it is unbounded, and below -19 it is the least end above 0
unfoldable pub ten_high : ℤ → Option ℤ
ten_high n =
    if int_le (pos (20 * unit)) n then None
    else (if int_lt n (neg_ℤ (pos (19 * unit))) then Some (pos 1)
    else Some (pos (raised_high (unsigned_abs (n +ℤ pos (20 * unit))))))

-- ten to the power of an interval, end by end; no power is below 0
unfoldable pub ten_of : Interval → Interval
ten_of i = record {
  lo = Some (pos (option_map_or ten_low i.lo 0));
  hi = option_and_then ten_high i.hi;
}
