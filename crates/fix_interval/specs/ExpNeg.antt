-- e to the power of the negative of an interval, as ISO 9613-2 takes it in Table 3 and in equation (18).
use Rattle.std.specs.Prelude.{ℕ, zero, suc, ◌*◌, ◌/◌, ◌%◌, ◌^◌, nat_le, if◌then◌else◌, pos, unsigned_abs, Some}
use Rattle.std.specs.Int.{div_ceil}
use Rattle.std.specs.Option.{option_map, option_map_or}
use Rattle.fix_interval.specs.Units.{unit}
use Rattle.fix_interval.specs.Interval.{Interval, All}
use Rattle.fix_interval.specs.Lg.{is_at_least}
use Rattle.fix_interval.specs.Powers.{factorial_20, exponential_sum}
use Rattle.fix_interval.specs.Roots.{one_factor, times_low, times_high, root_low, root_high, product}

-- 1/e rounded down and rounded up, in units of 2^-60
unfoldable pub inverse_e_low : ℕ
inverse_e_low = one_factor * factorial_20 / suc exponential_sum

unfoldable pub inverse_e_high : ℕ
inverse_e_high = div_ceil (one_factor * factorial_20) exponential_sum

-- its powers with a whole exponent
unfoldable pub whole_decay_low : ℕ → ℕ
whole_decay_low zero = one_factor
whole_decay_low (suc k) = times_low (whole_decay_low k) inverse_e_low

unfoldable pub whole_decay_high : ℕ → ℕ
whole_decay_high zero = one_factor
whole_decay_high (suc k) = times_high (whole_decay_high k) inverse_e_high

-- the factor of the digit at a place: 1/e to the power of 1/2, 1/4 and so on
unfoldable pub decay_factor_low : ℕ → ℕ
decay_factor_low place = root_low inverse_e_low (suc place)

unfoldable pub decay_factor_high : ℕ → ℕ
decay_factor_high place = root_high inverse_e_high (suc place)

-- 1/e to the power n, the whole part first and then the digits, in units of 2^-60
unfoldable pub decay_low : ℕ → ℕ
decay_low n = product times_low decay_factor_low (whole_decay_low (n / unit)) (n % unit) 32

unfoldable pub decay_high : ℕ → ℕ
decay_high n = product times_high decay_factor_high (whole_decay_high (n / unit)) (n % unit) 32

-- 1/e to the power n, rounded down and rounded up; from 23 on it is less than the least end above 0
unfoldable pub exp_neg_low : ℕ → ℕ
exp_neg_low n = if nat_le (23 * unit) n then 0 else decay_low n / 2 ^ 28

unfoldable pub exp_neg_high : ℕ → ℕ
exp_neg_high n = if nat_le (23 * unit) n then 1 else div_ceil (decay_high n) (2 ^ 28)

-- of an interval that is not below 0; the low end of the one is the high end of the other
unfoldable pub exp_neg_of : Interval → Interval
exp_neg_of i =
    if is_at_least (pos 0) i.lo
    then record {
      lo = Some (pos (option_map_or (λ z. exp_neg_low (unsigned_abs z)) i.hi 0));
      hi = option_map (λ z. pos (exp_neg_high (unsigned_abs z))) i.lo;
    }
    else All
