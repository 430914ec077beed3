-- The common logarithm of an interval. ISO 9613-2 takes ten or twenty times it wherever a level is made of a
-- ratio, as in equations (5), (7) and (14). A logarithm is its decade and then binary digits: the square of a
-- number has twice its logarithm, so a digit is 1 where the square reaches ten.
use Rattle.std.specs.Prelude.{ℕ, zero, suc, ◌+◌, ◌*◌, ◌/◌, ◌^◌, ◌≤◌, nat_le, nat_lt, ◌==◌, Bool, if◌then◌else◌, ℤ, pos, negsuc, ◌-ℤ◌, int_le, unsigned_abs, Option, Some, None, false}
use Rattle.std.specs.Int.{div_ceil}
use Rattle.std.specs.Option.{option_map}
use Rattle.fix_interval.specs.Units.{unit}
use Rattle.fix_interval.specs.Interval.{Interval, All}

-- the greatest number up to a limit that passes the test, or 0 where none does
unfoldable pub greatest : (ℕ → Bool) → ℕ → ℕ
greatest passes zero = zero
greatest passes (suc limit) = if passes (suc limit) then suc limit else greatest passes limit

-- The decade of the end n: the greatest k with 10^k ≤ n / 2^32. The least end, 1, has the decade -10, and
-- ends below 2^126 reach 28. So that it is never negative it counts from -10 here.
unfoldable pub decade_of : ℕ → ℕ
decade_of n = greatest (λ k. nat_le (10 ^ k * unit) (10 ^ 10 * n)) 38

-- Between two digits: the mantissa, from 1 to 10 in units of 2^-58, whose logarithm is still to be found,
-- and the digits so far as one binary number
pub record LgTurn : Type 0 where
  pub mantissa : ℕ
  pub digits : ℕ

-- the number 1 as a mantissa counts it
abbrev pub one_mantissa : ℕ
one_mantissa = 2 ^ 58

-- one digit, with quotients rounded down
abbrev pub turn_low : LgTurn → LgTurn
turn_low turn =
    let square = turn.mantissa * turn.mantissa / one_mantissa in
    if nat_le (10 * one_mantissa) square
    then record { mantissa = square / 10; digits = 2 * turn.digits + 1 }
    else record { mantissa = square; digits = 2 * turn.digits }

-- one digit, with quotients rounded up
abbrev pub turn_high : LgTurn → LgTurn
turn_high turn =
    let square = div_ceil (turn.mantissa * turn.mantissa) one_mantissa in
    if nat_lt (10 * one_mantissa) square
    then record { mantissa = div_ceil square 10; digits = 2 * turn.digits + 1 }
    else record { mantissa = square; digits = 2 * turn.digits }

-- a number of turns, one after the other
unfoldable pub turns : (LgTurn → LgTurn) → ℕ → LgTurn → LgTurn
turns turn zero start = start
turns turn (suc count) start = turn (turns turn count start)

-- the mantissa before the first digit, n / 2^32 over its power of ten, rounded down and rounded up
abbrev pub mantissa_low : ℕ → ℕ
mantissa_low n = 10 ^ 10 * n * 2 ^ 26 / 10 ^ decade_of n

abbrev pub mantissa_high : ℕ → ℕ
mantissa_high n = div_ceil (10 ^ 10 * n * 2 ^ 26) (10 ^ decade_of n)

-- all 32 digits from a mantissa
unfoldable pub digits_low : ℕ → LgTurn
digits_low mantissa = turns turn_low 32 (record { mantissa = mantissa; digits = 0 })

unfoldable pub digits_high : ℕ → LgTurn
digits_high mantissa = turns turn_high 32 (record { mantissa = mantissa; digits = 0 })

-- the digits as a number that is not too small: the last one is rounded up, unless nothing is left
abbrev pub rounded_up : LgTurn → ℕ
rounded_up turn = turn.digits + (if turn.mantissa == one_mantissa then 0 else 1)

-- the end whose decade, counted from -10, is k, and whose digits are the 2^-32nds f
abbrev pub decade_and_digits : ℕ → ℕ → ℤ
decade_and_digits k f = pos (k * unit + f) -ℤ pos (10 * unit)

-- the logarithm of the end n, rounded down
unfoldable pub lg_low : ℕ → ℤ
lg_low n = decade_and_digits (decade_of n) (digits_low (mantissa_low n)).digits

-- the logarithm of the end n, rounded up
unfoldable pub lg_high : ℕ → ℤ
lg_high n = decade_and_digits (decade_of n) (rounded_up (digits_high (mantissa_high n)))

-- the end is bounded and not below z
abbrev pub is_at_least : ℤ → Option ℤ → Bool
is_at_least z None = false
is_at_least z (Some end) = int_le z end

-- the logarithm of an interval, end by end; of one that does not stand above 0 nothing is known
unfoldable pub lg_of : Interval → Interval
lg_of i =
    if is_at_least (pos 1) i.lo
    then record {
      lo = option_map (λ z. lg_low (unsigned_abs z)) i.lo;
      hi = option_map (λ z. lg_high (unsigned_abs z)) i.hi;
    }
    else All

-- a is at most the logarithm of n: 10^(a / 2^32) ≤ n / 2^32, raised to the power 2^32. A negative power of
-- ten stands on the other side
abbrev pub IsAtMostLg : ℤ → ℕ → Type 0
IsAtMostLg (pos a) n = 10 ^ a * unit ^ unit ≤ n ^ unit
IsAtMostLg (negsuc a) n = unit ^ unit ≤ 10 ^ suc a * n ^ unit

-- a is at least the logarithm of n
abbrev pub IsAtLeastLg : ℤ → ℕ → Type 0
IsAtLeastLg (pos a) n = n ^ unit ≤ 10 ^ a * unit ^ unit
IsAtLeastLg (negsuc a) n = 10 ^ suc a * n ^ unit ≤ unit ^ unit
