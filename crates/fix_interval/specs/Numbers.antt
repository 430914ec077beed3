-- How an interval is kept: as two numbers of 128 bits, of which the least stands for an unbounded low end and the
-- greatest for an unbounded high end.
use Rattle.std.specs.Prelude.{◌≡◌, ℤ, unwrap_or, if◌then◌else◌, Option, Some, None}
use Rattle.std.specs.Ordering.{int_eq}
use Rattle.std.proofs.Common.{arith}
use Rattle.std.proofs.lemmas.Int.{ints}
use Rattle.fix_interval.specs.Interval.{Interval, open_low, open_high}

-- the end that a number stands for, where one of them stands for an unbounded end
abbrev pub end_of_number : ℤ → ℤ → Option ℤ
end_of_number unbounded z = if int_eq z unbounded then None else Some z

-- the interval that two numbers stand for
abbrev pub of_numbers : ℤ → ℤ → Interval
of_numbers l h = record { lo = end_of_number open_low l; hi = end_of_number open_high h }

-- a number is got back from the end that it stands for
pub number-kept : (unbounded z : ℤ) → unwrap_or (end_of_number unbounded z) unbounded ≡ z
number-kept unbounded z = grind (arith, ints)
