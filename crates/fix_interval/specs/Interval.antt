-- The intervals that all quantities of the map are: a least and a greatest value, each a whole number of
-- units of 2^-32 (of a metre, a decibel or what the quantity is measured in), and each of them may be
-- unbounded.
use Rattle.std.specs.Prelude.{◌<◌, ◌-◌, ◌^◌, ℤ, pos, neg_ℤ, ◌≤ℤ◌, unsigned_abs, Option, Some, None}

-- `None` is an unbounded end: minus infinity as a low end, plus infinity as a high end
pub record Interval : Type 0 where
  pub lo : Option ℤ
  pub hi : Option ℤ

-- the interval of all numbers
abbrev pub All : Interval
All = record { lo = None; hi = None }

-- an end is unbounded, or strictly between -2^126 and 2^126
abbrev pub IsEnd : Option ℤ → Type 0
IsEnd None = Unit {0}
IsEnd (Some z) = unsigned_abs z < 2 ^ 126

-- the low end is not above the high end
abbrev pub IsOrdered : Option ℤ → Option ℤ → Type 0
IsOrdered None h = Unit {0}
IsOrdered (Some l) None = Unit {0}
IsOrdered (Some l) (Some h) = l ≤ℤ h

-- what every interval of the program is
pub record IsInterval (i : Interval) : Type 0 where
  pub low_end : IsEnd i.lo
  pub high_end : IsEnd i.hi
  pub ordered : IsOrdered i.lo i.hi

-- the numbers that an unbounded low end and an unbounded high end read as: the least and the greatest of 128 bits
abbrev pub open_low : ℤ
open_low = neg_ℤ (pos (2 ^ 127))

abbrev pub open_high : ℤ
open_high = pos (2 ^ 127 - 1)
