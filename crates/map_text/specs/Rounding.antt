-- How the ends of levels are rounded to 0.01 dB.
use Rattle.std.specs.Prelude.{ℕ, ◌+◌, ◌*◌, ◌/◌, ◌<◌, ◌≤◌, ◌^◌, ℤ, pos, ◌≤ℤ◌, ◌<ℤ◌, IsSomeAnd}
use Rattle.std.specs.Int.{div_ceil}
use Rattle.fix_interval.specs.Units.{unit}
use Rattle.fix_interval.specs.Interval.{Interval}

-- a low end, rounded down, and a high end, rounded up
abbrev pub low_hundredths : ℕ → ℕ
low_hundredths units = 100 * units / unit

abbrev pub high_hundredths : ℕ → ℕ
high_hundredths units = div_ceil (100 * units) unit

-- What is printed of an end lies beyond it, and less than a hundredth away. Both sides are in units of 2^-32 of
-- 0.01 dB.
pub record IsPrintedAround (units : ℕ) : Type 0 where
  pub low : low_hundredths units * unit ≤ 100 * units
  pub low_near : 100 * units < low_hundredths units * unit + unit
  pub high : 100 * units ≤ high_hundredths units * unit
  pub high_near : high_hundredths units * unit < 100 * units + unit

-- so of every end
abbrev pub PrintedAround : Type 0
PrintedAround = (units : ℕ) → IsPrintedAround units

-- an end that has a text: from 0 dB to below 2^64 units
abbrev pub IsPrintable : ℤ → Type 0
IsPrintable end = (pos 0 ≤ℤ end) × (end <ℤ pos (2 ^ 64))

-- a level whose ends have texts
pub record IsPrintableLevel (level : Interval) : Type 0 where
  pub low : IsSomeAnd level.lo IsPrintable
  pub high : IsSomeAnd level.hi IsPrintable
