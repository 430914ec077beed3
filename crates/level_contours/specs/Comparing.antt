-- What is known of a cell from the interval of the level in it.
use Rattle.std.specs.Prelude.{ℤ, pos, ◌*ℤ◌, int_le, Bool, false, not, Option, Some, None, if◌then◌else◌}
use Rattle.fix_interval.specs.Interval.{Interval}
use Rattle.fix_interval.specs.Units.{unit}
use Rattle.cell_loops.specs.declared.kinds.Cell.{Cell}
use Rattle.cell_loops.specs.declared.kinds.Cell.TheVariants.{Above, Below, Unsure}

-- whether an end in units of 2^-32 dB reaches a level in 0.01 dB: 100 times the one is at least 2^32 times the other
abbrev pub reaches : ℤ → ℤ → Bool
reaches end level = int_le (level *ℤ pos unit) (pos 100 *ℤ end)

-- whether the whole interval does, told by its low end, and whether none of it does, told by its high end
abbrev pub surely_reaches : Option ℤ → ℤ → Bool
surely_reaches None level = false
surely_reaches (Some low) level = reaches low level

abbrev pub surely_stays_below : Option ℤ → ℤ → Bool
surely_stays_below None level = false
surely_stays_below (Some high) level = not (reaches high level)

-- what is known of a cell in which the level lies in an interval
abbrev pub cell_of : Interval → ℤ → Cell
cell_of total level =
    if surely_reaches total.lo level then Above
    else (if surely_stays_below total.hi level then Below else Unsure)
