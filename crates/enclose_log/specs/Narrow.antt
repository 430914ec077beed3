-- How wide an enclosure of a logarithm may be.
use Rattle.std.specs.Prelude.{pos, ◌-ℤ◌, ◌*ℤ◌, ◌<ℤ◌, IsSomeAnd}
use Rattle.fix_interval.specs.Units.{unit}
use Rattle.fix_interval.specs.Interval.{Interval}

-- both ends are bounded, and the high one is less than a thousandth above the low one
abbrev pub IsNarrow : Interval → Type 0
IsNarrow i = IsSomeAnd i.lo (λ low. IsSomeAnd i.hi (λ high. (pos 1000 *ℤ (high -ℤ low)) <ℤ pos unit))
