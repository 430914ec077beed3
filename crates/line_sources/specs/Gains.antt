-- How much more power a piece has than a metre of its line.
use Rattle.std.specs.Prelude.{ℕ, ◌*◌, ℤ, pos, ◌*ℤ◌, Bool, Option, unwrap_or}
use Rattle.fix_interval.specs.Units.{unit}
use Rattle.fix_interval.specs.Round.{floor_of}
use Rattle.fix_interval.specs.Tree.{Tree, Const, Root, Lg, enc}
use Rattle.scene_parts.specs.Parts.{is_power_within}
use Rattle.command_lines.specs.Limits.{least_line_power, greatest_line_power}

-- the sound power level of a metre of a line source, where there is power
abbrev pub is_line_power : Option ℤ → Bool
is_line_power = is_power_within (pos least_line_power) (pos greatest_line_power)

-- the length in m of each of so many equal pieces of a leg, whose squared length is n mm²
abbrev pub piece_length : ℕ → ℕ → Tree
piece_length n count = Root (Const (pos n) (1000000 * (count * count)))

-- ten times the logarithm of that length, in 0.01 dB, rounded down: what the piece has more than a metre
unfoldable pub gain_of : ℕ → ℕ → ℤ
gain_of n count = floor_of (pos 1000 *ℤ unwrap_or (enc (Lg (piece_length n count))).lo (pos 0)) unit
