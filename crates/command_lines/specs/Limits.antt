-- The limits of what a line asks for, each named once.
use Rattle.std.specs.Prelude.{ℕ}

-- the level of a contour, in 0.01 dB
abbrev pub highest_level : ℕ
highest_level = 20000

-- the sound power level of a metre of a line source, in 0.01 dB
abbrev pub least_line_power : ℕ
least_line_power = 1100

abbrev pub greatest_line_power : ℕ
greatest_line_power = 13000

-- the length of a piece of a line source, in mm
abbrev pub shortest_piece : ℕ
shortest_piece = 1000

abbrev pub longest_piece : ℕ
longest_piece = 1000000

-- the version that an undo names
abbrev pub greatest_version : ℕ
greatest_version = 9223372036854775807
