-- The limits of parts, each named once.
use Rattle.std.specs.Prelude.{ℕ}

-- the corners of a barrier, a building, a zone or a foliage
abbrev pub most_corners : ℕ
most_corners = 1024

-- the columns of a grid, and its rows
abbrev pub most_columns : ℕ
most_columns = 4096

-- the distance from one receiver of a grid to the next, in mm
abbrev pub widest_step : ℕ
widest_step = 1000000

-- the outermost coordinate of the plan, in mm
abbrev pub plan_end : ℕ
plan_end = 4000000

-- how far a source counts at most, in mm
abbrev pub farthest_reach : ℕ
farthest_reach = 4000000

-- the height of a part above ground, in mm
abbrev pub greatest_height : ℕ
greatest_height = 100000

-- a ground factor, in hundredths
abbrev pub greatest_ground_factor : ℕ
greatest_ground_factor = 100

-- the factor C0 of clause 8, in 0.01 dB
abbrev pub greatest_c0 : ℕ
greatest_c0 = 1000

-- the length of a side of a barrier or a building, in mm
abbrev pub longest_side : ℕ
longest_side = 262143

-- what a barrier weighs at least, in kg/m² (ISO 9613-2, 7.4)
abbrev pub least_density : ℕ
least_density = 10

-- what a barrier weighs at most, in kg/m²
abbrev pub greatest_density : ℕ
greatest_density = 100000

-- what a surface reflects at most, per mille
abbrev pub full_reflection : ℕ
full_reflection = 1000

-- what a surface that isn't taken as a mirror reflects at most, per mille (ISO 9613-2, 7.5)
abbrev pub weak_reflection : ℕ
weak_reflection = 200
