-- Directions: a vector over a divisor.
use Rattle.std.specs.Prelude.{zero, suc, ℤ, pos, negsuc, ◌≤◌, unsigned_abs}
use Rattle.scene_geom.specs.declared.plan.Pt.{Pt}
use Rattle.scene_geom.specs.declared.directions.direction.Dir.{Dir}
use Rattle.scene_geom.specs.Positive.{suc-positive}
use Rattle.scene_geom.specs.Vector.{Vector}
use Rattle.scene_geom.specs.Point.{from_to}

-- a vector over a positive divisor. What isn't positive counts as 1 here
abbrev pub dir_over : Vector → ℤ → Dir
dir_over v (pos zero) = record { x = v.x; y = v.y; w = pos (suc zero); positive = suc-positive zero }
dir_over v (pos (suc k)) = record { x = v.x; y = v.y; w = pos (suc k); positive = suc-positive k }
dir_over v (negsuc k) = record { x = v.x; y = v.y; w = pos (suc zero); positive = suc-positive zero }

-- the direction from one point to another
abbrev pub direct : Pt → Pt → Dir
direct p q = dir_over (from_to p q) (pos 1)

-- the vector of a direction
abbrev pub way : Dir → Vector
way dir = record { x = dir.x; y = dir.y }

-- the bounds of a direction. The legs of a path by way of a reflecting wall (ISO 9613-2, 7.5) of at
-- most 262,143 mm have a divisor of at most the square of that length, and components below
-- 2.11 * 10^18
pub record FitsDirection (dir : Dir) : Type 0 where
  pub x_within : unsigned_abs dir.x ≤ 2110000000000000000
  pub y_within : unsigned_abs dir.y ≤ 2110000000000000000
  pub w_within : unsigned_abs dir.w ≤ 68718952449
