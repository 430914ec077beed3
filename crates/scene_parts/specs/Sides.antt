-- The sides of barriers and buildings.
use Rattle.std.specs.Prelude.{ℕ, zero, suc, ◌*◌, List, Bool, nat_le, if◌then◌else◌, unsigned_abs}
use Rattle.scene_geom.specs.declared.plan.Pt.{Pt}
use Rattle.scene_geom.specs.declared.plan.Side.{Side}
use Rattle.scene_geom.specs.Vector.{dot}
use Rattle.scene_geom.specs.Point.{along}
use Rattle.scene_geom.specs.Outline.{sides_along, ring}
use Rattle.scene_parts.specs.declared.kinds.Shape.{Shape}
use Rattle.scene_parts.specs.declared.kinds.Shape.TheVariants.{Barrier, Building}
use Rattle.scene_parts.specs.Limits.{longest_side}

-- a barrier runs from each point to the next; a building's last side leads back to its first corner
abbrev pub sides_in : Shape → List Pt → List Side
sides_in Barrier points = sides_along points
sides_in Building points = ring points

-- the square of a side's length, in mm²
abbrev pub squared_length : Side → ℕ
squared_length side = unsigned_abs (dot (along side) (along side))

-- a side of at most 262,143 mm
abbrev pub is_short : Side → Bool
is_short side = nat_le (squared_length side) (longest_side * longest_side)

-- the greatest number up to a bound whose square is at most n
abbrev pub greatest_root : ℕ → ℕ → ℕ
greatest_root n zero = zero
greatest_root n (suc bound) = if nat_le (suc bound * suc bound) n then suc bound else greatest_root n bound

-- the square root of a number, rounded down
unfoldable pub floor_root : ℕ → ℕ
floor_root n = greatest_root n n
