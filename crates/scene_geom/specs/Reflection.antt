-- The plan of a path by way of a reflecting wall (ISO 9613-2, 7.5). The line of the wall mirrors both ends of the path:
-- each leg leads towards the image of the other end, and the path is as long as the straight way to that image.
use Rattle.std.specs.Prelude.{◌≡◌, ℕ, ℤ, pos, ◌+◌, ◌*◌, ◌^◌, ◌*ℤ◌, ◌≤◌, unsigned_abs, Bool, true, ◌&&◌, ◌||◌, int_lt, nat_le}
use Rattle.scene_geom.specs.declared.plan.Pt.{Pt}
use Rattle.scene_geom.specs.declared.plan.Side.{Side}
use Rattle.scene_geom.specs.declared.fractions.fraction.Frac.{Frac}
use Rattle.scene_geom.specs.declared.directions.direction.Dir.{Dir}
use Rattle.scene_geom.specs.declared.reflection.Reflection.{Reflection}
use Rattle.scene_geom.specs.Vector.{Vector, dot, scaled, minus, turned_left}
use Rattle.scene_geom.specs.Point.{from_to, along, orient_of}
use Rattle.scene_geom.specs.Fraction.{over, rest_of, FitsEnd}
use Rattle.scene_geom.specs.Direction.{dir_over, FitsDirection}

-- ---- where a wall reflects

-- both numbers are above 0, or both below
abbrev pub have_one_sign : ℤ → ℤ → Bool
have_one_sign a b = int_lt (pos 0) a && int_lt (pos 0) b || int_lt a (pos 0) && int_lt b (pos 0)

-- both points are strictly on one side of the line of a wall's side
abbrev pub are_on_one_side : Side → Pt → Pt → Bool
are_on_one_side side p q = have_one_sign (orient_of side.from side.to p) (orient_of side.from side.to q)

-- the square of a side's length, in mm²
abbrev pub squared_length : Side → ℕ
squared_length side = unsigned_abs (dot (along side) (along side))

-- the length of the longest side that reflects, in mm
abbrev pub longest_wall : ℕ
longest_wall = 262143

-- a side is no longer
abbrev pub is_short : Side → Bool
is_short side = nat_le (squared_length side) (longest_wall ^ 2)

-- a side of a wall, source and receiver between which it can reflect sound, so far as the plan tells
pub record CanReflect (side : Side) (s r : Pt) : Type 0 where
  pub one_side : are_on_one_side side s r ≡ true
  pub length : squared_length side ≤ longest_wall ^ 2

-- ---- the unfolded path

-- the distance of a point from the line of a side, times the side's length, in mm²
abbrev pub off_wall : Side → Pt → ℕ
off_wall side p = unsigned_abs (orient_of side.from side.to p)

-- how far two points are apart along a side, times the side's length, in mm²
abbrev pub along_wall : Side → Pt → Pt → ℕ
along_wall side p q = unsigned_abs (dot (from_to p q) (along side))

-- a way to a point, and back from a wall's line by twice the distance of the point, both as many times as long as the
-- square of the wall's length says
abbrev pub image_dir : Vector → ℤ → Vector → ℤ → Dir
image_dir way square normal off = dir_over (minus (scaled square way) (scaled (pos 2 *ℤ off) normal)) square

-- the direction from p to the image of q, which lies on the other side of the wall's line, as far from it as q
abbrev pub to_image : Side → Pt → Pt → Dir
to_image side p q =
    image_dir (from_to p q) (pos (squared_length side)) (turned_left (along side)) (orient_of side.from side.to q)

-- the fraction of the path that lies before the specular point
abbrev pub specular : Side → Pt → Pt → Frac
specular side s r = over (pos (off_wall side s)) (pos (off_wall side s + off_wall side r))

-- the square of the length of the path, in mm²
abbrev pub unfolded_square : Side → Pt → Pt → Frac
unfolded_square side s r =
    over
    (pos ((off_wall side s + off_wall side r) ^ 2 + along_wall side s r ^ 2))
    (pos (squared_length side))

-- the path from s by way of a side to r
abbrev pub unfolded : Side → Pt → Pt → Reflection
unfolded side s r = record {
  first = to_image side s r;
  second = to_image side r s;
  p = specular side s r;
  square = unfolded_square side s r;
}

-- the bounds of a path by way of a wall: those under which sides are looked for on its legs, and a length of at most
-- 25,299 m
pub record FitsReflection (path : Reflection) : Type 0 where
  pub first : FitsDirection path.first
  pub second : FitsDirection path.second
  pub p : FitsEnd path.p
  pub rest : FitsEnd (rest_of path.p)
  pub square : unsigned_abs path.square.n ≤ 640000000000000 * unsigned_abs path.square.d
  pub wall : unsigned_abs path.square.d ≤ longest_wall ^ 2
