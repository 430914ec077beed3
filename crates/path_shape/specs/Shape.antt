-- What a path from a source to a receiver is.
use Rattle.std.specs.Prelude.{◌≡◌, ℕ, ◌+◌, ◌*◌, ◌^◌, pos, ◌+ℤ◌, ◌≤ℤ◌, unsigned_abs, ◌⊎◌, Some, IsSomeAnd}
use Rattle.fix_interval.specs.Interval.{Interval}
use Rattle.fix_interval.specs.Bounds.{AreBetween}
use Rattle.fix_interval.specs.Tree.{Tree, Const, Root, enc}
use Rattle.scene_geom.specs.declared.plan.Pt.{Pt}
use Rattle.scene_geom.specs.declared.plan.Side.{Side}
use Rattle.scene_geom.specs.declared.directions.direction.Dir.{Dir}
use Rattle.scene_geom.specs.declared.fractions.fraction.Frac.{Frac}
use Rattle.scene_geom.specs.Point.{from_to}
use Rattle.scene_geom.specs.Direction.{direct}
use Rattle.scene_geom.specs.Reflection.{CanReflect, to_image, specular, unfolded_square}
use Rattle.path_shape.specs.declared.legs.Legs.{Legs}
use Rattle.path_shape.specs.declared.legs.Legs.TheVariants.{One, Two}
use Rattle.path_shape.specs.declared.path.Path.{Path}

-- ---- plan lengths

-- a distance in mm, squared
unfoldable pub squared : ℕ → ℕ
squared n = n * n

-- the squared distance of two points in plan, in mm²
abbrev pub plan_square : Pt → Pt → ℕ
plan_square s r = squared (unsigned_abs (from_to s r).x) + squared (unsigned_abs (from_to s r).y)

-- the same in m², as a formula
abbrev pub plan_square_form : Pt → Pt → Tree
plan_square_form s r = Const (pos (plan_square s r)) 1000000

-- the length of the direct path in plan, in metres (d_p of ISO 9613-2, 7.3.1)
abbrev pub plan_length : Pt → Pt → Tree
plan_length s r = Root (plan_square_form s r)

-- a fraction of mm², in m²
abbrev pub square_form : Frac → Tree
square_form square = Const square.n (unsigned_abs square.d * 1000000)

-- the length in metres whose square is a fraction of mm²
abbrev pub length_of : Frac → Tree
length_of square = Root (square_form square)

-- the length of the path by way of a side of a wall, in plan, in metres
abbrev pub reflected_length : Side → Pt → Pt → Tree
reflected_length side s r = length_of (unfolded_square side s r)

-- ---- paths between two places, whose heights are in mm

-- the direct path
abbrev pub direct_path : Pt → ℕ → Pt → ℕ → Path
direct_path s hs r hr = record { s = s; hs = hs; r = r; hr = hr; dp = enc (plan_length s r); legs = One (direct s r) }

-- the path by way of a side of a wall (ISO 9613-2, 7.5): each leg leads towards the image of the other end
abbrev pub reflected_path : Side → Pt → ℕ → Pt → ℕ → Path
reflected_path side s hs r hr = record {
  s = s;
  hs = hs;
  r = r;
  hr = hr;
  dp = enc (reflected_length side s r);
  legs = Two (to_image side s r) (to_image side r s) (specular side s r);
}

-- legs by way of some side of a wall, with a plan length
pub record AreReflected (first second : Dir) (p : Frac) (s r : Pt) (dp : Interval) : Type 0 where
  pub side : Side
  pub can_reflect : CanReflect side s r
  pub first_is : first ≡ to_image side s r
  pub second_is : second ≡ to_image side r s
  pub p_is : p ≡ specular side s r
  pub length_is : dp ≡ enc (reflected_length side s r)

-- legs lead from a source to a receiver, and have this plan length
abbrev pub LegsFit : Legs → Pt → Pt → Interval → Type 0
LegsFit (One dir) s r dp = (dir ≡ direct s r) × (dp ≡ enc (plan_length s r))
LegsFit (Two first second p) s r dp = AreReflected first second p s r dp

-- the condition of a path: its legs lead from its source to its receiver, and its plan length is theirs
abbrev pub IsPath : Path → Type 0
IsPath path = LegsFit path.legs path.s path.r path.dp

-- ---- what holds of plan lengths

-- from 0 m to 2^24 m, both ends at most 2^-15 m apart
pub record IsLength (dp : Interval) : Type 0 where
  pub bounds : AreBetween (pos 0) (pos (2 ^ 56)) dp
  pub close : IsSomeAnd dp.lo (λ low. IsSomeAnd dp.hi (λ high. high ≤ℤ (low +ℤ pos (2 ^ 17))))

-- exactly 0 m, or at least 2^-10 m
abbrev pub IsZeroOrMore : Interval → Type 0
IsZeroOrMore dp = (dp ≡ record { lo = Some (pos 0); hi = Some (pos 0) }) ⊎ IsSomeAnd dp.lo (λ low. pos (2 ^ 22) ≤ℤ low)

-- the square of a plan length: from 0 m² to 2^30 m², with ends at most 2^-32 m² apart
pub record IsPlanSquare (q : Interval) : Type 0 where
  pub bounds : AreBetween (pos 0) (pos (2 ^ 62)) q
  pub close : IsSomeAnd q.lo (λ low. IsSomeAnd q.hi (λ high. (low ≤ℤ high) × (high ≤ℤ (low +ℤ pos 1))))

-- each path has such a length
abbrev pub PathsHaveLengths : Type 0
PathsHaveLengths = (path : Path) → IsPath path → IsLength path.dp

-- and the square of each is such a square, of the direct path and of one by way of a wall
abbrev pub DirectSquares : Type 0
DirectSquares = (s r : Pt) → IsPlanSquare (enc (plan_square_form s r))

abbrev pub ReflectedSquares : Type 0
ReflectedSquares = (side : Side) (s r : Pt) → CanReflect side s r
    → IsPlanSquare (enc (square_form (unfolded_square side s r)))
