-- What holds of the plan's predicates beyond their definitions.
use Rattle.std.specs.Prelude.{◌≡◌, ℤ, pos, ◌+ℤ◌, ◌-ℤ◌, ◌*ℤ◌, neg_ℤ, false, None, Some, List, reverse}
use Rattle.scene_geom.specs.declared.plan.Pt.{Pt}
use Rattle.scene_geom.specs.declared.plan.Side.{Side}
use Rattle.scene_geom.specs.declared.fractions.fraction.Frac.{Frac}
use Rattle.scene_geom.specs.declared.directions.direction.Dir.{Dir}
use Rattle.scene_geom.specs.Vector.{Vector, cross, dot}
use Rattle.scene_geom.specs.Point.{from_to, along, orient_of, turned}
use Rattle.scene_geom.specs.Direction.{way}
use Rattle.scene_geom.specs.Reflection.{squared_length, to_image}
use Rattle.scene_geom.specs.Crossing.{crosses_of, blocks_of}
use Rattle.scene_geom.specs.Outline.{area2_of, meets_of}

-- a side that doesn't cross the way between two points doesn't block it
abbrev pub UncrossedIsUnblocked : Type 0
UncrossedIsUnblocked = (side : Side) (p q : Pt) → crosses_of side p q ≡ None → blocks_of side p q ≡ false

-- a side blocks what it blocks in either direction
abbrev pub BlocksTurned : Type 0
BlocksTurned = (side : Side) (p q : Pt) → blocks_of (turned side) p q ≡ blocks_of side p q

-- an outline in the other direction has its area with the other sign
abbrev pub AreaReversed : Type 0
AreaReversed = (outline : List Pt) → area2_of (reverse outline) ≡ neg_ℤ (area2_of outline)

-- and meets what it met
abbrev pub MeetsReversed : Type 0
MeetsReversed = (outline : List Pt) (from : Pt) (dir : Dir) (end : Frac)
    → meets_of (reverse outline) from dir end ≡ meets_of outline from dir end

-- the point (x / d, y / d) lies on the line from a point along a vector
abbrev pub IsOnLine : ℤ → ℤ → ℤ → Pt → Vector → Type 0
IsOnLine x y d from v = cross v (record { x = x -ℤ d *ℤ from.x; y = y -ℤ d *ℤ from.y }) ≡ pos 0

-- the point (x / d, y / d) is the one point on two lines
pub record IsCommonPoint (x y d : ℤ) (from : Pt) (v : Vector) (other : Pt) (w : Vector) : Type 0 where
  pub on_line : IsOnLine x y d from v
  pub on_other : IsOnLine x y d other w
  pub alone : (x' y' d' : ℤ) → IsOnLine x' y' d' from v → IsOnLine x' y' d' other w
      → (x' *ℤ d ≡ x *ℤ d') × (y' *ℤ d ≡ y *ℤ d')

-- the place n / d of a crossing, which is p + (n / d) (q - p), is the one point of the line from p to
-- q and the side's line
abbrev pub CrossingIsCommon : Type 0
CrossingIsCommon = (side : Side) (p q : Pt) (place : Frac) → crosses_of side p q ≡ Some place
    → IsCommonPoint
    (place.d *ℤ p.x +ℤ place.n *ℤ (q.x -ℤ p.x))
    (place.d *ℤ p.y +ℤ place.n *ℤ (q.y -ℤ p.y))
    place.d
    p (from_to p q) side.from (along side)

-- The image of a point in the line of a side lies on the other side of that line, as far from it as the point, and at
-- the same place along it: so the way towards it leads across the line by the distances of both points, and along it as
-- the direct way does. Both are times the side's length, and times the square of it, which is the direction's divisor
pub record LeadsToImage (side : Side) (p q : Pt) : Type 0 where
  pub across :
      cross (along side) (way (to_image side p q))
      ≡ neg_ℤ (pos (squared_length side) *ℤ (orient_of side.from side.to p +ℤ orient_of side.from side.to q))
  pub ahead :
      dot (along side) (way (to_image side p q)) ≡ pos (squared_length side) *ℤ dot (along side) (from_to p q)

abbrev pub LegsLeadToImages : Type 0
LegsLeadToImages = (side : Side) (p q : Pt) → LeadsToImage side p q
