-- What the cells tell of crossings.
use Rattle.std.specs.Prelude.{◌≡◌, ℤ, pos, ◌+ℤ◌, ◌-ℤ◌, ◌*ℤ◌, ◌≤ℤ◌, ◌<ℤ◌, true, false, None, Some, List, Contains}
use Rattle.scene_geom.specs.declared.plan.Pt.{Pt}
use Rattle.scene_geom.specs.declared.plan.Side.{Side}
use Rattle.scene_geom.specs.declared.fractions.fraction.Frac.{Frac}
use Rattle.scene_geom.specs.declared.directions.direction.Dir.{Dir}
use Rattle.scene_geom.specs.Fraction.{is_inside}
use Rattle.scene_geom.specs.Crossing.{crosses_of, blocks_of, hits_of}
use Rattle.scene_geom.specs.Plan.{InPlan}
use Rattle.part_grid.specs.declared.owned.Owned.{Owned}
use Rattle.part_grid.specs.Cells.{line_of, cells_meet_of, boxes_meet}
use Rattle.part_grid.specs.Near.{place_of, near_of, near_box_of}
use Rattle.part_grid.specs.Ways.{cells_meet_way}

-- ---- cells

-- a number is the floor of a coordinate's quotient by the width of a cell
pub record IsFloor (z line : ℤ) : Type 0 where
  pub low : (line *ℤ pos 65536) ≤ℤ z
  pub high : z <ℤ ((line +ℤ pos 1) *ℤ pos 65536)

-- lines are floors, counted from 62 lines below the origin
abbrev pub LinesAreFloors : Type 0
LinesAreFloors = (z : ℤ) → InPlan z → IsFloor z (pos (line_of z) -ℤ pos 62)

-- ---- segments

-- a side whose cells don't meet the walk of a segment neither crosses nor blocks it
pub record IsApart (side : Side) (p q : Pt) : Type 0 where
  pub uncrossed : crosses_of side p q ≡ None
  pub unblocked : blocks_of side p q ≡ false

abbrev pub UnmetAreApart : Type 0
UnmetAreApart = (side : Side) (p q : Pt) → cells_meet_of side p q ≡ false → IsApart side p q

-- a side that crosses a segment is among those near it, and so is one that blocks it
abbrev pub CrossedAreNear : Type 0
CrossedAreNear = (sides : List Owned) (owned : Owned) (p q : Pt) (place : Frac) → Contains sides owned
    → crosses_of owned.side p q ≡ Some place → Contains (near_of p q sides) (place_of owned)

abbrev pub BlockingAreNear : Type 0
BlockingAreNear = (sides : List Owned) (owned : Owned) (p q : Pt) → Contains sides owned
    → blocks_of owned.side p q ≡ true → Contains (near_of p q sides) (place_of owned)

-- ---- legs

-- one coordinate of a way, from its start along a direction with a divisor up to an end, lies between two numbers: at
-- the start, and at the end, where both numbers are multiplied by the divisors
pub record LiesBetween (low high start along divisor : ℤ) (end : Frac) : Type 0 where
  pub above_at_start : low ≤ℤ start
  pub below_at_start : start ≤ℤ high
  pub above_at_end : (low *ℤ (end.d *ℤ divisor)) ≤ℤ (start *ℤ (end.d *ℤ divisor) +ℤ end.n *ℤ along)
  pub below_at_end : (start *ℤ (end.d *ℤ divisor) +ℤ end.n *ℤ along) ≤ℤ (high *ℤ (end.d *ℤ divisor))

-- a box holds the way from a point along a direction up to an end, in units of the direction
pub record HoldsWay (low high from : Pt) (dir : Dir) (end : Frac) : Type 0 where
  pub x : LiesBetween low.x high.x from.x dir.x dir.w end
  pub y : LiesBetween low.y high.y from.y dir.y dir.w end

-- a side that crosses the way has cells that meet those of the box
abbrev pub CrossedWaysAreBoxed : Type 0
CrossedWaysAreBoxed = (side : Side) (low high from : Pt) (dir : Dir) (end place : Frac) → HoldsWay low high from dir end
    → hits_of side from dir ≡ Some place → is_inside place end ≡ true → boxes_meet side low high ≡ true

-- and it is among those near the box
abbrev pub CrossedWaysAreNear : Type 0
CrossedWaysAreNear = (sides : List Owned) (owned : Owned) (low high from : Pt) (dir : Dir) (end place : Frac)
    → HoldsWay low high from dir end → Contains sides owned → hits_of owned.side from dir ≡ Some place
    → is_inside place end ≡ true → Contains (near_box_of low high sides) (place_of owned)

-- a side that crosses a way has cells that meet those of the way
abbrev pub CrossedWaysAreMet : Type 0
CrossedWaysAreMet = (side : Side) (from : Pt) (dir : Dir) (end place : Frac)
    → hits_of side from dir ≡ Some place → is_inside place end ≡ true → cells_meet_way side from dir end ≡ true
