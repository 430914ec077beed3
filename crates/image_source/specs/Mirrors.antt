-- Where a wall reflects sound from a source to a receiver (ISO 9613-2, 7.5, figure 8). A reflection is the unfolded
-- path: the directions of its two legs, the fraction before the specular point, and the square of its plan length.
use Rattle.std.specs.Prelude.{ℕ, ℤ, pos, ◌+ℤ◌, ◌-ℤ◌, ◌*ℤ◌, ◌<ℤ◌, Bool, true, not, ◌&&◌, ◌==◌, int_lt, int_le, List, Option}
use Rattle.std.specs.Bool.{then_some}
use Rattle.scene_geom.specs.declared.plan.Pt.{Pt}
use Rattle.scene_geom.specs.declared.plan.Side.{Side}
use Rattle.scene_geom.specs.declared.fractions.fraction.Frac.{Frac}
use Rattle.scene_geom.specs.declared.reflection.Reflection.{Reflection}
use Rattle.scene_geom.specs.Vector.{dot}
use Rattle.scene_geom.specs.Point.{from_to, along, orient_of}
use Rattle.scene_geom.specs.Crossing.{are_opposite}
use Rattle.scene_geom.specs.Outline.{area2_of}
use Rattle.scene_geom.specs.Reflection.{are_on_one_side, squared_length, specular, unfolded, FitsReflection}
use Rattle.scene_parts.specs.declared.kinds.Shape.{Shape}
use Rattle.scene_parts.specs.declared.kinds.Shape.TheVariants.{Barrier, Building}
use Rattle.scene_parts.specs.Parts.{Obstacle}
use Rattle.scene_parts.specs.declared.screening.ends.Ends.{Ends}

-- what changes evenly along the path, from x at the source to y at the receiver, at a place t, times the divisor of t
abbrev pub at_place : ℤ → ℤ → Frac → ℤ
at_place x y t = x *ℤ t.d +ℤ t.n *ℤ (y -ℤ x)

-- how far along a side from its start a point lies, times the side's length, in mm²
abbrev pub ahead : Side → Pt → ℤ
ahead side p = dot (from_to side.from p) (along side)

-- the specular point, which is the place p of the path, lies strictly between the ends of the side
abbrev pub strikes : Side → Ends → Frac → Bool
strikes side ends p =
    int_lt (pos 0) (at_place (ahead side ends.s) (ahead side ends.r) p)
    && int_lt (at_place (ahead side ends.s) (ahead side ends.r) p) (pos (squared_length side) *ℤ p.d)

-- there the path passes no higher than the wall is
abbrev pub stays_below : Ends → ℕ → Frac → Bool
stays_below ends h p = int_le (at_place (pos ends.hs) (pos ends.hr) p) (pos h *ℤ p.d)

-- A barrier reflects on both sides, a building on its outside. The inside of a building is on the left of its sides
-- where its corners go round to the left, so that its area is above 0
abbrev pub faces : Shape → List Pt → Side → Pt → Bool
faces Barrier corners side p = true
faces Building corners side p = are_opposite (orient_of side.from side.to p) (area2_of corners)

-- a side of an obstacle reflects: the surface isn't taken as absorbing, source and receiver are both in front of it,
-- and the specular point lies on it
abbrev pub has_mirror : Obstacle → Side → Ends → Bool
has_mirror o side ends =
    not (o.rho == 0)
    && are_on_one_side side ends.s ends.r
    && strikes side ends (specular side ends.s ends.r)
    && stays_below ends o.h (specular side ends.s ends.r)
    && faces o.shape o.points side ends.s

-- the reflection in a side of an obstacle. Its legs depend on the side and both ends alone
abbrev pub mirror_of : Obstacle → Side → Ends → Option Reflection
mirror_of o side ends = then_some (has_mirror o side ends) (unfolded side ends.s ends.r)

-- what every reflection keeps: the bounds under which sides are looked for on its legs, and a specular point strictly
-- between source and receiver
pub record IsMirror (path : Reflection) : Type 0 where
  pub fits : FitsReflection path
  pub after_source : pos 0 <ℤ path.p.n
  pub before_receiver : path.p.n <ℤ path.p.d
