-- What holds of reflections beyond their definitions.
use Rattle.std.specs.Prelude.{◌≡◌, ◌≤◌, ℕ, pos, ◌*ℤ◌, List, map, filter, IfSome, unsigned_abs}
use Rattle.fix_interval.specs.Tree.{Tree, IsSound}
use Rattle.scene_geom.specs.declared.plan.Pt.{Pt}
use Rattle.scene_geom.specs.declared.plan.Side.{Side}
use Rattle.scene_geom.specs.declared.fractions.fraction.Frac.{Frac}
use Rattle.scene_geom.specs.declared.band.Band.{Band}
use Rattle.scene_geom.specs.declared.reflection.Reflection.{Reflection}
use Rattle.scene_geom.specs.Vector.{Vector, cross, dot, scaled, minus}
use Rattle.scene_geom.specs.Point.{from_to, along}
use Rattle.scene_geom.specs.Direction.{way, FitsDirection}
use Rattle.scene_geom.specs.Reflection.{CanReflect, squared_length, to_image, specular}
use Rattle.scene_parts.specs.Parts.{Obstacle}
use Rattle.scene_parts.specs.declared.screening.edge.Edge.{Edge}
use Rattle.scene_parts.specs.declared.screening.ends.Ends.{Ends}
use Rattle.image_source.specs.declared.leg.Leg.{Leg}
use Rattle.image_source.specs.Mirrors.{at_place, ahead, IsMirror}
use Rattle.image_source.specs.LegCuts.{edge_on, edges_in, leg_crossings_of, is_leg_crossing_in}
use Rattle.image_source.specs.Dimensions.{dimension_squared, needed_squared}

-- what the first leg reaches at the specular point, seen from the start of the side, times the divisors of that place
-- and of the leg's direction
abbrev pub reached : Side → Pt → Pt → Vector
reached side s r =
    minus
    (scaled (specular side s r).n (way (to_image side s r)))
    (scaled ((specular side s r).d *ℤ (to_image side s r).w) (from_to s side.from))

-- it lies on the line of the side, as far along it as the test of the reflection takes the specular point to lie
pub record MeetsWall (side : Side) (s r : Pt) : Type 0 where
  pub on_line : cross (along side) (reached side s r) ≡ pos 0
  pub place :
      dot (along side) (reached side s r)
      ≡ pos (squared_length side) *ℤ at_place (ahead side s) (ahead side r) (specular side s r)

abbrev pub LegsMeetWalls : Type 0
LegsMeetWalls = (side : Side) (s r : Pt) → CanReflect side s r → MeetsWall side s r

-- without their numbers the crossings in a band are the edges in it
abbrev pub LegCrossingsAreEdges : Type 0
LegCrossingsAreEdges = (band : Band) (path : Reflection) (ends : Ends) (obstacles : List Obstacle)
    → map (λ c. c.1.edge) (filter (is_leg_crossing_in band) (leg_crossings_of path ends obstacles))
    ≡ edges_in band path ends obstacles

-- an edge on a leg lies between source and receiver, within the bounds of a hit on the leg
pub record FitsLegEdge (edge : Edge) : Type 0 where
  pub within : unsigned_abs edge.t.n ≤ unsigned_abs edge.t.d
  pub below : unsigned_abs edge.t.d ≤ 33760000000000000000000000
  pub direction : FitsDirection edge.dir

abbrev pub LegEdgesFit : Type 0
LegEdgesFit = (leg : Leg) (path : Reflection) (ends : Ends) (h : ℕ) (side : Side)
    → IsMirror path → IfSome (edge_on leg path ends h side) FitsLegEdge

-- both formulas of condition (19) are sound where that of the path's length is
pub record AreSound (x y : Tree) : Type 0 where
  pub first : IsSound x
  pub second : IsSound y

abbrev pub ConditionIsSound : Type 0
ConditionIsSound = (side : Side) (h : ℕ) (p : Frac) (d : Tree) (band : Band)
    → IsSound d → AreSound (dimension_squared side h p d) (needed_squared p d band)
