-- How the sides of obstacles and the outlines of zones and foliage meet the plan segments of a trace.
use Rattle.std.specs.Prelude.{Bool, false, ◌||◌, is_some, List}
use Rattle.scene_geom.specs.declared.plan.Pt.{Pt}
use Rattle.scene_geom.specs.declared.plan.Side.{Side}
use Rattle.scene_geom.specs.declared.reflection.Reflection.{Reflection}
use Rattle.scene_geom.specs.Fraction.{rest_of}
use Rattle.scene_geom.specs.Direction.{direct}
use Rattle.scene_geom.specs.Crossing.{crosses_of}
use Rattle.scene_geom.specs.Reflection.{unfolded}
use Rattle.path_shape.specs.declared.legs.Legs.TheVariants as legs
use Rattle.image_source.specs.LegCuts.{place_up_to}
use Rattle.path_shape.specs.Outlines.{meets_legs}
use Rattle.path_calc.specs.declared.bundles.segments.Seg.{Seg}
use Rattle.path_calc.specs.declared.bundles.segments.Seg.TheVariants.{Straight, Legs}

-- ---- sides

-- a side crosses the way between two points strictly between them
abbrev pub crosses_line : Side → Pt → Pt → Bool
crosses_line side p q = is_some (crosses_of side p q)

-- a side crosses the first leg of a reflection strictly between 0 and p, or the second strictly between 0 and 1 - p
abbrev pub crosses_legs : Side → Reflection → Pt → Pt → Bool
crosses_legs side path s r =
    is_some (place_up_to path.p side s path.first) || is_some (place_up_to (rest_of path.p) side r path.second)

-- a side crosses a plan segment, or one of both legs
abbrev pub crosses_segment : Side → Seg → Bool
crosses_segment side (Straight p q) = crosses_line side p q
crosses_segment side (Legs wall s r) = crosses_legs side (unfolded wall s r) s r

-- ---- outlines

-- an outline meets one of the legs of a reflection
abbrev pub meets_reflection : List Pt → Reflection → Pt → Pt → Bool
meets_reflection outline path s r = meets_legs (legs.Two path.first path.second path.p) s r outline

-- an outline meets a leg of a segment. A straight one has none
abbrev pub meets_leg : List Pt → Seg → Bool
meets_leg outline (Straight p q) = false
meets_leg outline (Legs wall s r) = meets_reflection outline (unfolded wall s r) s r

-- an outline meets the direct line
abbrev pub meets_line : List Pt → Pt → Pt → Bool
meets_line outline s r = meets_legs (legs.One (direct s r)) s r outline
