-- Where obstacles cross the legs of a path by way of a wall, for screening (ISO 9613-2, 7.4 and 7.5). Every side that
-- crosses a leg is an edge, a cut is an edge with the numbers of its obstacle and side, and in a band those count whose
-- obstacle is large enough across the line from source to receiver.
use Rattle.std.specs.Prelude.{ℕ, zero, suc, Bool, List, [], ◌∷◌, ◌++◌, map, filter, flat_map, Option, Some, None}
use Rattle.std.specs.Bool.{then_some}
use Rattle.std.specs.List.{filter_map}
use Rattle.std.specs.Option.{option_map, option_and_then}
use Rattle.scene_geom.specs.declared.plan.Pt.{Pt}
use Rattle.scene_geom.specs.declared.plan.Side.{Side}
use Rattle.scene_geom.specs.declared.fractions.fraction.Frac.{Frac}
use Rattle.scene_geom.specs.declared.directions.direction.Dir.{Dir}
use Rattle.scene_geom.specs.declared.band.Band.{Band}
use Rattle.scene_geom.specs.declared.reflection.Reflection.{Reflection}
use Rattle.scene_geom.specs.Bands.{all_bands}
use Rattle.scene_geom.specs.Fraction.{is_inside, rest_of}
use Rattle.scene_geom.specs.Crossing.{hits_of}
use Rattle.scene_parts.specs.Parts.{Obstacle, sides_of}
use Rattle.scene_parts.specs.declared.screening.cuts.Cut.{Cut}
use Rattle.scene_parts.specs.declared.screening.edge.Edge.{Edge}
use Rattle.scene_parts.specs.declared.screening.ends.Ends.{Ends}
use Rattle.scene_parts.specs.declared.screening.crossing.Crossing.{Crossing}
use Rattle.scene_parts.specs.Crossings.{rises_above, counts_in, is_crossing_in, cut_of}
use Rattle.image_source.specs.declared.leg.Leg.{Leg}
use Rattle.image_source.specs.declared.leg.Leg.TheVariants.{First, Second}

-- ---- edges on a leg

-- where a side crosses the way from a point along a direction, strictly between 0 and an end
abbrev pub place_up_to : Frac → Side → Pt → Dir → Option Frac
place_up_to end side from dir =
    option_and_then (λ place. then_some (is_inside place end) place) (hits_of side from dir)

-- Where a side crosses a leg, as a fraction of the unfolded path from the source. The first leg leads from the source
-- to the specular point, the second from the receiver, so that its places are turned round
abbrev pub place_on : Leg → Reflection → Ends → Side → Option Frac
place_on First path ends side = place_up_to path.p side ends.s path.first
place_on Second path ends side = option_map rest_of (place_up_to (rest_of path.p) side ends.r path.second)

abbrev pub dir_on : Leg → Reflection → Dir
dir_on First path = path.first
dir_on Second path = path.second

-- the edge of a side of an obstacle of height h, where it crosses a leg
abbrev pub edge_on : Leg → Reflection → Ends → ℕ → Side → Option Edge
edge_on leg path ends h side =
    option_map
    (λ t. record { t = t; side = side; dir = dir_on leg path; h = h; above = rises_above ends h t })
    (place_on leg path ends side)

-- the edges of an obstacle on a leg, in the order of its sides
abbrev pub edges_on : Leg → Reflection → Ends → Obstacle → List Edge
edges_on leg path ends o = filter_map (edge_on leg path ends o.h) (sides_of o)

-- the edges on a leg of all obstacles that are large enough in a band, in the order of obstacles and sides
abbrev pub leg_edges_in : Band → Leg → Reflection → Ends → List Obstacle → List Edge
leg_edges_in band leg path ends obstacles = flat_map (edges_on leg path ends) (filter (counts_in band ends) obstacles)

-- those on both legs, first legs before second ones
abbrev pub edges_in : Band → Reflection → Ends → List Obstacle → List Edge
edges_in band path ends obstacles =
    leg_edges_in band First path ends obstacles ++ leg_edges_in band Second path ends obstacles

-- ---- cuts

-- an edge with the leg, the numbers of its obstacle and side, and the bands in which its obstacle is large enough
abbrev pub crossing_on : Leg → Reflection → Ends → ℕ → ℕ → Obstacle → Side → Option (Leg × Crossing)
crossing_on leg path ends i k o side =
    option_map
    (λ edge. (
      leg,
      record { obstacle = i; side = k; edge = edge; bands = map (λ band. counts_in band ends o) all_bands },
    ))
    (edge_on leg path ends o.h side)

-- a crossing, if there is one, before others
abbrev pub before_all : Option (Leg × Crossing) → List (Leg × Crossing) → List (Leg × Crossing)
before_all None crossings = crossings
before_all (Some first) crossings = first ∷ crossings

-- those of some sides of the obstacle numbered i, the first of them numbered k
abbrev pub crossings_along : Leg → Reflection → Ends → ℕ → ℕ → Obstacle → List Side → List (Leg × Crossing)
crossings_along leg path ends i k o [] = []
crossings_along leg path ends i k o (side ∷ sides) =
    before_all (crossing_on leg path ends i k o side) (crossings_along leg path ends i (suc k) o sides)

-- those of some obstacles, the first of them numbered i
abbrev pub crossings_from : Leg → Reflection → Ends → ℕ → List Obstacle → List (Leg × Crossing)
crossings_from leg path ends i [] = []
crossings_from leg path ends i (o ∷ obstacles) =
    crossings_along leg path ends i zero o (sides_of o) ++ crossings_from leg path ends (suc i) obstacles

-- those of all obstacles, in the order of legs, obstacles and sides
abbrev pub leg_crossings_of : Reflection → Ends → List Obstacle → List (Leg × Crossing)
leg_crossings_of path ends obstacles =
    crossings_from First path ends zero obstacles ++ crossings_from Second path ends zero obstacles

-- the obstacle of a crossing is large enough in a band
abbrev pub is_leg_crossing_in : Band → Leg × Crossing → Bool
is_leg_crossing_in band crossing = is_crossing_in band crossing.1

abbrev pub leg_cut_of : Leg × Crossing → Leg × Cut
leg_cut_of crossing = (crossing.0, cut_of crossing.1)

-- the cuts of both legs in a band
abbrev pub leg_cuts_of : Band → Reflection → Ends → List Obstacle → List (Leg × Cut)
leg_cuts_of band path ends obstacles =
    map leg_cut_of (filter (is_leg_crossing_in band) (leg_crossings_of path ends obstacles))
