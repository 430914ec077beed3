-- Where obstacles cross the plan line from source to receiver (ISO 9613-2, 7.4). Every side that crosses it is an edge,
-- a cut is an edge with the numbers of its obstacle and side, and in a band those count whose obstacle is large enough.
use Rattle.std.specs.Prelude.{ℕ, zero, suc, Bool, ◌&&◌, List, [], ◌∷◌, ◌++◌, map, filter, flat_map, Option, Some, None}
use Rattle.std.specs.List.{filter_map, list_any}
use Rattle.std.specs.Option.{option_map}
use Rattle.scene_geom.specs.declared.plan.Side.{Side}
use Rattle.scene_geom.specs.declared.band.Band.{Band}
use Rattle.scene_geom.specs.Bands.{all_bands}
use Rattle.scene_geom.specs.Direction.{direct}
use Rattle.scene_geom.specs.Crossing.{crosses_of}
use Rattle.scene_parts.specs.Parts.{Obstacle, sides_of}
use Rattle.scene_parts.specs.declared.screening.cuts.Cut.{Cut}
use Rattle.scene_parts.specs.Crossings.{rises_above, counts_in, is_crossing_in, cut_of}
use Rattle.scene_parts.specs.declared.screening.edge.Edge.{Edge}
use Rattle.scene_parts.specs.declared.screening.ends.Ends.{Ends}
use Rattle.scene_parts.specs.declared.screening.crossing.Crossing.{Crossing}

-- ---- edges of an obstacle

-- the edge of a side of an obstacle of height h, where it crosses the line
abbrev pub edge_of : Ends → ℕ → Side → Option Edge
edge_of ends h side =
    option_map
    (λ t. record { t = t; side = side; dir = direct ends.s ends.r; h = h; above = rises_above ends h t })
    (crosses_of side ends.s ends.r)

-- the edges of an obstacle, in the order of its sides
abbrev pub edges_of : Ends → Obstacle → List Edge
edges_of ends o = filter_map (edge_of ends o.h) (sides_of o)

-- ---- edges in a band

-- the edges of all obstacles that are large enough in a band, in the order of obstacles and sides
abbrev pub edges_in : Band → Ends → List Obstacle → List Edge
edges_in band ends obstacles = flat_map (edges_of ends) (filter (counts_in band ends) obstacles)

-- an obstacle screens in a band: it is large enough, and an edge of it rises above the line of sight
abbrev pub screens_in : Band → Ends → Obstacle → Bool
screens_in band ends o = counts_in band ends o && list_any (λ edge. edge.above) (edges_of ends o)

-- ---- cuts

-- an edge with the numbers of its obstacle and side, and with the bands in which its obstacle is large enough
abbrev pub crossing_of : Ends → ℕ → ℕ → Obstacle → Side → Option Crossing
crossing_of ends i k o side =
    option_map
    (λ edge. record { obstacle = i; side = k; edge = edge; bands = map (λ band. counts_in band ends o) all_bands })
    (edge_of ends o.h side)

-- a crossing, if there is one, before others
abbrev pub before_all : Option Crossing → List Crossing → List Crossing
before_all None crossings = crossings
before_all (Some first) crossings = first ∷ crossings

-- those of some sides of the obstacle numbered i, the first of them numbered k
abbrev pub crossings_along : Ends → ℕ → ℕ → Obstacle → List Side → List Crossing
crossings_along ends i k o [] = []
crossings_along ends i k o (side ∷ sides) =
    before_all (crossing_of ends i k o side) (crossings_along ends i (suc k) o sides)

-- those of some obstacles, the first of them numbered i
abbrev pub crossings_from : Ends → ℕ → List Obstacle → List Crossing
crossings_from ends i [] = []
crossings_from ends i (o ∷ obstacles) =
    crossings_along ends i zero o (sides_of o) ++ crossings_from ends (suc i) obstacles

-- those of all obstacles, in the order of obstacles and sides
abbrev pub crossings_of : Ends → List Obstacle → List Crossing
crossings_of ends obstacles = crossings_from ends zero obstacles

-- the cuts of the line of sight in a band
abbrev pub cuts_of : Band → Ends → List Obstacle → List Cut
cuts_of band ends obstacles = map cut_of (filter (is_crossing_in band) (crossings_of ends obstacles))
