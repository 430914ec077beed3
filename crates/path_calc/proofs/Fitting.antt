-- The edges on a direct path keep to the bounds of edges.
use Rattle.std.proofs.Common.{◌≡◌, ℕ, zero, suc, List, [], ◌∷◌, Option, refl, subst}
use Rattle.std.specs.Prelude.{Some, None, All, IfSome}
use Rattle.std.specs.Option.{option_map}
use Rattle.std.proofs.lemmas.List.Elements.{All-nil, All-append, All-cons}
use Rattle.scene_geom.specs.declared.plan.Side.{Side}
use Rattle.scene_geom.specs.declared.fractions.fraction.Frac.{Frac}
use Rattle.scene_geom.specs.Direction.{direct}
use Rattle.scene_geom.specs.Crossing.{crosses_of}
use Rattle.scene_parts.specs.Parts.{Obstacle, sides_of}
use Rattle.scene_parts.specs.declared.screening.edge.Edge.{Edge}
use Rattle.scene_parts.specs.declared.screening.ends.Ends.{Ends}
use Rattle.scene_parts.specs.declared.screening.crossing.Crossing.{Crossing}
use Rattle.scene_parts.specs.Crossings.{rises_above}
use Rattle.sight_cut.specs.Cuts.{edge_of, crossing_of, before_all, crossings_along, crossings_from, crossings_of}
use Rattle.term_barrier.specs.Edges.{FitsEdge}
use Rattle.term_barrier.proofs.Fitting.{crossings-fit}

-- the edge of a side that crosses
edge-fits : (ends : Ends) (h : ℕ) (side : Side) (edge : Edge) → edge_of ends h side ≡ Some edge → FitsEdge edge
edge-fits ends h side edge e = by (crosses_of side ends.s ends.r) refl e where
  at-place : Frac → Edge
  at-place t = record { t = t; side = side; dir = direct ends.s ends.r; h = h; above = rises_above ends h t }

  by : (place : Option Frac) → crosses_of side ends.s ends.r ≡ place → option_map at-place place ≡ Some edge → FitsEdge edge
  by None is known = absurd (cc)
  by (Some t) is known =
      let same : at-place t ≡ edge = cc in
      let fits : IfSome (crosses_of side ends.s ends.r) (λ place. FitsEdge (record { t = place; side = side; dir = direct ends.s ends.r; h = h; above = rises_above ends h t })) = crossings-fit side ends.s ends.r h (rises_above ends h t) in
      subst FitsEdge same (rw is at fits)

-- ---- all crossings

abbrev Fits : Crossing → Type 0
Fits crossing = FitsEdge crossing.edge

along-fit : (ends : Ends) (i k : ℕ) (o : Obstacle) (sides : List Side) → All Fits (crossings_along ends i k o sides)
along-fit ends i k o [] = All-nil Fits
along-fit ends i k o (side ∷ sides) = by (edge_of ends o.h side) refl (along-fit ends i (suc k) o sides) where
  by : (edge : Option Edge) → edge_of ends o.h side ≡ edge → All Fits (crossings_along ends i (suc k) o sides)
      → All Fits (before_all (crossing_of ends i k o side) (crossings_along ends i (suc k) o sides))
  by None is rest = rw is rest
  by (Some edge) is rest = rw is (All-cons Fits _ (crossings_along ends i (suc k) o sides) (edge-fits ends o.h side edge is) rest)

from-fit : (ends : Ends) (i : ℕ) (obstacles : List Obstacle) → All Fits (crossings_from ends i obstacles)
from-fit ends i [] = All-nil Fits
from-fit ends i (o ∷ obstacles) =
    All-append Fits (crossings_along ends i zero o (sides_of o)) (crossings_from ends (suc i) obstacles) (along-fit ends i zero o (sides_of o)) (from-fit ends (suc i) obstacles)

pub edges-fit : (ends : Ends) (obstacles : List Obstacle) → All Fits (crossings_of ends obstacles)
edges-fit ends obstacles = from-fit ends zero obstacles
