-- Crossings of legs without their numbers are edges.
use Rattle.std.proofs.Common.{◌≡◌, ℕ, suc, List, [], ◌∷◌, ◌++◌, map, filter, ap, ◌∙◌, refl}
use Rattle.std.specs.Prelude.{Option, Some, None, Bool, true, false}
use Rattle.std.specs.List.{filter_map}
use Rattle.std.proofs.lemmas.List.{map-append}
use Rattle.std.proofs.lemmas.List.Elements.{filter-append}
use Rattle.scene_geom.specs.declared.plan.Side.{Side}
use Rattle.scene_geom.specs.declared.reflection.Reflection.{Reflection}
use Rattle.scene_geom.specs.declared.band.Band.{Band}
use Rattle.scene_geom.specs.Bands.{all_bands}
use Rattle.scene_geom.proofs.BandLemmas.{at-place}
use Rattle.scene_parts.specs.Parts.{Obstacle, sides_of}
use Rattle.scene_parts.specs.declared.screening.edge.Edge.{Edge}
use Rattle.scene_parts.specs.declared.screening.ends.Ends.{Ends}
use Rattle.scene_parts.specs.declared.screening.crossing.Crossing.{Crossing}
use Rattle.scene_parts.specs.Crossings.{counts_in}
use Rattle.scene_parts.proofs.Counted.{where_true, none-counted, more-counted}
use Rattle.image_source.specs.declared.leg.Leg.{Leg}
use Rattle.image_source.specs.declared.leg.Leg.TheVariants.{First, Second}
use Rattle.image_source.specs.LegCuts.{edge_on, edges_on, leg_edges_in, crossings_along, crossings_from, is_leg_crossing_in}
use Rattle.image_source.specs.Laws.{LegCrossingsAreEdges}

-- the edges of the crossings that count in a band: of one obstacle all count, or none
abbrev counted : Band → List (Leg × Crossing) → List Edge
counted band crossings = map (λ c. c.1.edge) (filter (is_leg_crossing_in band) crossings)

edges-along : (band : Band) (leg : Leg) (path : Reflection) (ends : Ends) (i k : ℕ) (o : Obstacle) (sides : List Side)
    → counted band (crossings_along leg path ends i k o sides) ≡ where_true (counts_in band ends o) (filter_map (edge_on leg path ends o.h) sides)
edges-along band leg path ends i k o [] = none-counted (counts_in band ends o) [] refl
edges-along band leg path ends i k o (side ∷ sides) = by_edge (edge_on leg path ends o.h side) refl (edges-along band leg path ends i (suc k) o sides) where
  by_edge : (edge : Option Edge) → edge_on leg path ends o.h side ≡ edge
      → counted band (crossings_along leg path ends i (suc k) o sides) ≡ where_true (counts_in band ends o) (filter_map (edge_on leg path ends o.h) sides)
      → counted band (crossings_along leg path ends i k o (side ∷ sides)) ≡ where_true (counts_in band ends o) (filter_map (edge_on leg path ends o.h) (side ∷ sides))
  by_edge None e h = rw e h
  by_edge (Some edge) e h =
      rw e (more-counted (is_leg_crossing_in band) (λ (c : Leg × Crossing). c.1.edge) (counts_in band ends o) (leg, record { obstacle = i; side = k; edge = edge; bands = map (λ band. counts_in band ends o) all_bands })
      (crossings_along leg path ends i (suc k) o sides) (filter_map (edge_on leg path ends o.h) sides)
      (at-place (λ band. counts_in band ends o) false band) h)

counted-append : (band : Band) (xs ys : List (Leg × Crossing)) → counted band (xs ++ ys) ≡ counted band xs ++ counted band ys
counted-append band xs ys =
    ap (map (λ (c : Leg × Crossing). c.1.edge)) (filter-append (is_leg_crossing_in band) xs ys)
    ∙ map-append (λ (c : Leg × Crossing). c.1.edge) (filter (is_leg_crossing_in band) xs) (filter (is_leg_crossing_in band) ys)

edges-from : (band : Band) (leg : Leg) (path : Reflection) (ends : Ends) (i : ℕ) (obstacles : List Obstacle)
    → counted band (crossings_from leg path ends i obstacles) ≡ leg_edges_in band leg path ends obstacles
edges-from band leg path ends i [] = refl
edges-from band leg path ends i (o ∷ obstacles) =
    counted-append band (crossings_along leg path ends i 0 o (sides_of o)) (crossings_from leg path ends (suc i) obstacles)
    ∙ ap (λ edges. edges ++ counted band (crossings_from leg path ends (suc i) obstacles)) (edges-along band leg path ends i 0 o (sides_of o))
    ∙ ap (λ edges. where_true (counts_in band ends o) (edges_on leg path ends o) ++ edges) (edges-from band leg path ends (suc i) obstacles)
    ∙ first-edges (counts_in band ends o) refl
  where
    first-edges : (test : Bool) → counts_in band ends o ≡ test
        → where_true (counts_in band ends o) (edges_on leg path ends o) ++ leg_edges_in band leg path ends obstacles ≡ leg_edges_in band leg path ends (o ∷ obstacles)
    first-edges true e = rw e refl
    first-edges false e = rw e refl

pub leg-crossings-are-edges : LegCrossingsAreEdges
leg-crossings-are-edges band path ends obstacles =
    counted-append band (crossings_from First path ends 0 obstacles) (crossings_from Second path ends 0 obstacles)
    ∙ ap (λ edges. edges ++ counted band (crossings_from Second path ends 0 obstacles)) (edges-from band First path ends 0 obstacles)
    ∙ ap (λ edges. leg_edges_in band First path ends obstacles ++ edges) (edges-from band Second path ends 0 obstacles)
