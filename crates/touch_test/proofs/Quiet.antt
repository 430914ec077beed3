-- What is read of a part that touches no path: nothing.
use Rattle.std.proofs.Common.{◌≡◌, refl, ap, ◌∙◌, Bool, true, false, ◌&&◌, List, []}
use Rattle.std.specs.Prelude.{None}
use Rattle.std.specs.Bool.{then_some}
use Rattle.std.specs.List.{list_any}
use Rattle.std.specs.Option.{option_map}
use Rattle.scene_geom.specs.declared.plan.Pt.{Pt}
use Rattle.scene_geom.specs.declared.plan.Side.{Side}
use Rattle.scene_geom.specs.declared.band.Band.{Band}
use Rattle.scene_geom.specs.Crossing.{crosses_of, blocks_of}
use Rattle.scene_geom.specs.Fraction.{rest_of}
use Rattle.scene_geom.specs.Reflection.{unfolded}
use Rattle.scene_geom.specs.Laws.{UncrossedIsUnblocked}
use Rattle.scene_parts.specs.Parts.{Obstacle, sides_of}
use Rattle.scene_book.specs.Book.{Book}
use Rattle.scene_parts.specs.declared.screening.edge.Edge.{Edge}
use Rattle.scene_parts.specs.declared.screening.ends.Ends.{Ends}
use Rattle.scene_parts.specs.Crossings.{counts_in}
use Rattle.sight_cut.specs.Cuts as cuts
use Rattle.edge_chain.specs.Chain.{segments_of, blocks_chain}
use Rattle.image_source.specs.declared.leg.Leg.{Leg}
use Rattle.image_source.specs.declared.leg.Leg.TheVariants.{First, Second}
use Rattle.image_source.specs.Mirrors.{has_mirror, mirror_of}
use Rattle.image_source.specs.LegCuts.{place_on, edge_on, edges_on}
use Rattle.path_calc.specs.declared.bundles.segments.Seg.{Seg}
use Rattle.path_calc.specs.declared.bundles.segments.Seg.TheVariants.{Straight, Legs}
use Rattle.path_calc.specs.LateralPaths.{is_in_the_way}
use Rattle.path_calc.specs.ReflectedPaths.{reflected_in, reflected_by, along_legs}
use Rattle.path_calc.specs.Trace.{straight}
use Rattle.touch_test.specs.Crossings.{crosses_segment}
use Rattle.touch_test.specs.Touches.{side_touches, obstacle_touches}
use Rattle.touch_test.proofs.Lists.{In, neither, not_some, fails-at, none-passes, none-there}

and_false : (b : Bool) → (b && false) ≡ false
and_false true = refl
and_false false = refl

-- an obstacle that doesn't touch a path
module _ (ends : Ends) (trace : List Seg) (o : Obstacle) (quiet : obstacle_touches ends trace o ≡ false) where
  quiet-side : (side : Side) → In side (sides_of o) → side_touches ends trace o side ≡ false
  quiet-side side i = fails-at (side_touches ends trace o) side (sides_of o) i quiet

  uncrossed : (side : Side) → In side (sides_of o) → (segment : Seg) → In segment trace
      → crosses_segment side segment ≡ false
  uncrossed side i segment j =
      fails-at (crosses_segment side) segment trace j
      (neither (list_any (crosses_segment side) trace) (has_mirror o side ends) (quiet-side side i)).0

  no_mirror : (side : Side) → In side (sides_of o) → mirror_of o side ends ≡ None
  no_mirror side i =
      ap (λ (b : Bool). then_some b (unfolded side ends.s ends.r))
      (neither (list_any (crosses_segment side) trace) (has_mirror o side ends) (quiet-side side i)).1

  -- has no edge on the direct line
  pub no-edges : In (Straight ends.s ends.r) trace → cuts.edges_of ends o ≡ []
  no-edges line = none-there (cuts.edge_of ends o.h) (sides_of o) none
    where
      none : (side : Side) → In side (sides_of o) → cuts.edge_of ends o.h side ≡ None
      none side i = rw (not_some (crosses_of side ends.s ends.r) (uncrossed side i _ line)) refl

  -- so it doesn't screen
  pub no-screen : In (Straight ends.s ends.r) trace → (band : Band) → cuts.screens_in band ends o ≡ false
  no-screen line band =
      ap (λ (edges : List Edge). counts_in band ends o && list_any (λ (edge : Edge). edge.above) edges) (no-edges line)
      ∙ and_false (counts_in band ends o)

  -- is not in the way of a string that stands in the trace
  pub not-in-the-way : UncrossedIsUnblocked → (band : Band) (corners : List Pt)
      → ((segment : Side) → In segment (segments_of corners ends.s ends.r) → In (straight segment) trace)
      → is_in_the_way band ends corners o ≡ false
  not-in-the-way unblocked band corners traced =
      ap (λ (b : Bool). counts_in band ends o && b)
      (none-passes (blocks_chain corners ends.s ends.r) (sides_of o) (λ side i.
      none-passes (λ (segment : Side). blocks_of side segment.from segment.to) (segments_of corners ends.s ends.r) (λ segment j.
      unblocked side segment.from segment.to
      (not_some (crosses_of side segment.from segment.to) (uncrossed side i (straight segment) (traced segment j))))))
      ∙ and_false (counts_in band ends o)

  -- has no edge on the legs of a reflection
  pub no-leg-edges : (leg : Leg) (wall : Side) → In (Legs wall ends.s ends.r) trace
      → edges_on leg (unfolded wall ends.s ends.r) ends o ≡ []
  no-leg-edges leg wall legs = none-there (edge_on leg (unfolded wall ends.s ends.r) ends o.h) (sides_of o) (none leg)
    where
      no_place : (leg : Leg) (side : Side) → In side (sides_of o) → place_on leg (unfolded wall ends.s ends.r) ends side ≡ None
      no_place First side i = not_some _ (neither _ _ (uncrossed side i _ legs)).0
      no_place Second side i = ap (option_map rest_of) (not_some _ (neither _ _ (uncrossed side i _ legs)).1)

      none : (leg : Leg) (side : Side) → In side (sides_of o) → edge_on leg (unfolded wall ends.s ends.r) ends o.h side ≡ None
      none leg side i = rw (no_place leg side i) refl

  -- and reflects nothing
  pub no-reflections : (book : Book) → reflected_by book ends o ≡ []
  no-reflections book =
      none-there (reflected_in book ends o) (sides_of o) (λ side i.
      ap (option_map (along_legs book ends o side)) (no_mirror side i))
