-- Where the parts that an edit changes touch no path, source and receiver read the same of both scenes.
use Rattle.std.proofs.Common.{◌≡◌, refl, ap, ◌∙◌, Bool, true, false, List, [], ◌∷◌, ◌++◌, map}
use Rattle.std.specs.Prelude.{Some, flat_map, filter, not, bytes_eq}
use Rattle.std.specs.Bool.{then_some}
use Rattle.std.specs.List.{list_any}
use Rattle.std.specs.Option.{option_map}
use Rattle.scene_geom.specs.declared.plan.Pt.{Pt}
use Rattle.scene_geom.specs.declared.plan.Side.{Side}
use Rattle.scene_geom.specs.declared.band.Band.{Band}
use Rattle.scene_geom.specs.declared.band.Band.TheVariants.{Hz63, Hz125, Hz250, Hz500, Hz1000, Hz2000, Hz4000, Hz8000}
use Rattle.scene_geom.specs.Bands.{all_bands}
use Rattle.scene_geom.specs.Crossing.{differ}
use Rattle.scene_geom.specs.Reflection.{unfolded}
use Rattle.scene_geom.specs.Laws.{UncrossedIsUnblocked}
use Rattle.scene_parts.specs.Parts.{Source, Receiver, Obstacle, Zone, Foliage, sides_of}
use Rattle.scene_book.specs.Book.{Book}
use Rattle.scene_book.specs.Laws.{Edited, ListsEdited}
use Rattle.scene_parts.specs.declared.screening.edge.Edge.{Edge}
use Rattle.scene_parts.specs.declared.screening.ends.Ends.{Ends}
use Rattle.scene_parts.specs.Crossings.{counts_in}
use Rattle.sight_cut.specs.Cuts as cuts
use Rattle.edge_chain.specs.declared.hand.Hand.{Hand}
use Rattle.edge_chain.specs.declared.hand.Hand.TheVariants.{Left, Right}
use Rattle.edge_chain.specs.Chain.{chain_of, segments_of}
use Rattle.image_source.specs.declared.leg.Leg.{Leg}
use Rattle.image_source.specs.declared.leg.Leg.TheVariants.{First, Second}
use Rattle.image_source.specs.Mirrors.{has_mirror}
use Rattle.image_source.specs.LegCuts as legs
use Rattle.path_calc.specs.declared.bundles.segments.Seg.{Seg}
use Rattle.path_calc.specs.declared.bundles.segments.Seg.TheVariants.{Legs}
use Rattle.path_shape.specs.Outlines.{met}
use Rattle.term_foliage.specs.Laws.{unnamed as nameless}
use Rattle.path_calc.specs.GroundZones.{unnamed, zones_on, foliage_on}
use Rattle.path_calc.specs.LateralPaths.{lateral_path, lateral_paths, lateral_paths_round, screening_corners, leads_in, is_in_the_way}
use Rattle.path_calc.specs.ReflectedPaths.{ReflectedPath, path_along, along_legs, reflected_in, reflected_by}
use Rattle.path_calc.specs.ScreeningSets.{screens_before, changes_in, is_renewed, renewals}
use Rattle.path_calc.specs.Surroundings.{Surroundings, path_of, ends_of, edges_on, surroundings_of}
use Rattle.path_calc.specs.Trace.{straight, string_segments, trace_of}
use Rattle.touch_test.specs.Crossings.{meets_leg, meets_line}
use Rattle.touch_test.specs.Touches.{TracedPath, traced, obstacle_touches, outline_touches}
use Rattle.touch_test.proofs.Lists.{In, in-map, neither, fails-at, map-agrees, flat-agrees, options-agree, flat-stays, filter-stays, any-stays, kept-stays}
use Rattle.touch_test.proofs.Trace.{in-line, in-legs, in-strings}
use Rattle.touch_test.proofs.Quiet.{no-edges, no-screen, not-in-the-way, no-leg-edges, no-reflections}

-- records of what is read are one where their fields are
same-fields : (x y : Surroundings) → x.zones ≡ y.zones → x.foliage ≡ y.foliage → x.edges ≡ y.edges → x.laterals ≡ y.laterals → x.renewed ≡ y.renewed
    → x.reflected ≡ y.reflected → x ≡ y
same-fields x y z w e l n f =
    λ i. record { zones = z i; foliage = w i; edges = e i; laterals = l i; renewed = n i; reflected = f i }

-- an obstacle screens in the same bands or in none
unchanged : (band : Band) (ends : Ends) (o : Obstacle) → ((band : Band) → cuts.screens_in band ends o ≡ false) → changes_in band ends o ≡ false
unchanged band ends o none = rw (none band) (before band)
  where
    before : (band : Band) → differ (screens_before band ends o) false ≡ false
    before Hz63 = refl
    before Hz125 = ap (λ (b : Bool). differ b false) (none Hz63)
    before Hz250 = ap (λ (b : Bool). differ b false) (none Hz125)
    before Hz500 = ap (λ (b : Bool). differ b false) (none Hz250)
    before Hz1000 = ap (λ (b : Bool). differ b false) (none Hz500)
    before Hz2000 = ap (λ (b : Bool). differ b false) (none Hz1000)
    before Hz4000 = ap (λ (b : Bool). differ b false) (none Hz2000)
    before Hz8000 = ap (λ (b : Bool). differ b false) (none Hz4000)

module _ (unblocked : UncrossedIsUnblocked) (a b : Book) (s : Source) (r : Receiver) (old new : List Obstacle)
    (e : Edited old new a.obstacles b.obstacles)
    (quiet_old : (o : Obstacle) → In o old → obstacle_touches (ends_of s r) (trace_of a s r) o ≡ false)
    (quiet_new : (o : Obstacle) → In o new → obstacle_touches (ends_of s r) (trace_of a s r) o ≡ false) where
  same-edges : (band : Band) → cuts.edges_in band (ends_of s r) a.obstacles ≡ cuts.edges_in band (ends_of s r) b.obstacles
  same-edges band =
      kept-stays old new a.obstacles b.obstacles e (counts_in band (ends_of s r)) (cuts.edges_of (ends_of s r))
      (λ o i. no-edges (ends_of s r) (trace_of a s r) o (quiet_old o i) (in-line a s r))
      (λ o i. no-edges (ends_of s r) (trace_of a s r) o (quiet_new o i) (in-line a s r))

  pub edges-stay : edges_on (ends_of s r) a.obstacles ≡ edges_on (ends_of s r) b.obstacles
  edges-stay =
      map-agrees (λ band. cuts.edges_in band (ends_of s r) a.obstacles) (λ band. cuts.edges_in band (ends_of s r) b.obstacles)
      all_bands (λ band i. same-edges band)

  old-screens : (o : Obstacle) → In o old → (band : Band) → cuts.screens_in band (ends_of s r) o ≡ false
  old-screens o i = no-screen (ends_of s r) (trace_of a s r) o (quiet_old o i) (in-line a s r)

  new-screens : (o : Obstacle) → In o new → (band : Band) → cuts.screens_in band (ends_of s r) o ≡ false
  new-screens o i = no-screen (ends_of s r) (trace_of a s r) o (quiet_new o i) (in-line a s r)

  same-screens : (band : Band) → filter (cuts.screens_in band (ends_of s r)) a.obstacles ≡ filter (cuts.screens_in band (ends_of s r)) b.obstacles
  same-screens band =
      filter-stays old new a.obstacles b.obstacles e (cuts.screens_in band (ends_of s r))
      (λ o i. old-screens o i band) (λ o i. new-screens o i band)

  any-screens : (band : Band) → list_any (cuts.screens_in band (ends_of s r)) a.obstacles ≡ list_any (cuts.screens_in band (ends_of s r)) b.obstacles
  any-screens band =
      any-stays old new a.obstacles b.obstacles e (cuts.screens_in band (ends_of s r))
      (λ o i. old-screens o i band) (λ o i. new-screens o i band)

  pub renewals-stay : renewals (ends_of s r) a.obstacles ≡ renewals (ends_of s r) b.obstacles
  renewals-stay =
      map-agrees (is_renewed (ends_of s r) a.obstacles) (is_renewed (ends_of s r) b.obstacles) all_bands (λ band i.
      any-stays old new a.obstacles b.obstacles e (changes_in band (ends_of s r))
      (λ o j. unchanged band (ends_of s r) o (old-screens o j)) (λ o j. unchanged band (ends_of s r) o (new-screens o j)))

  -- ---- strings

  same-corners : (band : Band) → screening_corners band (ends_of s r) a.obstacles ≡ screening_corners band (ends_of s r) b.obstacles
  same-corners band = ap (flat_map (λ (o : Obstacle). o.points)) (same-screens band)

  -- sound goes along a string that stands in the trace as it went before
  same-leads : (band : Band) (corners : List Pt)
      → ((segment : Seg) → In segment (string_segments (ends_of s r) corners) → In segment (trace_of a s r))
      → leads_in band (ends_of s r) a.obstacles corners ≡ leads_in band (ends_of s r) b.obstacles corners
  same-leads band [] stands = refl
  same-leads band (corner ∷ corners) stands =
      ap not (any-stays old new a.obstacles b.obstacles e (is_in_the_way band (ends_of s r) (corner ∷ corners))
      (λ o i. not-in-the-way (ends_of s r) (trace_of a s r) o (quiet_old o i) unblocked band (corner ∷ corners) standing)
      (λ o i. not-in-the-way (ends_of s r) (trace_of a s r) o (quiet_new o i) unblocked band (corner ∷ corners) standing))
    where
      standing : (segment : Side) → In segment (segments_of (corner ∷ corners) s.at r.at) → In (straight segment) (trace_of a s r)
      standing segment i = stands (straight segment) (in-map straight segment (segments_of (corner ∷ corners) s.at r.at) i)

  same-lateral : (band : Band) → list_any (cuts.screens_in band (ends_of s r)) a.obstacles ≡ true → (hand : Hand)
      → lateral_path band (ends_of s r) a.obstacles hand ≡ lateral_path band (ends_of s r) b.obstacles hand
  same-lateral band any hand =
      ap (λ (leads : Bool). record { corners = corners_of (screening_corners band (ends_of s r) a.obstacles); leads = leads })
      (same-leads band (corners_of (screening_corners band (ends_of s r) a.obstacles)) (in-strings a s r band any hand))
      ∙ ap (λ (points : List Pt). record { corners = corners_of points; leads = leads_in band (ends_of s r) b.obstacles (corners_of points) })
      (same-corners band)
    where
      corners_of : List Pt → List Pt
      corners_of points = chain_of points s.at r.at hand

  same-laterals : (band : Band) → lateral_paths band (ends_of s r) a.obstacles ≡ lateral_paths band (ends_of s r) b.obstacles
  same-laterals band = by (list_any (cuts.screens_in band (ends_of s r)) a.obstacles) refl
    where
      by : (t : Bool) → list_any (cuts.screens_in band (ends_of s r)) a.obstacles ≡ t
          → lateral_paths band (ends_of s r) a.obstacles ≡ lateral_paths band (ends_of s r) b.obstacles
      by true any =
          rw (any, ← any-screens band, any)
          (map-agrees (lateral_path band (ends_of s r) a.obstacles) (lateral_path band (ends_of s r) b.obstacles) (Left ∷ Right ∷ [])
          (λ hand i. same-lateral band any hand))
      by false none = rw (none, ← any-screens band, none) refl

  pub laterals-stay : lateral_paths_round (ends_of s r) a.obstacles ≡ lateral_paths_round (ends_of s r) b.obstacles
  laterals-stay =
      map-agrees (λ band. lateral_paths band (ends_of s r) a.obstacles) (λ band. lateral_paths band (ends_of s r) b.obstacles)
      all_bands (λ band i. same-laterals band)

  -- ---- reflections

  same-leg-edges : (wall : Side) → In (Legs wall s.at r.at) (trace_of a s r) → (leg : Leg) (band : Band)
      → legs.leg_edges_in band leg (unfolded wall s.at r.at) (ends_of s r) a.obstacles
      ≡ legs.leg_edges_in band leg (unfolded wall s.at r.at) (ends_of s r) b.obstacles
  same-leg-edges wall stands leg band =
      kept-stays old new a.obstacles b.obstacles e (counts_in band (ends_of s r))
      (legs.edges_on leg (unfolded wall s.at r.at) (ends_of s r))
      (λ o i. no-leg-edges (ends_of s r) (trace_of a s r) o (quiet_old o i) leg wall stands)
      (λ o i. no-leg-edges (ends_of s r) (trace_of a s r) o (quiet_new o i) leg wall stands)

  pub leg-edges-stay : (wall : Side) → In (Legs wall s.at r.at) (trace_of a s r)
      → map (λ band. legs.edges_in band (unfolded wall s.at r.at) (ends_of s r) a.obstacles) all_bands
      ≡ map (λ band. legs.edges_in band (unfolded wall s.at r.at) (ends_of s r) b.obstacles) all_bands
  leg-edges-stay wall stands =
      map-agrees (λ band. legs.edges_in band (unfolded wall s.at r.at) (ends_of s r) a.obstacles)
      (λ band. legs.edges_in band (unfolded wall s.at r.at) (ends_of s r) b.obstacles) all_bands (λ band i.
      ap (λ (first : List Edge). first ++ legs.leg_edges_in band Second (unfolded wall s.at r.at) (ends_of s r) a.obstacles)
      (same-leg-edges wall stands First band)
      ∙ ap (λ (second : List Edge). legs.leg_edges_in band First (unfolded wall s.at r.at) (ends_of s r) b.obstacles ++ second)
      (same-leg-edges wall stands Second band))

  -- what the sides of other obstacles reflect
  pub obstacles-stay : (book : Book)
      → flat_map (reflected_by book (ends_of s r)) a.obstacles
      ≡ flat_map (reflected_by book (ends_of s r)) b.obstacles
  obstacles-stay book =
      flat-stays old new a.obstacles b.obstacles e (reflected_by book (ends_of s r))
      (λ o i. no-reflections (ends_of s r) (trace_of a s r) o (quiet_old o i) book)
      (λ o i. no-reflections (ends_of s r) (trace_of a s r) o (quiet_new o i) book)

-- things with outlines, as they are read
module _ {A : Type 0} (outline_of : A → List Pt) (read : A → A) (a : Book) (s : Source) (r : Receiver) (old new xs ys : List A) (e : Edited old new xs ys)
    (quiet_old : (x : A) → In x old → outline_touches (ends_of s r) (trace_of a s r) (outline_of x) ≡ false)
    (quiet_new : (x : A) → In x new → outline_touches (ends_of s r) (trace_of a s r) (outline_of x) ≡ false) where
  -- those that the direct line meets, and those that a leg of a reflection meets
  pub line-outlines-stay : map read (met outline_of (path_of s r) xs) ≡ map read (met outline_of (path_of s r) ys)
  line-outlines-stay =
      ap (map read) (filter-stays old new xs ys e (λ (x : A). meets_line (outline_of x) s.at r.at)
      (λ x i. off x (quiet_old x i)) (λ x i. off x (quiet_new x i)))
    where
      off : (x : A) → outline_touches (ends_of s r) (trace_of a s r) (outline_of x) ≡ false → meets_line (outline_of x) s.at r.at ≡ false
      off x quiet = (neither (meets_line (outline_of x) s.at r.at) (list_any (meets_leg (outline_of x)) (trace_of a s r)) quiet).0

  pub leg-outlines-stay : (wall : Side) → In (Legs wall s.at r.at) (trace_of a s r)
      → map read (met outline_of (path_along (ends_of s r) (unfolded wall s.at r.at)) xs)
      ≡ map read (met outline_of (path_along (ends_of s r) (unfolded wall s.at r.at)) ys)
  leg-outlines-stay wall stands =
      ap (map read) (filter-stays old new xs ys e (λ (x : A). meets_leg (outline_of x) (Legs wall s.at r.at))
      (λ x i. off x (quiet_old x i)) (λ x i. off x (quiet_new x i)))
    where
      off : (x : A) → outline_touches (ends_of s r) (trace_of a s r) (outline_of x) ≡ false → meets_leg (outline_of x) (Legs wall s.at r.at) ≡ false
      off x quiet =
          fails-at (meets_leg (outline_of x)) (Legs wall s.at r.at) (trace_of a s r) stands
          (neither (meets_line (outline_of x) s.at r.at) (list_any (meets_leg (outline_of x)) (trace_of a s r)) quiet).1

-- what is read along the legs of reflections
module _ (a b : Book) (s : Source) (r : Receiver)
    (same_edges : (wall : Side) → In (Legs wall s.at r.at) (trace_of a s r)
    → map (λ band. legs.edges_in band (unfolded wall s.at r.at) (ends_of s r) a.obstacles) all_bands
    ≡ map (λ band. legs.edges_in band (unfolded wall s.at r.at) (ends_of s r) b.obstacles) all_bands)
    (same_zones : (wall : Side) → In (Legs wall s.at r.at) (trace_of a s r)
    → zones_on (path_along (ends_of s r) (unfolded wall s.at r.at)) a.zones
    ≡ zones_on (path_along (ends_of s r) (unfolded wall s.at r.at)) b.zones)
    (same_foliage : (wall : Side) → In (Legs wall s.at r.at) (trace_of a s r)
    → foliage_on (path_along (ends_of s r) (unfolded wall s.at r.at)) a.foliage
    ≡ foliage_on (path_along (ends_of s r) (unfolded wall s.at r.at)) b.foliage) where
  same-along : (o : Obstacle) (side : Side) → In (Legs side s.at r.at) (trace_of a s r)
      → along_legs a (ends_of s r) o side (unfolded side s.at r.at)
      ≡ along_legs b (ends_of s r) o side (unfolded side s.at r.at)
  same-along o side stands =
      let before : ReflectedPath = along_legs a (ends_of s r) o side (unfolded side s.at r.at) in
      λ i. record before { edges = same_edges side stands i; zones = same_zones side stands i; foliage = same_foliage side stands i }

  same-reflected : (o : Obstacle) → In o a.obstacles → (side : Side) → In side (sides_of o)
      → reflected_in a (ends_of s r) o side ≡ reflected_in b (ends_of s r) o side
  same-reflected o i side j = by (has_mirror o side (ends_of s r)) refl
    where
      by : (t : Bool) → has_mirror o side (ends_of s r) ≡ t
          → option_map (along_legs a (ends_of s r) o side) (then_some t (unfolded side s.at r.at))
          ≡ option_map (along_legs b (ends_of s r) o side) (then_some t (unfolded side s.at r.at))
      by true is =
          ap Some (same-along o side (in-legs a s r o side (unfolded side s.at r.at) i j
          (ap (λ (t : Bool). then_some t (unfolded side s.at r.at)) is)))
      by false is = refl

  pub reflections-agree : flat_map (reflected_by a (ends_of s r)) a.obstacles
      ≡ flat_map (reflected_by b (ends_of s r)) a.obstacles
  reflections-agree =
      flat-agrees (reflected_by a (ends_of s r)) (reflected_by b (ends_of s r)) a.obstacles (λ o i.
      options-agree (reflected_in a (ends_of s r) o) (reflected_in b (ends_of s r) o) (sides_of o)
      (λ side j. same-reflected o i side j))

-- the pieces of an edit touch no path
pub record AreQuiet (path : TracedPath) (pieces : Book) : Type 0 where
  pub sources : (x : Source) → In x pieces.sources → bytes_eq x.name path.source ≡ false
  pub obstacles : (o : Obstacle) → In o pieces.obstacles → obstacle_touches path.ends path.trace o ≡ false
  pub zones : (z : Zone) → In z pieces.zones → outline_touches path.ends path.trace z.points ≡ false
  pub foliage : (f : Foliage) → In f pieces.foliage → outline_touches path.ends path.trace f.points ≡ false

pub surroundings-stay : UncrossedIsUnblocked → (a b : Book) (s : Source) (r : Receiver) (old new : Book) → ListsEdited old new a b
    → AreQuiet (traced a r s) old → AreQuiet (traced a r s) new → surroundings_of a s r ≡ surroundings_of b s r
surroundings-stay unblocked a b s r old new e h k =
    same-fields (surroundings_of a s r) (surroundings_of b s r)
    (line-outlines-stay (λ (z : Zone). z.points) unnamed a s r _ _ _ _ e.lists.zones h.zones k.zones)
    (line-outlines-stay (λ (f : Foliage). f.points) nameless a s r _ _ _ _ e.lists.foliage h.foliage k.foliage)
    (edges-stay unblocked a b s r old.obstacles new.obstacles e.lists.obstacles h.obstacles k.obstacles)
    (laterals-stay unblocked a b s r old.obstacles new.obstacles e.lists.obstacles h.obstacles k.obstacles)
    (renewals-stay unblocked a b s r old.obstacles new.obstacles e.lists.obstacles h.obstacles k.obstacles)
    (reflections-agree a b s r
    (leg-edges-stay unblocked a b s r old.obstacles new.obstacles e.lists.obstacles h.obstacles k.obstacles)
    (leg-outlines-stay (λ (z : Zone). z.points) unnamed a s r _ _ _ _ e.lists.zones h.zones k.zones)
    (leg-outlines-stay (λ (f : Foliage). f.points) nameless a s r _ _ _ _ e.lists.foliage h.foliage k.foliage)
    ∙ obstacles-stay unblocked a b s r old.obstacles new.obstacles e.lists.obstacles h.obstacles k.obstacles b)
