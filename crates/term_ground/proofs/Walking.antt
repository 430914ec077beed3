-- Sums found zone by zone, and lengths passage by passage.
use Rattle.std.proofs.Common.{◌≡◌, ℕ, suc, ◌+◌, ◌<◌, refl, sym, ap, ◌∙◌, Bool, true, false, List, [], ◌∷◌, length, get_or, drop, drop-cons, add-one}
use Rattle.std.specs.Prelude.{map, if◌then◌else◌, pos, int_lt}
use Rattle.std.specs.List.{FoldsTo, fold}
use Rattle.fix_interval.specs.Interval.{Interval}
use Rattle.fix_interval.specs.Tree.{Tree, Known, Add, enc}
use Rattle.fix_interval.specs.Values.{add_of, neg_of, sub_of, mul_of, div_of}
use Rattle.scene_geom.specs.declared.plan.Pt.{Pt}
use Rattle.scene_geom.specs.declared.directions.direction.Dir.{Dir}
use Rattle.scene_geom.specs.declared.meetings.crossing.Passage.{Passage}
use Rattle.scene_geom.specs.Outline.{passages_of, ring, area2_of, meets_of}
use Rattle.path_shape.proofs.Folding.{folds-as}
use Rattle.path_shape.proofs.Sums.{plus_all-known}
use Rattle.path_shape.proofs.Walking.{inside-turned, inside-straight}
use Rattle.scene_parts.specs.Parts.{Zone}
use Rattle.path_shape.specs.declared.legs.Legs.TheVariants.{One}
use Rattle.path_shape.specs.declared.path.Path.{Path}
use Rattle.path_shape.specs.declared.stretch.Stretch.{Stretch}
use Rattle.term_ground.specs.declared.legs.stretch.Stretches.{Stretches}
use Rattle.term_ground.specs.declared.legs.stretch.Regional.{Regional}
use Rattle.path_shape.specs.Forms.{plus_all}
use Rattle.term_ground.specs.Lengths.{factor}
use Rattle.path_shape.specs.Outlines.{place_form, before, signed, counted, length_inside, meets_legs, whole}
use Rattle.path_shape.specs.Stretches.{part_of}
use Rattle.term_ground.specs.Zones.{met_zones}
use Rattle.path_shape.specs.inner.Stretches.{walked}
use Rattle.term_ground.specs.inner.Walks.{of_stretches, lengths_along, nothing, advanced, known_term, with_term_of, summed}

advanced-step : (first rest all : Interval → Stretch → Interval) → ((quantity : Interval) (stretch : Stretch) → all quantity stretch ≡ rest (first quantity stretch) stretch)
    → (quantities : Regional) (stretches : Stretches) → advanced all quantities stretches ≡ advanced rest (advanced first quantities stretches) stretches
advanced-step first rest all step quantities stretches =
    rw (step quantities.source stretches.source, step quantities.middle stretches.middle, step quantities.receiver stretches.receiver)

pub drop-step : {X : Type 0} (x : X) (xs : List X) (i : ℕ) → x ≡ get_or xs i x → i < length xs → drop i xs ≡ x ∷ drop (i + 1) xs
drop-step {X = X} x xs i e h = rw (drop-cons xs i x, add-one) (ap (λ (y : X). y ∷ drop (suc i) xs) (sym e))

-- ---- passages

pub passage-next : (passage : Passage) (passages : List Passage) (lengths : Regional) (stretches : Stretches)
    → advanced (walked (passage ∷ passages)) lengths stretches ≡ advanced (walked passages) (advanced (walked (passage ∷ [])) lengths stretches) stretches
passage-next passage passages lengths stretches =
    advanced-step (walked (passage ∷ [])) (walked passages) (walked (passage ∷ passages))
    (λ length stretch. plus_all-known (Add (Known length) (counted (Known stretch.from) (Known stretch.to) passage)) (map (counted (Known stretch.from) (Known stretch.to)) passages)) lengths stretches

-- passages that are counted one after another
fold-advanced : (passages : List Passage) (lengths : Regional) (stretches : Stretches)
    → fold (λ l passage. advanced (walked (passage ∷ [])) l stretches) lengths passages ≡ advanced (walked passages) lengths stretches
fold-advanced [] lengths stretches = refl
fold-advanced (passage ∷ passages) lengths stretches =
    fold-advanced passages (advanced (walked (passage ∷ [])) lengths stretches) stretches
    ∙ sym (passage-next passage passages lengths stretches)

-- the lengths by those of all passages
module _ (lengths : Regional) (stretches : Stretches) (outline : List Pt) (from : Pt) (dir : Dir)
    (walks : lengths ≡ advanced (walked (passages_of (ring outline) from dir)) nothing stretches) where
  pub walked-turned : int_lt (area2_of outline) (pos 0) ≡ true
      → record { source = neg_of lengths.source; middle = neg_of lengths.middle; receiver = neg_of lengths.receiver } ≡ lengths_along outline from dir stretches
  walked-turned h =
      ap (λ (l : Regional). record { source = neg_of l.source; middle = neg_of l.middle; receiver = neg_of l.receiver }) walks
      ∙ rw (← inside-turned outline from dir stretches.source h, ← inside-turned outline from dir stretches.middle h, ← inside-turned outline from dir stretches.receiver h) refl

  pub walked-straight : int_lt (area2_of outline) (pos 0) ≡ false → lengths ≡ lengths_along outline from dir stretches
  walked-straight h =
      walks ∙ rw (← inside-straight outline from dir stretches.source h, ← inside-straight outline from dir stretches.middle h, ← inside-straight outline from dir stretches.receiver h) refl

-- a fold of which each step counts a passage
module _ (R : Regional → Passage → Regional → Type 0) (stretches : Stretches) (outline : List Pt) (from : Pt) (dir : Dir) (start lengths : Regional)
    (folds : FoldsTo R start (passages_of (ring outline) from dir) lengths) (is-nothing : start ≡ nothing)
    (each : (l : Regional) (passage : Passage) (k : Regional) → R l passage k → k ≡ advanced (walked (passage ∷ [])) l stretches) where
  walks : lengths ≡ advanced (walked (passages_of (ring outline) from dir)) nothing stretches
  walks =
      folds-as R (λ l passage. advanced (walked (passage ∷ [])) l stretches) each (passages_of (ring outline) from dir) start lengths folds
      ∙ fold-advanced (passages_of (ring outline) from dir) start stretches
      ∙ ap (λ (l : Regional). advanced (walked (passages_of (ring outline) from dir)) l stretches) is-nothing

  pub lengths-turned : int_lt (area2_of outline) (pos 0) ≡ true
      → record { source = neg_of lengths.source; middle = neg_of lengths.middle; receiver = neg_of lengths.receiver } ≡ lengths_along outline from dir stretches
  lengths-turned = walked-turned lengths stretches outline from dir walks

  pub lengths-straight : int_lt (area2_of outline) (pos 0) ≡ false → lengths ≡ lengths_along outline from dir stretches
  lengths-straight = walked-straight lengths stretches outline from dir walks

-- a passage whose place is known
part-known : (at : Interval) (passage : Passage) (length : Interval) (stretch : Stretch) → enc (place_form passage.place) ≡ at
    → enc (Add (Known length) (part_of (Known at) passage.to_left stretch)) ≡ walked (passage ∷ []) length stretch
part-known at passage length stretch e = by passage.to_left where
  by : (to_left : Bool) → enc (Add (Known length) (part_of (Known at) to_left stretch))
      ≡ enc (Add (Known length) (signed to_left (before passage.place (Known stretch.from) (Known stretch.to))))
  by true = rw e
  by false = rw e

pub passage-known : (at : Interval) (passage : Passage) (lengths : Regional) (stretches : Stretches) (source middle receiver : Interval) → enc (place_form passage.place) ≡ at
    → source ≡ enc (Add (Known lengths.source) (part_of (Known at) passage.to_left stretches.source))
    → middle ≡ enc (Add (Known lengths.middle) (part_of (Known at) passage.to_left stretches.middle))
    → receiver ≡ enc (Add (Known lengths.receiver) (part_of (Known at) passage.to_left stretches.receiver))
    → record { source = source; middle = middle; receiver = receiver } ≡ advanced (walked (passage ∷ [])) lengths stretches
passage-known at passage lengths stretches source middle receiver e s m r =
    rw (s, m, r, part-known at passage lengths.source stretches.source e, part-known at passage lengths.middle stretches.middle e, part-known at passage lengths.receiver stretches.receiver e) refl

-- ---- zones

zone-met : (zone : Zone) (outside : Interval) (path : Path) (dir : Dir) (sum : Interval) (stretch : Stretch)
    → path.legs ≡ One dir → meets_of zone.points path.s dir whole ≡ true
    → summed (zone ∷ []) outside path sum stretch
    ≡ add_of sum (div_of (mul_of (sub_of (enc (factor zone.g)) outside) (enc (length_inside zone.points path.s dir (Known stretch.from) (Known stretch.to)))) (sub_of stretch.to stretch.from))
zone-met zone outside path dir sum stretch e met = rw (e, met) refl

zone-unmet : (zone : Zone) (outside : Interval) (path : Path) (dir : Dir) (sum : Interval) (stretch : Stretch)
    → path.legs ≡ One dir → meets_of zone.points path.s dir whole ≡ false → summed (zone ∷ []) outside path sum stretch ≡ sum
zone-unmet zone outside path dir sum stretch e unmet = rw (e, unmet) refl

pub zones-met : (zone : Zone) (outside : Interval) (path : Path) (dir : Dir) (sums : Regional) (stretches : Stretches) (difference : Interval) (lengths : Regional)
    → path.legs ≡ One dir → meets_of zone.points path.s dir whole ≡ true → difference ≡ sub_of (enc (factor zone.g)) outside
    → lengths ≡ of_stretches (λ stretch. enc (length_inside zone.points path.s dir (Known stretch.from) (Known stretch.to))) stretches
    → record {
      source = with_term_of sums.source difference lengths.source (sub_of stretches.source.to stretches.source.from);
      middle = with_term_of sums.middle difference lengths.middle (sub_of stretches.middle.to stretches.middle.from);
      receiver = with_term_of sums.receiver difference lengths.receiver (sub_of stretches.receiver.to stretches.receiver.from);
    } ≡ advanced (summed (zone ∷ []) outside path) sums stretches
zones-met zone outside path dir sums stretches difference lengths e met d l =
    rw (l, d, zone-met zone outside path dir sums.source stretches.source e met, zone-met zone outside path dir sums.middle stretches.middle e met, zone-met zone outside path dir sums.receiver stretches.receiver e met) refl

pub zones-unmet : (zone : Zone) (outside : Interval) (path : Path) (dir : Dir) (sums : Regional) (stretches : Stretches)
    → path.legs ≡ One dir → meets_of zone.points path.s dir whole ≡ false → sums ≡ advanced (summed (zone ∷ []) outside path) sums stretches
zones-unmet zone outside path dir sums stretches e unmet =
    rw (zone-unmet zone outside path dir sums.source stretches.source e unmet, zone-unmet zone outside path dir sums.middle stretches.middle e unmet, zone-unmet zone outside path dir sums.receiver stretches.receiver e unmet) refl

kept : (term : Zone → Tree) (test : Bool) (zone : Zone) (zones : List Zone) (sum : Interval)
    → enc (plus_all (Known sum) (map term (if test then zone ∷ zones else zones)))
    ≡ enc (plus_all (Known (enc (plus_all (Known sum) (map term (if test then zone ∷ [] else []))))) (map term zones))
kept term true zone zones sum = plus_all-known (Add (Known sum) (term zone)) (map term zones)
kept term false zone zones sum = refl

pub zones-next : (zone : Zone) (zones zones' : List Zone) (outside : Interval) (path : Path) (sums sums' total : Regional) (stretches : Stretches)
    → zones ≡ zone ∷ zones' → sums' ≡ advanced (summed (zone ∷ []) outside path) sums stretches
    → advanced (summed zones outside path) sums stretches ≡ total → advanced (summed zones' outside path) sums' stretches ≡ total
zones-next zone zones zones' outside path sums sums' total stretches e f g =
    ap (λ (s : Regional). advanced (summed zones' outside path) s stretches) f
    ∙ sym (advanced-step (summed (zone ∷ []) outside path) (summed zones' outside path) (summed (zone ∷ zones') outside path)
    (λ sum stretch. kept (known_term outside path stretch) (meets_legs path.legs path.s path.r zone.points) zone (met_zones path zones') sum) sums stretches)
    ∙ ap (λ (z : List Zone). advanced (summed z outside path) sums stretches) (sym e)
    ∙ g
