-- A walk round an outline, side by side.
use Rattle.std.proofs.Common.{◌≡◌, ◌<◌, ◌^◌, ℤ, pos, to_z, of_z, refl, sym, ap, subst, arith, ◌∙◌, Bool, true, false, List, [], ◌∷◌}
use Rattle.std.specs.Prelude.{Option, None, Some, IfSome, unsigned_abs, ◌||◌, ◌+ℤ◌}
use Rattle.std.specs.Int.{w64}
use Rattle.std.specs.List.{FoldsTo, list_any}
use Rattle.std.specs.Option.{option_to_list}
use Rattle.std.proofs.Math.IntN.{+ℤ_idl, +ℤ_idr, +ℤ_assoc}
use Rattle.fix_interval.specs.Interval.{Interval}
use Rattle.fix_interval.specs.Tree.{enc}
use Rattle.fix_interval.specs.Values.{sub_of}
use Rattle.fix_interval.proofs.WholeFactors.{within-64}
use Rattle.scene_geom.specs.declared.plan.Pt.{Pt}
use Rattle.scene_geom.specs.declared.plan.Side.{Side}
use Rattle.scene_geom.specs.declared.meetings.crossing.Passage.{Passage}
use Rattle.scene_geom.specs.Crossing.{passage_of}
use Rattle.scene_geom.specs.Direction.{direct}
use Rattle.scene_geom.specs.Fraction.{is_inside}
use Rattle.scene_geom.specs.Outline.{ring, passages_of, winding_of, meets_of}
use Rattle.scene_parts.specs.Parts.{Zone}
use Rattle.path_shape.specs.declared.path.Path.{Path}
use Rattle.path_shape.proofs.Folding.{folds-next}
use Rattle.path_shape.specs.Outlines.{whole}
use Rattle.path_shape.specs.inner.Stretches.{walked}
use Rattle.term_ground.specs.declared.coverage.line.Line.{Line}
use Rattle.term_ground.specs.declared.coverage.crossed.Crossed.{Crossed}
use Rattle.term_ground.specs.declared.extents.extent.Extent.{Extent}
use Rattle.term_ground.specs.declared.extents.extent.Extents.{Extents}
use Rattle.term_ground.specs.declared.legs.stretch.Regional.{Regional}
use Rattle.term_ground.specs.declared.legs.stretch.Stretches.{Stretches}
use Rattle.term_ground.specs.Lengths.{factor}
use Rattle.term_ground.specs.inner.Extents.{by_ends, regional_of, AreSections}
use Rattle.term_ground.specs.inner.Lines.{IsLine, Adds, IsWalk}
use Rattle.term_ground.specs.inner.Walks.{advanced, lengths_along, nothing, stretches_of, with_term_of, with_zones}
use Rattle.term_ground.proofs.Walking.{passage-next, zones-met, zones-unmet}

pub winding-passed : (z w : ℤ) → z ≡ w → unsigned_abs z < 2 ^ 62 → to_z w64 (of_z w64 z) ≡ w
winding-passed z w e h = within-64 z (omega (arith, h)) ∙ e

-- a side that crosses the line
pub side-added : (line : Line) (crossed : Crossed) (side : Side) (passage : Passage) (result : Option Crossed)
    → passage_of side line.s (direct line.s line.r) ≡ Some passage → IfSome result (λ after. Adds line crossed passage after)
    → IfSome result (λ after. FoldsTo (λ a passage b. Adds line a passage b) crossed (option_to_list (passage_of side line.s (direct line.s line.r))) after)
side-added line crossed side passage None e adds = adds
side-added line crossed side passage (Some after) e adds = rw e (after, adds, refl)

-- what passages add one after another
record AddsAll (line : Line) (crossed : Crossed) (passages : List Passage) (after : Crossed) : Type 0 where
  between : after.between ≡ (crossed.between || list_any (λ passage. is_inside passage.place whole) passages)
  winding : after.winding ≡ crossed.winding +ℤ winding_of passages
  lengths : (stretches : Stretches) → AreSections line.sections stretches
      → regional_of after.lengths ≡ advanced (walked passages) (regional_of crossed.lengths) stretches

or-false : (a : Bool) → a ≡ (a || false)
or-false true = refl
or-false false = refl

or-assoc : (a b c : Bool) → ((a || b) || c) ≡ (a || (b || c))
or-assoc true b c = refl
or-assoc false b c = refl

all-added : (line : Line) (passages : List Passage) (crossed after : Crossed) → FoldsTo (λ a passage b. Adds line a passage b) crossed passages after
    → AddsAll line crossed passages after
all-added line [] crossed after e =
    subst (λ (c : Crossed). AddsAll line crossed [] c) e
    record {
      between = or-false crossed.between;
      winding = sym (+ℤ_idr crossed.winding);
      lengths = λ stretches are. refl;
    }
all-added line (passage ∷ passages) crossed after (j, step, rest) =
    let all = all-added line passages j after rest in
    record {
      between =
          all.between
          ∙ ap (λ (b : Bool). b || list_any (λ passage. is_inside passage.place whole) passages) step.between
          ∙ or-assoc crossed.between (is_inside passage.place whole) (list_any (λ passage. is_inside passage.place whole) passages);
      winding = all.winding ∙ ap (λ (z : ℤ). z +ℤ winding_of passages) step.winding ∙ +ℤ_assoc crossed.winding _ (winding_of passages);
      lengths = λ stretches are.
          all.lengths stretches are
          ∙ ap (λ (r : Regional). advanced (walked passages) r stretches) (step.lengths stretches are)
          ∙ sym (passage-next passage passages (regional_of crossed.lengths) stretches);
    }

pub walk-is : (line : Line) (outline : List Pt) (start after : Crossed) → start.between ≡ false → start.winding ≡ pos 0 → regional_of start.lengths ≡ nothing
    → FoldsTo (λ a passage b. Adds line a passage b) start (passages_of (ring outline) line.s (direct line.s line.r)) after
    → IsWalk line outline after
walk-is line outline start after between winding lengths folds =
    let all = all-added line (passages_of (ring outline) line.s (direct line.s line.r)) start after folds in
    record {
      met = rw (all.between, between, all.winding, winding, +ℤ_idl (winding_of (passages_of (ring outline) line.s (direct line.s line.r)))) refl;
      lengths = λ stretches are.
          all.lengths stretches are
          ∙ ap (λ (r : Regional). advanced (walked (passages_of (ring outline) line.s (direct line.s line.r))) r stretches) lengths;
    }

-- the last side
pub last-added : (line : Line) (outline : List Pt) (crossed : Crossed) (side : Side) (sides : List Side) (result : Option Crossed) → sides ≡ side ∷ []
    → IfSome result (λ after. FoldsTo (λ a passage b. Adds line a passage b) crossed (option_to_list (passage_of side line.s (direct line.s line.r))) after)
    → ((last : Crossed) → FoldsTo (λ a passage b. Adds line a passage b) crossed (passages_of sides line.s (direct line.s line.r)) last → IsWalk line outline last)
    → IfSome result (λ last. IsWalk line outline last)
last-added line outline crossed side sides None e folds walks = folds
last-added line outline crossed side sides (Some after) e folds walks =
    walks after (folds-next (λ a passage b. Adds line a passage b) side sides [] line.s (direct line.s line.r) crossed after after e folds refl)

-- ---- zones

module _ (line : Line) (path : Path) (zone : Zone) (outside : Interval) (total : Regional) (is : IsLine line path) where
  pub along-unmet : meets_of zone.points line.s (direct line.s line.r) whole ≡ false → total ≡ with_zones (zone ∷ []) outside path total
  along-unmet unmet =
      zones-unmet zone outside path (direct line.s line.r) total (stretches_of path) is.legs_are
      (subst (λ (s : Pt). meets_of zone.points s (direct line.s line.r) whole ≡ false) is.s_is unmet)

  pub along-met : (difference : Extent) (lengths : Extents) → meets_of zone.points line.s (direct line.s line.r) whole ≡ true
      → by_ends difference ≡ sub_of (enc (factor zone.g)) outside
      → regional_of lengths ≡ lengths_along zone.points line.s (direct line.s line.r) (stretches_of path)
      → record {
        source = with_term_of total.source (by_ends difference) (by_ends lengths.source) (by_ends line.widths.source);
        middle = with_term_of total.middle (by_ends difference) (by_ends lengths.middle) (by_ends line.widths.middle);
        receiver = with_term_of total.receiver (by_ends difference) (by_ends lengths.receiver) (by_ends line.widths.receiver);
      } ≡ with_zones (zone ∷ []) outside path total
  along-met difference lengths met d l =
      ap
      (λ (widths : Regional). record {
        source = with_term_of total.source (by_ends difference) (by_ends lengths.source) widths.source;
        middle = with_term_of total.middle (by_ends difference) (by_ends lengths.middle) widths.middle;
        receiver = with_term_of total.receiver (by_ends difference) (by_ends lengths.receiver) widths.receiver;
      })
      (sym is.widths_are)
      ∙ zones-met zone outside path (direct line.s line.r) total (stretches_of path) (by_ends difference) (regional_of lengths) is.legs_are
      (subst (λ (s : Pt). meets_of zone.points s (direct line.s line.r) whole ≡ true) is.s_is met) d
      (subst (λ (s : Pt). regional_of lengths ≡ lengths_along zone.points s (direct line.s line.r) (stretches_of path)) is.s_is l)
