-- How much of a stretch an outline holds, found passage by passage and leg by leg.
use Rattle.std.proofs.Common.{◌≡◌, refl, sym, ap, ◌∙◌, Bool, true, false, List, [], ◌∷◌}
use Rattle.std.proofs.lemmas.Bool.{true≢false}
use Rattle.std.specs.Prelude.{Some, ◌||◌, if◌then◌else◌, map, pos, int_lt}
use Rattle.std.specs.Bool.{then_some}
use Rattle.std.specs.List.{FoldsTo, fold}
use Rattle.fix_interval.specs.Interval.{Interval}
use Rattle.fix_interval.specs.Values.{neg_of}
use Rattle.fix_interval.specs.Tree.{Tree, Known, Add, enc}
use Rattle.scene_geom.specs.declared.plan.Pt.{Pt}
use Rattle.scene_geom.specs.declared.directions.direction.Dir.{Dir}
use Rattle.scene_geom.specs.declared.meetings.crossing.Passage.{Passage}
use Rattle.scene_geom.specs.Outline.{passages_of, ring, area2_of}
use Rattle.path_shape.specs.declared.stretch.Stretch.{Stretch}
use Rattle.path_shape.specs.Forms.{zero_form}
use Rattle.path_shape.specs.Outlines.{counted, length_inside}
use Rattle.path_shape.specs.inner.Stretches.{walked, length_along, joined_lengths}
use Rattle.path_shape.proofs.Folding.{folds-as}
use Rattle.path_shape.proofs.Sums.{plus_all-known}
use Rattle.path_shape.proofs.Outlines.{same-length_inside}

-- passages that are counted one after another
pub fold-walked : (passages : List Passage) (length : Interval) (stretch : Stretch)
    → fold (λ a passage. walked (passage ∷ []) a stretch) length passages ≡ walked passages length stretch
fold-walked [] length stretch = refl
fold-walked (passage ∷ passages) length stretch =
    fold-walked passages (walked (passage ∷ []) length stretch) stretch
    ∙ sym (plus_all-known (Add (Known length) (counted (Known stretch.from) (Known stretch.to) passage)) (map (counted (Known stretch.from) (Known stretch.to)) passages))

-- the sign by the area
pub inside-turned : (outline : List Pt) (from : Pt) (dir : Dir) (stretch : Stretch) → int_lt (area2_of outline) (pos 0) ≡ true
    → neg_of (walked (passages_of (ring outline) from dir) (enc zero_form) stretch) ≡ length_along outline from dir stretch
inside-turned outline from dir stretch h =
    rw h
    (ap neg_of (sym (plus_all-known zero_form (map (counted (Known stretch.from) (Known stretch.to)) (passages_of (ring outline) from dir)))))

pub inside-straight : (outline : List Pt) (from : Pt) (dir : Dir) (stretch : Stretch) → int_lt (area2_of outline) (pos 0) ≡ false
    → walked (passages_of (ring outline) from dir) (enc zero_form) stretch ≡ length_along outline from dir stretch
inside-straight outline from dir stretch h =
    rw h
    (sym (plus_all-known zero_form (map (counted (Known stretch.from) (Known stretch.to)) (passages_of (ring outline) from dir))))

-- a fold of which each step counts a passage
module _ (R : Interval → Passage → Interval → Type 0) (stretch : Stretch) (outline : List Pt) (from : Pt) (dir : Dir) (zero length : Interval)
    (folds : FoldsTo R zero (passages_of (ring outline) from dir) length) (is-zero : zero ≡ enc zero_form)
    (each : (a : Interval) (passage : Passage) (b : Interval) → R a passage b → b ≡ walked (passage ∷ []) a stretch) where
  walks : length ≡ walked (passages_of (ring outline) from dir) (enc zero_form) stretch
  walks =
      folds-as R (λ a passage. walked (passage ∷ []) a stretch) each (passages_of (ring outline) from dir) zero length folds
      ∙ fold-walked (passages_of (ring outline) from dir) zero stretch
      ∙ ap (λ (i : Interval). walked (passages_of (ring outline) from dir) i stretch) is-zero

  pub found-turned : int_lt (area2_of outline) (pos 0) ≡ true → neg_of length ≡ length_along outline from dir stretch
  found-turned h = ap neg_of walks ∙ inside-turned outline from dir stretch h

  pub found-straight : int_lt (area2_of outline) (pos 0) ≡ false → length ≡ length_along outline from dir stretch
  found-straight h = walks ∙ inside-straight outline from dir stretch h

-- what either leg gives, by whether it is met
pub joined-is : (m n : Bool) (a b : Tree)
    → joined_lengths (then_some m (enc a)) (then_some n (enc b))
    ≡ then_some (m || n) (enc (Add (if m then a else zero_form) (if n then b else zero_form)))
joined-is true true a b = refl
joined-is true false a b = refl
joined-is false true a b = refl
joined-is false false a b = refl

-- what an outline holds on a leg that it meets
pub on-leg : (met : Bool) (outline : List Pt) (from : Pt) (dir : Dir) (a b : Tree) (stretch : Stretch) (length : Interval) → true ≡ met
    → length ≡ length_along outline from dir stretch → stretch.from ≡ enc a → stretch.to ≡ enc b
    → Some length ≡ then_some met (enc (length_inside outline from dir a b))
on-leg true outline from dir a b stretch length met is from-is to-is =
    ap Some (is ∙ same-length_inside outline from dir (Known stretch.from) a (Known stretch.to) b from-is to-is)
on-leg false outline from dir a b stretch length met is from-is to-is = absurd (true≢false met)
