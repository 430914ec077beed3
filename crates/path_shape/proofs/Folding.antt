-- What a fold over the passages of an outline gives.
use Rattle.std.proofs.Common.{◌≡◌, sym, ap, subst, ◌∙◌, List, [], ◌∷◌}
use Rattle.std.specs.Prelude.{Option, Some, None}
use Rattle.std.specs.List.{FoldsTo, fold, cons_option}
use Rattle.std.specs.Option.{option_to_list}
use Rattle.scene_geom.specs.declared.plan.Pt.{Pt}
use Rattle.scene_geom.specs.declared.plan.Side.{Side}
use Rattle.scene_geom.specs.declared.directions.direction.Dir.{Dir}
use Rattle.scene_geom.specs.declared.meetings.crossing.Passage.{Passage}
use Rattle.scene_geom.specs.Crossing.{passage_of}
use Rattle.scene_geom.specs.Outline.{passages_of}

folds-hit : {P X : Type 0} (R : P → X → P → Type 0) (hit : Option X) (xs : List X) (a b c : P)
    → FoldsTo R a (option_to_list hit) b → FoldsTo R b xs c → FoldsTo R a (cons_option hit xs) c
folds-hit {P = P} R None xs a b c e h = subst (λ (p : P). FoldsTo R p xs c) (sym e) h
folds-hit {P = P} R (Some x) xs a b c (j, step, e) h = (j, step, subst (λ (p : P). FoldsTo R p xs c) (sym e) h)

-- one side more
pub folds-next : {P : Type 0} (R : P → Passage → P → Type 0) (side : Side) (sides sides' : List Side) (from : Pt) (dir : Dir) (a b c : P) → sides ≡ side ∷ sides'
    → FoldsTo R a (option_to_list (passage_of side from dir)) b → FoldsTo R b (passages_of sides' from dir) c → FoldsTo R a (passages_of sides from dir) c
folds-next R side sides sides' from dir a b c e h k =
    subst (λ (s : List Side). FoldsTo R a (passages_of s from dir) c) (sym e) (folds-hit R (passage_of side from dir) (passages_of sides' from dir) a b c h k)

-- a fold by steps of which each gives what a function gives
pub folds-as : {P X : Type 0} (R : P → X → P → Type 0) (f : P → X → P) → ((a : P) (x : X) (b : P) → R a x b → b ≡ f a x)
    → (xs : List X) (a b : P) → FoldsTo R a xs b → b ≡ fold f a xs
folds-as R f each [] a b e = sym e
folds-as {P = P} R f each (x ∷ xs) a b (j, step, rest) =
    folds-as R f each xs j b rest ∙ ap (λ (p : P). fold f p xs) (each a x j step)
