-- Edits undone one after the other, the last first.
use Rattle.std.proofs.Common.{◌≡◌, ℕ, refl, sym, subst, ◌∙◌, List, [], ◌∷◌, ◌++◌}
use Rattle.std.specs.Prelude.{Option, Some, None, IfSome, Result, Ok, Err, All, map, slice_index_or}
use Rattle.std.proofs.lemmas.List.Elements.{All-nil, All-cons, All-head, All-tail, All-map}
use Rattle.scene_parts.specs.Answers.{◌>>=◌}
use Rattle.scene_parts.specs.declared.parts.Part.{Part}
use Rattle.scene_parts.specs.Parts.{setting_of}
use Rattle.scene_book.specs.declared.edits.Edit.{Edit}
use Rattle.scene_book.specs.declared.edits.Edit.TheVariants as edits
use Rattle.scene_book.specs.declared.edits.EditFault.{EditFault}
use Rattle.scene_book.specs.Lists.{named}
use Rattle.scene_book.specs.Book.{Book}
use Rattle.scene_book.specs.Applying.{apply_of, applied, part_named}
use Rattle.scene_book.specs.Orders.{SameParts}
use Rattle.scene_book.specs.Orders.Shuffled.{same, after}
use Rattle.scene_undo.specs.Inverse.{names_in, put_back, inverse_of}
use Rattle.scene_undo.specs.Scenes.{IsScene, IsEdit}
use Rattle.scene_undo.specs.Laws.{LeadTo, InverseIsOfEdits, Entry, IsTrail, inverses_of, TrailLaw}
use Rattle.scene_undo.proofs.Maps.{turned}
use Rattle.scene_undo.proofs.Kept.{all-found, scene-kept}
use Rattle.scene_undo.proofs.Undoing.{of_found, undo}

-- ---- the same parts

pub same-parts : (a : Book) → SameParts a a
same-parts a = search same

pub same-parts-turned : (a b : Book) → SameParts a b → SameParts b a
same-parts-turned a b h = search (turned, sym h.globals)

pub same-parts-on : (a b c : Book) → SameParts a b → SameParts b c → SameParts a c
same-parts-on a b c h k = search (after, k.globals ∙ h.globals)

-- ---- edits in a row

pub applied-append : (xs ys : List Edit) (book : Book) → applied (xs ++ ys) book ≡ (applied xs book >>= λ next. applied ys next)
applied-append [] ys book = refl
applied-append (edit ∷ xs) ys book = by (apply_of edit book) (λ next. applied-append xs ys next)
  where
    by : (r : Result (Book × Option Part) EditFault)
        → ((next : Book) → applied (xs ++ ys) next ≡ (applied xs next >>= λ last. applied ys last))
        → (r >>= λ next. applied (xs ++ ys) next.0) ≡ ((r >>= λ next. applied xs next.0) >>= λ last. applied ys last)
    by (Ok next) rest = rest next.0
    by (Err fault) rest = refl

-- edits that lead to the parts of a scene, and then edits that lead on from those parts
pub lead-through : (middle goal : Book) (xs ys : List Edit) (from : Book) → LeadTo middle xs from
    → ((next : Book) → SameParts middle next → LeadTo goal ys next) → LeadTo goal (xs ++ ys) from
lead-through middle goal xs ys from h on =
    let rest = on h.0 h.2 in
    (rest.0, applied-append xs ys from ∙ rw h.1 rest.1, rest.2)

-- accepted edits of a scene lead to a scene
pub scene-after : (xs : List Edit) (a b : Book) → All IsEdit xs → IsScene a → applied xs a ≡ Ok b → IsScene b
scene-after [] a b all is e = let here : a ≡ b = cc in subst IsScene here is
scene-after (edit ∷ xs) a b all is e =
    by (apply_of edit a) refl (λ next is-next h. scene-after xs next b (All-tail IsEdit edit xs all) is-next h) e
  where
    by : (r : Result (Book × Option Part) EditFault) → apply_of edit a ≡ r
        → ((next : Book) → IsScene next → applied xs next ≡ Ok b → IsScene b)
        → (r >>= λ next. applied xs next.0) ≡ Ok b → IsScene b
    by (Ok next) h rest e = rest next.0 (scene-kept edit a next.0 next.1 (All-head IsEdit edit xs all) is h) e
    by (Err fault) h rest e = cc

-- ---- trails

pub trail-moved : (start : Book) (entries : List Entry) (top other : Book) → SameParts top other
    → IsTrail start entries top → IsTrail start entries other
trail-moved start [] top other is h = same-parts-on start top other h is
trail-moved start (entry ∷ earlier) top other is h =
    (h.0, h.1, (h.2.0, h.2.1, h.2.2, same-parts-on h.2.0 top other h.2.3 is), h.3)

pub trail : TrailLaw
trail [] start top h = (top, refl, h)
trail (entry ∷ earlier) start top h =
    lead-through entry.before start (inverse_of entry.edit entry.before) (inverses_of earlier) top
    (undo entry.edit entry.before top h.2.0 h.2.1 h.0 h.1 h.2.2 h.2.3)
    (λ next is. trail earlier start next (trail-moved start earlier entry.before next is h.3))

-- ---- the ranges of an inverse

found-in-range : {A : Type 0} (P : A → Type 0) (name_of : A → List ℕ) (name : List ℕ) (xs : List A) → All P xs → IfSome (named name_of name xs) P
found-in-range {A = A} P name_of name xs all = by (named name_of name xs) refl
  where
    by : (found : Option A) → named name_of name xs ≡ found → IfSome found P
    by None e = tt
    by (Some x) e = all-found P name_of name x xs e all

rangeless : {A : Type 0} (found : Option A) → IfSome found (λ x. Unit {0})
rangeless None = tt
rangeless (Some x) = tt

put_back-edit : (a : Book) → IsScene a → (name : List ℕ) → IsEdit (put_back name (part_named a name))
put_back-edit a is name = by (part_named a name) in-range
  where
    in-range : IfSome (part_named a name) (λ part. IsEdit (edits.Put part))
    in-range = of_found (λ part. IsEdit (edits.Put part)) a name (search (found-in-range, rangeless))

    by : (found : Option Part) → IfSome found (λ part. IsEdit (edits.Put part)) → IsEdit (put_back name found)
    by None is = tt
    by (Some part) is = is

names-edits : (a : Book) → IsScene a → (names : List (List ℕ)) → All IsEdit (map (λ name. put_back name (part_named a name)) names)
names-edits a is names =
    All-map IsEdit (λ name. put_back name (part_named a name)) names (λ k d h. put_back-edit a is (slice_index_or names k d))

pub inverse-edits : InverseIsOfEdits
inverse-edits (edits.Put part) a is = names-edits a is (names_in (edits.Put part))
inverse-edits (edits.Remove name) a is = names-edits a is (names_in (edits.Remove name))
inverse-edits (edits.Grid grid) a is = names-edits a is (names_in (edits.Grid grid))
inverse-edits (edits.Set setting) a is =
    All-cons IsEdit (edits.Set (setting_of a.globals)) []
    (record { reach = is.globals.reach; ground_factor = is.globals.ground_factor; c0 = is.globals.c0 })
    (All-nil IsEdit)
