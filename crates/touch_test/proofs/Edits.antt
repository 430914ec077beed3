-- Edits as they are logged, and bundles of a scene, as the definitions speak of them.
use Rattle.std.proofs.Common.{◌≡◌, ℕ, ◌*◌, length, refl, sym, ap, ◌∙◌, List, [], ◌∷◌, map}
use Rattle.std.specs.Prelude.{Option, Some, None, Result, Ok, Err}
use Rattle.scene_parts.specs.Answers.{◌>>◌}
use Rattle.scene_parts.specs.Parts.{Source, Receiver, Globals}
use Rattle.scene_parts.specs.declared.parts.Part.{Part}
use Rattle.scene_book.specs.declared.edits.Edit.{Edit}
use Rattle.scene_book.specs.declared.edits.Edit.TheVariants as edits
use Rattle.scene_book.specs.declared.edits.EditFault.{EditFault}
use Rattle.scene_book.specs.Book.{Book, at_most, most_receivers}
use Rattle.scene_parts.specs.declared.parts.Class.TheVariants as classes
use Rattle.scene_book.specs.Lists.{put_all}
use Rattle.scene_book.specs.Grid.{receivers_of}
use Rattle.scene_book.specs.Applying.{apply_of, put_of, put_where_room, remove_of, grid_of, taken, part_named, in_limits, with_part, own_class, name_of, class_of, holder, all_own}
use Rattle.path_calc.specs.Bundles.{Bundle, bundle_of}
use Rattle.path_calc.specs.Show.{sources_within, bundles_of}
use Rattle.touch_test.specs.Touches.{TracedPath, traced, bundled, old_part, edit_touches_any, touches_receiver}

abbrev Answer : Type 0
Answer = Result (Book × Option Part) EditFault

-- what an accepted edit answers is what its last step says
through : (r : Result (Unit {0}) EditFault) (rest : Answer) (y : Book × Option Part) → (r >> rest) ≡ Ok y → rest ≡ Ok y
through (Ok done) rest y e = e
through (Err fault) rest y e = cc

last : (x y : Book × Option Part) (r : Answer) → r ≡ Ok x → r ≡ Ok y → x.1 ≡ y.1
last x y r e f = let same : x ≡ y = cc in ap (λ (p : Book × Option Part). p.1) same

removed : (name : List ℕ) (found old : Option Part) (a b : Book) → taken name found a ≡ Ok (b, old) → old ≡ found
removed name None old a b e = cc
removed name (Some part) old a b e = sym (last _ (b, old) (taken name (Some part) a) refl e)

-- the old part of an accepted edit is the one that it answers
pub answers-old : (edit : Edit) (a b : Book) (old : Option Part) → apply_of edit a ≡ Ok (b, old) → old_part edit a ≡ old
unfolding apply_of put_of put_where_room remove_of grid_of
answers-old (edits.Put part) a b old e =
    last _ (b, old) _ refl (through (in_limits part (with_part part a)) _ (b, old)
    (through (own_class (name_of part) (class_of part) (holder a (name_of part))) _ (b, old) e))
answers-old (edits.Remove name) a b old e = sym (removed name (part_named a name) old a b e)
answers-old (edits.Grid grid) a b old e =
    last _ (b, old) _ refl (through (at_most classes.Receiver most_receivers (length (put_all (λ r. r.name) (receivers_of grid) a.receivers))) _ (b, old)
    (through (all_own a (receivers_of grid)) _ (b, old)
    (through (at_most classes.Receiver most_receivers (grid.columns * grid.rows)) _ (b, old) e)))
answers-old (edits.Set setting) a b old e = last _ (b, old) _ refl e

-- the bundles of a scene as paths
pub bundled-traced : (book : Book) (r : Receiver) → map (bundled r) (bundles_of book r) ≡ map (traced book r) (sources_within book r)
bundled-traced book r = by (sources_within book r)
  where
    by : (sources : List Source) → map (bundled r) (map (λ s. bundle_of book s r) sources) ≡ map (traced book r) sources
    by [] = refl
    by (s ∷ sources) = ap (λ (paths : List TracedPath). traced book r s ∷ paths) (by sources)

-- an edit that touches a receiver by its paths in a scene touches it in that scene
pub row-touched : (edit : Edit) (book after : Book) (old : Option Part) (globals : Globals) (r : Receiver) (bundles : List Bundle)
    → apply_of edit book ≡ Ok (after, old) → globals ≡ book.globals → bundles ≡ bundles_of book r
    → edit_touches_any edit old globals r (map (bundled r) bundles) ≡ touches_receiver edit book r
row-touched edit book after old globals r bundles accepted whole all =
    ap (λ (before : Option Part). edit_touches_any edit before globals r (map (bundled r) bundles)) (sym (answers-old edit book after old accepted))
    ∙ ap (λ (g : Globals). edit_touches_any edit (old_part edit book) g r (map (bundled r) bundles)) whole
    ∙ ap (λ (found : List Bundle). edit_touches_any edit (old_part edit book) book.globals r (map (bundled r) found)) all
    ∙ ap (edit_touches_any edit (old_part edit book) book.globals r) (bundled-traced book r)
