-- Edits that leave the names of a scene's sources as they are, and their order.
use Rattle.std.proofs.Common.{◌≡◌, ℕ, List, [], ◌++◌, map, sym, ap, ◌∙◌}
use Rattle.std.specs.Prelude.{Option}
use Rattle.std.proofs.lemmas.List.{map-append}
use Rattle.scene_parts.specs.Parts.{Source, Grid, Setting}
use Rattle.scene_parts.specs.declared.parts.Part.{Part}
use Rattle.scene_book.specs.Book.{Book}
use Rattle.scene_book.specs.Laws.{Edited, pieces_of, pieces_of_any}
use Rattle.scene_book.specs.declared.edits.Edit.TheVariants as edits
use Rattle.scene_book.proofs.EditLemmas.{accepted-changes}
use Rattle.touch_test.proofs.Edits.{answers-old}
use Rattle.map_board.specs.inner.Sources.{LeavesSourceNames}

abbrev pub name_of : Source → List ℕ
name_of source = source.name

-- a list edited by a piece of the same names has the same names
same-names : (old new xs ys : List Source) → Edited old new xs ys → map name_of new ≡ map name_of old → map name_of ys ≡ map name_of xs
same-names old new xs ys e same =
    ap (map name_of) e.is
    ∙ (with-piece new
    ∙ ((λ i. map name_of e.before ++ (same i ++ map name_of e.after))
    ∙ (sym (with-piece old) ∙ ap (map name_of) (sym e.was)))) where
      with-piece : (piece : List Source) → map name_of (e.before ++ (piece ++ e.after)) ≡ map name_of e.before ++ (map name_of piece ++ map name_of e.after)
      with-piece piece =
          map-append name_of e.before (piece ++ e.after)
          ∙ ap (λ rest. map name_of e.before ++ rest) (map-append name_of piece e.after)

-- a put, where the part and the one that it replaces are sources of one name, or none of them is a source
pub put-leaves-names : (part : Part) (old : Option Part) → map name_of (pieces_of part).sources ≡ map name_of (pieces_of_any old).sources
    → LeavesSourceNames (edits.Put part) old
put-leaves-names part old same book after accepted =
    let ch = accepted-changes (edits.Put part) book after old accepted in
    let is = answers-old (edits.Put part) book after old accepted in
    same-names _ _ book.sources after.sources ch.lists.sources (same ∙ ap (λ (o : Option Part). map name_of (pieces_of_any o).sources) (sym is))

-- a removal of no source
pub removal-leaves-names : (name : List ℕ) (old : Option Part) → [] ≡ map name_of (pieces_of_any old).sources → LeavesSourceNames (edits.Remove name) old
removal-leaves-names name old none book after accepted =
    let ch = accepted-changes (edits.Remove name) book after old accepted in
    let is = answers-old (edits.Remove name) book after old accepted in
    same-names _ _ book.sources after.sources ch.lists.sources (none ∙ ap (λ (o : Option Part). map name_of (pieces_of_any o).sources) (sym is))

pub grid-leaves-names : (grid : Grid) (old : Option Part) → LeavesSourceNames (edits.Grid grid) old
grid-leaves-names grid old book after accepted =
    let ch = accepted-changes (edits.Grid grid) book after old accepted in ap (λ (b : Book). map name_of b.sources) ch.0

pub setting-leaves-names : (setting : Setting) (old : Option Part) → LeavesSourceNames (edits.Set setting) old
setting-leaves-names setting old book after accepted =
    let ch = accepted-changes (edits.Set setting) book after old accepted in ap (λ (b : Book). map name_of b.sources) ch
