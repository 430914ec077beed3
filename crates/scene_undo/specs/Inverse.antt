-- The edits that undo an edit.
use Rattle.std.specs.Prelude.{ℕ, List, [], ◌∷◌, map, Option, Some, None}
use Rattle.scene_parts.specs.Parts.{setting_of}
use Rattle.scene_parts.specs.declared.parts.Part.{Part}
use Rattle.scene_book.specs.declared.edits.Edit.{Edit}
use Rattle.scene_book.specs.declared.edits.Edit.TheVariants as edits
use Rattle.scene_book.specs.Book.{Book}
use Rattle.scene_book.specs.Grid.{receivers_of}
use Rattle.scene_book.specs.Applying.{part_named, name_of}

-- the names that an edit puts or removes, in order
abbrev pub names_in : Edit → List (List ℕ)
names_in (edits.Put part) = name_of part ∷ []
names_in (edits.Remove name) = name ∷ []
names_in (edits.Grid grid) = map (λ receiver. receiver.name) (receivers_of grid)
names_in (edits.Set setting) = []

-- what gives a name back to the part that bore it, or to none: the part's put, or the name's remove
abbrev pub put_back : List ℕ → Option Part → Edit
put_back name None = edits.Remove name
put_back name (Some part) = edits.Put part

-- what undoes an edit of a scene: after a setting all old globals are set, and after any other edit each name is given
-- back, in order
abbrev pub inverse_of : Edit → Book → List Edit
inverse_of (edits.Set setting) before = edits.Set (setting_of before.globals) ∷ []
inverse_of edit before = map (λ name. put_back name (part_named before name)) (names_in edit)
