-- What undoing an edit, or edits, leads to.
use Rattle.std.specs.Prelude.{◌≡◌, List, [], ◌∷◌, flat_map, Option, Result, Ok, Err, All}
use Rattle.scene_parts.specs.declared.parts.Part.{Part}
use Rattle.scene_book.specs.declared.edits.Edit.{Edit}
use Rattle.scene_book.specs.declared.edits.EditFault.{EditFault}
use Rattle.scene_book.specs.Book.{Book, NamesAreApart}
use Rattle.scene_book.specs.Applying.{apply_of, applied}
use Rattle.scene_book.specs.Orders.{SameParts}
use Rattle.scene_undo.specs.Inverse.{inverse_of}
use Rattle.scene_undo.specs.Scenes.{IsScene, IsEdit}

-- an accepted edit makes a scene of a scene
abbrev pub SceneIsKept : Type 0
SceneIsKept = (edit : Edit) (a b : Book) (old : Option Part)
    → IsEdit edit → IsScene a → apply_of edit a ≡ Ok (b, old) → IsScene b

-- two answers of one edit: scenes of the same parts with the same old part, or the same fault
abbrev pub Agree : Result (Book × Option Part) EditFault → Result (Book × Option Part) EditFault → Type 0
Agree (Ok x) (Ok y) = SameParts x.0 y.0 × (x.1 ≡ y.1)
Agree (Err fault) (Err other) = fault ≡ other
Agree answer other = ⊥

-- scenes of the same parts answer an edit alike
abbrev pub EditsAgree : Type 0
EditsAgree = (edit : Edit) (a b : Book) → NamesAreApart a → SameParts a b
    → Agree (apply_of edit a) (apply_of edit b)

-- edits that are accepted one after the other from a scene, and lead to the parts of another
abbrev pub LeadTo : Book → List Edit → Book → Type 0
LeadTo goal edits from = (after : Book) × (applied edits from ≡ Ok after) × SameParts goal after

-- edits undo an edit of a scene: from any scene of the parts that it left, they lead back to the parts that were
abbrev pub IsUndone : Edit → Book → List Edit → Type 0
IsUndone edit a undo = (b c : Book) (old : Option Part)
    → IsEdit edit → IsScene a → apply_of edit a ≡ Ok (c, old) → SameParts c b → LeadTo a undo b

-- an edit's inverse undoes it
abbrev pub UndoLaw : Type 0
UndoLaw = (edit : Edit) (a : Book) → IsUndone edit a (inverse_of edit a)

-- and is made of edits that keep their ranges
abbrev pub InverseIsOfEdits : Type 0
InverseIsOfEdits = (edit : Edit) (a : Book) → IsScene a → All IsEdit (inverse_of edit a)

-- an edit, and the scene before it
pub record Entry : Type 0 where
  pub edit : Edit
  pub before : Book

-- an entry's edit is accepted, and leaves the parts of this scene
abbrev pub LeavesPartsOf : Entry → Book → Type 0
LeavesPartsOf entry top = (after : Book) × (old : Option Part)
    × (apply_of entry.edit entry.before ≡ Ok (after, old)) × SameParts after top

-- entries, the last first, that lead from the parts of one scene to those of the other: each leaves the parts that
-- the later one began with
abbrev pub IsTrail : Book → List Entry → Book → Type 0
IsTrail start [] top = SameParts start top
IsTrail start (entry ∷ earlier) top =
    IsEdit entry.edit × IsScene entry.before × LeavesPartsOf entry top × IsTrail start earlier entry.before

-- the edits that undo entries, the last first
abbrev pub inverses_of : List Entry → List Edit
inverses_of entries = flat_map (λ entry. inverse_of entry.edit entry.before) entries

-- they lead back to the parts of the first scene
abbrev pub TrailLaw : Type 0
TrailLaw = (entries : List Entry) (start top : Book)
    → IsTrail start entries top → LeadTo start (inverses_of entries) top
