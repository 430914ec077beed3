-- Where an undo leads.
use Rattle.std.specs.Prelude.{◌≡◌, ℕ, List, [], ◌∷◌, ◌++◌, Some}
use Rattle.scene_book.specs.Orders.{Shuffled, SameParts}
use Rattle.scene_book.specs.declared.edits.Edit.{Edit}
use Rattle.map_board.specs.Journal.{scene_at, newest_scene}
use Rattle.map_board.specs.Showing.{settled_rows}
use Rattle.noise_map.specs.Effects.{Past, edits_back, effect_at, point_after, journal_of}

-- All edits that lead back to a version from this past were accepted, and the scene has the parts that it had there. So
-- a settle shows the receivers of that version, and no others, with their levels of then, in any order.
pub record IsBackAt (to : ℕ) (past : Past) (journal : List Edit) : Type 0 where
  pub accepted : journal ≡ past.journal ++ edits_back to past
  pub parts : SameParts (scene_at past.journal to) (newest_scene journal)
  pub rows : Shuffled (settled_rows (scene_at past.journal to)) (settled_rows (newest_scene journal))

-- Each accepted undo among these lines has led back to its version, and the scene stays there until the next accepted
-- edit.
abbrev pub LeadsBack : List (List ℕ) → Type 0
LeadsBack done =
    (before more rest : List (List ℕ)) (line : List ℕ) (to : ℕ) → done ≡ before ++ line ∷ more ++ rest
    → (effect_at (point_after before) line).back ≡ Some to
    → journal_of (before ++ line ∷ more) ≡ journal_of (before ++ line ∷ [])
    → IsBackAt to (point_after before).past (journal_of (before ++ line ∷ more))
