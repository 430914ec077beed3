-- What the log's edits after a version do to bundles of that version.
use Rattle.std.specs.Prelude.{ℕ, suc, Bool, List, [], ◌∷◌, map, Option, Some, None, if◌then◌else◌}
use Rattle.scene_parts.specs.Parts.{Receiver}
use Rattle.path_calc.specs.Bundles.{Bundle}
use Rattle.touch_test.specs.Touches.{bundled, edit_touches_any}
use Rattle.map_board.specs.declared.edits.log.LogEntry.{LogEntry}
use Rattle.map_board.specs.inner.Marks.{marks_after}

-- the marks of bundles after edits, one after another
abbrev pub marks_after_all : List LogEntry → Receiver → List Bundle → List Bool → List Bool
marks_after_all [] r bundles marks = marks
marks_after_all (entry ∷ entries) r bundles marks =
    marks_after_all entries r bundles (marks_after entry.logged.edit entry.logged.old r bundles marks)

-- an edit touches a receiver that has these bundles
abbrev pub entry_touches : Receiver → List Bundle → LogEntry → Bool
entry_touches r bundles entry =
    edit_touches_any entry.logged.edit entry.logged.old entry.globals r (map (bundled r) bundles)

-- the number of the first edit that does, where so many edits came before: up to that one the bundles stay
abbrev pub first_entry_touching : Receiver → List Bundle → ℕ → List LogEntry → Option ℕ
first_entry_touching r bundles count [] = None
first_entry_touching r bundles count (entry ∷ entries) =
    if entry_touches r bundles entry then Some (suc count)
    else first_entry_touching r bundles (suc count) entries
