-- The marks of kept bundles as edits come.
use Rattle.std.specs.Prelude.{◌≡◌, ℕ, Bool, ◌||◌, bytes_eq, List, map, Option}
use Rattle.std.specs.List.{zip, list_any}
use Rattle.scene_parts.specs.Parts.{Receiver}
use Rattle.scene_parts.specs.declared.parts.Part.{Part}
use Rattle.scene_book.specs.declared.edits.Edit.{Edit}
use Rattle.path_calc.specs.Bundles.{Bundle}
use Rattle.touch_test.specs.Touches.{TracedPath, bundled, edit_touches}

-- the mark of a bundle after an edit with its old part: it stays, and is set where the edit touches the bundle's path
abbrev pub mark_after : Edit → Option Part → Receiver → Bundle × Bool → Bool
mark_after edit old r kept = kept.1 || edit_touches edit old (bundled r kept.0)

-- those of all bundles. Bundles and marks stand in one order
abbrev pub marks_after : Edit → Option Part → Receiver → List Bundle → List Bool → List Bool
marks_after edit old r bundles marks = map (mark_after edit old r) (zip bundles marks)

-- an edit with its old part touches the path of one of some bundles
abbrev pub touches_one : Edit → Option Part → Receiver → List Bundle → Bool
touches_one edit old r bundles = list_any (λ bundle. edit_touches edit old (bundled r bundle)) bundles

-- ---- edits of a source

-- an edit with its old part touches the paths from the source of a name, and no others
abbrev pub TouchesFrom : List ℕ → Edit → Option Part → Type 0
TouchesFrom name edit old = (path : TracedPath) → edit_touches edit old path ≡ bytes_eq name path.source

-- a bundle is that of the source of a name
abbrev pub is_from : List ℕ → Bundle → Bool
is_from name bundle = bytes_eq name bundle.source

-- the marks, where those of such bundles are set
abbrev pub marks_from : List ℕ → List Bundle → List Bool → List Bool
marks_from name bundles marks = map (λ kept. kept.1 || is_from name kept.0) (zip bundles marks)
