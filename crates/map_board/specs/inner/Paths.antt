-- The kept paths of rows, and which of them an edit touches.
use Rattle.std.specs.Prelude.{Bool, not, ◌&&◌, List, [], ◌∷◌, ◌++◌, map, Option, Some, None}
use Rattle.std.specs.List.{zip}
use Rattle.scene_parts.specs.Parts.{Receiver}
use Rattle.scene_book.specs.declared.edits.Logged.{Logged}
use Rattle.path_calc.specs.Bundles.{Bundle}
use Rattle.map_board.specs.declared.rows.caches.Cache.{Cache}
use Rattle.map_board.specs.declared.rows.HeldRow.{HeldRow}
use Rattle.map_board.specs.declared.edits.testing.Path.{Path}
use Rattle.map_board.specs.inner.Boards.{is_held_current}
use Rattle.map_board.specs.inner.Marks.{mark_after}

-- bundles, each with its mark where the marks count
abbrev pub counted : Bool → Cache → List (Bundle × Bool)
counted counts cache = map (λ kept. (kept.0, counts && kept.1)) (zip cache.bundles.items cache.marks.items)

-- those of a row, none while they are out. The marks of a current row don't count, and none is set: so whether an edit
-- touches one of its paths is known without asking for that
abbrev pub kept_in : Bool → Option Cache → List (Bundle × Bool)
kept_in counts None = []
kept_in counts (Some cache) = counted counts cache

abbrev pub kept_of_row : HeldRow → List (Bundle × Bool)
kept_of_row held = kept_in (not (is_held_current held)) held.cache

-- those of a row, if there is a row
abbrev pub kept_at : Option HeldRow → List (Bundle × Bool)
kept_at None = []
kept_at (Some held) = kept_of_row held

-- ---- paths

-- what stands for a path: its receiver, its bundle and its mark
abbrev pub path_seen : Path → Receiver × (Bundle × Bool)
path_seen path = (path.receiver.now, (path.bundle.now, path.marked))

-- the paths of bundles to their receiver
abbrev pub paths_to : Receiver → List (Bundle × Bool) → List (Receiver × (Bundle × Bool))
paths_to r kepts = map (λ kept. (r, kept)) kepts

-- the paths of rows, row by row, each to the receiver at its row's place
abbrev pub paths_of : List Receiver → List HeldRow → List (Receiver × (Bundle × Bool))
paths_of [] helds = []
paths_of (r ∷ rs) [] = []
paths_of (r ∷ rs) (held ∷ helds) = paths_to r (kept_of_row held) ++ paths_of rs helds

-- ---- tests

-- a path is marked, or an edit with its old part touches it
abbrev pub test_of : Logged → Receiver × (Bundle × Bool) → Bool
test_of logged path = mark_after logged.edit logged.old path.0 path.1

-- which of a receiver's paths are
abbrev pub tests_to : Logged → Receiver → List (Bundle × Bool) → List Bool
tests_to logged r kepts = map (mark_after logged.edit logged.old r) kepts

-- which of all rows' paths
abbrev pub tests_of : Logged → List Receiver → List HeldRow → List Bool
tests_of logged rs helds = map (test_of logged) (paths_of rs helds)
