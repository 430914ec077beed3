-- How many bundles have to be calculated for a row.
use Rattle.std.specs.Prelude.{ℕ, Bool, true, false, ◌||◌, is_some, is_none, List, count_by, Option, Some, None}
use Rattle.std.specs.Option.{option_map_or}
use Rattle.scene_parts.specs.Parts.{Source, Receiver}
use Rattle.scene_book.specs.Book.{Book}
use Rattle.scene_book.specs.Lists.{named}
use Rattle.scene_book.specs.declared.edits.Edit.{Edit}
use Rattle.path_calc.specs.Show.{sources_within}
use Rattle.touch_test.specs.Touches.{touches_path}
use Rattle.map_board.specs.Journal.{scene_at, newest_scene, first_after}
use Rattle.map_board.specs.Rows.{Kept, Row}

-- the source of a name within reach of a receiver
abbrev pub source_within : Book → Receiver → List ℕ → Option Source
source_within book r name = named (λ s. s.name) name (sources_within book r)

-- an edit touches the path from the source of a name to a receiver, where that source is within reach before the edit
abbrev pub touches_source : Receiver → List ℕ → Edit → Book → Bool
touches_source r name edit book = option_map_or (touches_path edit book r) (source_within book r name) false

-- The bundle of a source is due where nothing is kept, where the source wasn't within reach at the kept version, or
-- where an edit after that version touches the path from it
abbrev pub is_due : List Edit → Option Kept → Receiver → Source → Bool
is_due journal None r s = true
is_due journal (Some kept) r s =
    is_none (source_within (scene_at journal kept.version) r s.name)
    || is_some (first_after (touches_source r s.name) journal kept.version)

-- how many of the sources within reach in the newest scene are due
abbrev pub due_of : List Edit → Row → ℕ
due_of journal row =
    count_by (is_due journal row.kept row.receiver) (sources_within (newest_scene journal) row.receiver)
