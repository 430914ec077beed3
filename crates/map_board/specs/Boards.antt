-- What a board holds, and what it keeps.
use Rattle.std.specs.Prelude.{Bool, ◌||◌, List, [], ◌∷◌}
use Rattle.std.specs.Option.{option_map}
use Rattle.scene_parts.specs.Parts.{Receiver}
use Rattle.scene_book.specs.declared.edits.Edit.{Edit}
use Rattle.map_board.specs.declared.rows.KeptLevels.{KeptLevels}
use Rattle.map_board.specs.declared.rows.HeldRow.{HeldRow}
use Rattle.map_board.specs.declared.rows.Tally.{Tally}
use Rattle.map_board.specs.Rows.{Kept, Row, Counts, is_needy, is_out}

-- ---- what a board's fields stand for

abbrev pub kept_of : KeptLevels → Kept
kept_of kept = record { version = kept.version; levels = kept.levels }

abbrev pub row_of : Receiver → HeldRow → Row
row_of r held = record { receiver = r; since = held.since; kept = option_map kept_of held.kept; out = held.out }

-- the rows, each with the receiver at its place
abbrev pub rows_of : List Receiver → List HeldRow → List Row
rows_of [] helds = []
rows_of (r ∷ rs) [] = []
rows_of (r ∷ rs) (held ∷ helds) = row_of r held ∷ rows_of rs helds

abbrev pub counts_of : Tally → Counts
counts_of tally = record { taken = tally.taken; kept = tally.kept; gone = tally.gone; back = tally.back }

-- ---- what its calls find

-- a row is neither settled nor will it be by itself: it is needy or out
abbrev pub is_unsettled : List Edit → Row → Bool
is_unsettled journal row = is_needy journal row || is_out row
