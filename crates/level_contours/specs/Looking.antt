-- The cells of a contour, by what a look shows of its receivers.
use Rattle.std.specs.Prelude.{ℕ, List, map, option_map, unwrap_or}
use Rattle.fix_interval.specs.Interval.{Interval, All}
use Rattle.scene_book.specs.Lists.{named}
use Rattle.map_board.specs.declared.answers.Shown.{Shown}
use Rattle.map_board.specs.declared.answers.Shown.TheVariants.{Current, Stale, New}
use Rattle.map_board.specs.declared.looks.LookRow.{LookRow}
use Rattle.map_board.specs.declared.looks.LookAll.{LookAll}
use Rattle.command_lines.specs.Views.{Contour}
use Rattle.cell_loops.specs.declared.kinds.Cell.{Cell}
use Rattle.level_contours.specs.Comparing.{cell_of}
use Rattle.level_contours.specs.GridNames.{names_of}

-- what is known of the total level of a receiver that is shown so: nothing where it isn't current
abbrev pub known_total : Shown → Interval
known_total (Current levels) = levels.total
known_total (Stale version by levels) = All
known_total (New since) = All

-- and of the receiver of a name
abbrev pub total_of : List LookRow → List ℕ → Interval
total_of rows name = unwrap_or (option_map (λ row. known_total row.shown) (named (λ row. row.name) name rows)) All

-- the cells of a contour, row by row
abbrev pub cells_of : LookAll → Contour → List Cell
cells_of look spec = map (λ name. cell_of (total_of look.rows name) spec.level) (names_of spec)
