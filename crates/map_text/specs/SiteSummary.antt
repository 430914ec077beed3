-- What the lines of a generated site come to, as its one row tells it.
use Rattle.std.specs.Prelude.{ℕ, pos, List, fold, Option, Some, None, unwrap_or}
use Rattle.fix_interval.specs.Interval.{Interval}
use Rattle.fix_interval.specs.Values.{hull_of}
use Rattle.map_board.specs.declared.answers.Shown.{Shown}
use Rattle.map_board.specs.declared.answers.Shown.TheVariants.{Current}
use Rattle.map_board.specs.declared.looks.LookRow.{LookRow}
use Rattle.map_text.specs.declared.site_summary.SiteSummary.{SiteSummary}
use Rattle.map_text.specs.Rows.{made_row}

-- 0 dB
abbrev pub no_level : Interval
no_level = record { lo = Some (pos 0); hi = Some (pos 0) }

-- before the first line
abbrev pub nothing_told : SiteSummary
nothing_told = record { refused = 0; receivers = 0; span = no_level }

-- from the least low end to the greatest high end of the levels so far and one more
abbrev pub widened : Option Interval → Interval → Option Interval
widened None level = Some level
widened (Some span) level = Some (hull_of span level)

-- the levels so far and those of one more row that is current
abbrev pub span_with : Option Interval → Shown → Option Interval
span_with span (Current levels) = widened span levels.total
span_with span shown = span

-- those of all rows that are current, and 0 dB where there is none
unfoldable pub span_of_rows : List LookRow → Interval
span_of_rows rows = unwrap_or (fold (λ span (row : LookRow). span_with span row.shown) None rows) no_level

-- The row that tells it: the last version, the number of the site, how many lines were refused, and of the last settle
-- how many receivers there are and their levels
abbrev pub row_of_summary : ℕ → ℕ → SiteSummary → List ℕ
row_of_summary number version summary =
    made_row version summary.receivers number summary.refused
    (unwrap_or summary.span.lo (pos 0)) (unwrap_or summary.span.hi (pos 0))
