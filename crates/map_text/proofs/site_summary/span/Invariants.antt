-- The levels of the rows so far.
use Rattle.std.proofs.Common.{◌≡◌, take}
use Rattle.std.specs.Prelude.{fold, None, IfSome}
use Rattle.path_calc.specs.Levels.{IsLevel}
use Rattle.map_board.specs.declared.looks.LookRow.{LookRow}
use Rattle.map_text.specs.SiteSummary.{span_with}
use Rattle.map_text.proofs.site_summary.span.Given as goal

abbrev pub invariant-loop-row : goal.invariant-loop-row
invariant-loop-row l = record {
  widened : l.span ≡ fold (λ s (row : LookRow). span_with s row.shown) None (take l.row-index l.rows);
  level : IfSome l.span IsLevel;
}
