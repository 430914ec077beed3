use Rattle.std.proofs.Common.{ap, ◌∙◌, List}
use Rattle.std.specs.Prelude.{Option, None, fold, unwrap_or}
use Rattle.std.proofs.lemmas.List.{take_all}
use Rattle.fix_interval.specs.Interval.{Interval}
use Rattle.map_board.specs.declared.looks.LookRow.{LookRow}
use Rattle.map_text.specs.SiteSummary.{no_level, span_with, span_of_rows}
use Rattle.map_text.proofs.Spans.{nothing-level, nothing-is_level, known-level}
use Rattle.map_text.proofs.site_summary.span.Goals as goal

pub returns-clause-value : goal.returns-clause-value
unfolding span_of_rows
returns-clause-value c =
    let over = λ (rows : List LookRow). fold (λ s (row : LookRow). span_with s row.shown) None rows in
    c.unwrap_or.ensures
    ∙ ap (unwrap_or c.loop-row.span) (c.exact.ensures ∙ nothing-level)
    ∙ ap (λ (o : Option Interval). unwrap_or o no_level)
    (c.loop-row.invariant.widened ∙ ap over (take_all c.loop-row.row-index c.args.rows.now c.loop-row-test.false))

pub returns-clause-level : goal.returns-clause-level
returns-clause-level c =
    rw c.unwrap_or.ensures (known-level c.loop-row.span c.exact.result c.loop-row.invariant.level (rw (c.exact.ensures ∙ nothing-level) nothing-is_level))
