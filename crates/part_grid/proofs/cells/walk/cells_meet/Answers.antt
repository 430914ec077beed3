use Rattle.std.proofs.Common.{arith, ◌∙◌, ap}
use Rattle.part_grid.specs.Span.{common}
use Rattle.part_grid.specs.Cells.{covers, walk_rows, columns_between}
use Rattle.part_grid.proofs.Spans.{any-start}
use Rattle.part_grid.proofs.Walks.{unmet-turn, unmet-end, met-here}
use Rattle.part_grid.proofs.cells.walk.cells_meet.Goals as goal

pub loop-column-init : goal.loop-column-init
loop-column-init c = record {
  count = omega arith;
  none = any-start (λ column. covers c.args.side column (walk_rows c.args.p c.args.q column)) c.common-columns.result.low;
}

pub loop-column-preserved : goal.loop-column-preserved
loop-column-preserved c = record {
  count = omega (arith, c.loop-column-test.true, c.loop-column.auto.column);
  none = unmet-turn c.args.side c.args.p c.args.q c.common-columns.result.low c.loop-column.column c.rows_between-rows.result c.walk_rows.result
      c.loop-column.auto.column c.rows_between-rows.ensures.value c.walk_rows.ensures c.if-overlaps.ensures c.loop-column.invariant.none;
}

pub returns : goal.returns
returns c =
    unmet-end c.args.side c.args.p c.args.q c.common-columns.result c.loop-column.column
    (c.common-columns.ensures ∙ ap (λ a. common a c.columns_between-2.result) c.columns_between.ensures.value ∙ ap (common (columns_between c.args.p c.args.q)) c.columns_between-2.ensures.value)
    c.loop-column.auto.column c.loop-column.invariant.count c.loop-column-test.false c.loop-column.invariant.none

pub returns-then-overlaps : goal.returns-then-overlaps
returns-then-overlaps c =
    met-here c.args.side c.args.p c.args.q c.common-columns.result c.rows_between-rows.result c.walk_rows.result c.loop-column.column
    (c.common-columns.ensures ∙ ap (λ a. common a c.columns_between-2.result) c.columns_between.ensures.value ∙ ap (common (columns_between c.args.p c.args.q)) c.columns_between-2.ensures.value)
    c.rows_between-rows.ensures.value c.walk_rows.ensures c.loop-column.auto.column c.loop-column-test.true c.if-overlaps.ensures
