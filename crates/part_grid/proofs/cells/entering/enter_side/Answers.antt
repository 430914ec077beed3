use Rattle.std.proofs.Common.{arith, ap, ◌∙◌}
use Rattle.std.specs.Prelude.{◌&&◌, ◌||◌, ◌==◌}
use Rattle.part_grid.specs.Span.{has}
use Rattle.part_grid.specs.Cells.{columns_of}
use Rattle.part_grid.specs.inner.Index.{entered}
use Rattle.part_grid.proofs.Entries.{columns-start, columns-more, columns-all}
use Rattle.part_grid.proofs.cells.entering.enter_side.Goals as goal

pub loop-column-init : goal.loop-column-init
loop-column-init c = record {
  count = omega arith;
  cells = c.requires.cells;
  numbers = λ column row k hc hr. columns-start (entered c.args.register.now c.args.frame column row k) (c.args.number == k) (has c.rows_between-rows.result row) c.columns_between-columns.result.low column;
}

pub loop-column-preserved : goal.loop-column-preserved
loop-column-preserved c = record {
  count = omega (arith, c.loop-column-test.true, c.loop-column.auto.column);
  cells = c.in_ok-enter_column.ensures.cells;
  numbers = λ column row k hc hr.
      columns-more (entered c.enter_column.new.register c.args.frame column row k) (entered c.loop-column.register c.args.frame column row k) (entered c.args.register.now c.args.frame column row k)
      (c.args.number == k) (has c.rows_between-rows.result row) c.columns_between-columns.result.low c.loop-column.column column c.loop-column.auto.column
      (c.in_ok-enter_column.ensures.numbers column row k hc hr) (c.loop-column.invariant.numbers column row k hc hr);
}

pub returns-clause-numbers : goal.returns-clause-numbers
returns-clause-numbers c = λ column row k hc hr.
    columns-all (entered c.loop-column.register c.args.frame column row k) (entered c.args.register.now c.args.frame column row k) (c.args.number == k) (has c.rows_between-rows.result row)
    c.columns_between-columns.result c.loop-column.column column c.loop-column.auto.column c.loop-column.invariant.count c.loop-column-test.false (c.loop-column.invariant.numbers column row k hc hr)
    ∙ ap (λ columns. entered c.args.register.now c.args.frame column row k || ((c.args.number == k) && (has columns column && has c.rows_between-rows.result row))) c.columns_between-columns.ensures.value
    ∙ ap (λ rows. entered c.args.register.now c.args.frame column row k || ((c.args.number == k) && (has (columns_of c.args.side) column && has rows row))) c.rows_between-rows.ensures.value
