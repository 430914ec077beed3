use Rattle.std.proofs.Common.{◌||◌, ◌∙◌, [], false, get_or, refl, arith, ap}
use Rattle.std.specs.Prelude.{◌==◌}
use Rattle.std.specs.List.{list_any}
use Rattle.part_grid.specs.Span.{lines}
use Rattle.part_grid.specs.inner.Index.{entered}
use Rattle.part_grid.proofs.Marked.{marks-start, marks-more, marks-all}
use Rattle.part_grid.proofs.numbers.marking.mark_column.Goals as goal

pub loop-row-init : goal.loop-row-init
loop-row-init c = record {
  count = omega arith;
  size = refl;
  marks = λ i h. marks-start (get_or c.args.marks.now i false) (λ row. entered c.args.register.now c.args.frame c.args.column row i) c.common-shared.result.low;
}

pub loop-row-preserved : goal.loop-row-preserved
loop-row-preserved c = record {
  count = omega (arith, c.loop-row-test.true, c.loop-row.auto.row);
  size = c.mark.ensures.count ∙ c.loop-row.invariant.size;
  marks = λ i h.
      marks-more (get_or c.mark.new.marks i false) (get_or c.loop-row.marks i false) (get_or c.args.marks.now i false) (λ row. entered c.args.register.now c.args.frame c.args.column row i)
      c.common-shared.result.low c.loop-row.row c.loop-row.auto.row
      (c.mark.ensures.marks i (omega (arith, c.loop-row.invariant.size)) ∙ ap (λ cell. get_or c.loop-row.marks i false || list_any (λ n. n == i) (get_or c.args.register.now cell [])) c.cell_number.ensures.value)
      (c.loop-row.invariant.marks i h);
}

pub returns-clause-marks : goal.returns-clause-marks
returns-clause-marks c = λ i h.
    marks-all (get_or c.loop-row.marks i false) (get_or c.args.marks.now i false) (λ row. entered c.args.register.now c.args.frame c.args.column row i) c.common-shared.result c.loop-row.row
    c.loop-row.auto.row c.loop-row.invariant.count c.loop-row-test.false (c.loop-row.invariant.marks i h)
    ∙ ap (λ span. get_or c.args.marks.now i false || list_any (λ row. entered c.args.register.now c.args.frame c.args.column row i) (lines span)) c.common-shared.ensures
