use Rattle.std.proofs.Common.{◌≡◌, ◌<◌, ◌∷◌, [], length, get_or, set, true, arith, ap, ◌∙◌}
use Rattle.std.specs.Prelude.{◌==◌}
use Rattle.std.proofs.lemmas.List.{length-set}
use Rattle.part_grid.specs.Span.{has}
use Rattle.part_grid.specs.inner.Index.{cell_at, entered}
use Rattle.part_grid.proofs.Spans.{has-from}
use Rattle.part_grid.proofs.Entries.{entered-set, rows-start, rows-more, rows-all}
use Rattle.part_grid.proofs.cells.entering.enter_column.Goals as goal

pub loop-row-init : goal.loop-row-init
loop-row-init c = record {
  count = omega arith;
  cells = c.requires.cells;
  numbers = λ other row k ho hr. rows-start (entered c.args.register.now c.args.frame other row k) (c.args.number == k) (other == c.args.column) c.args.rows.low row;
}

pub enter-requires : goal.enter-requires
enter-requires c = omega (arith, c.cell_number.ensures.within, c.loop-row.invariant.cells)

pub loop-row-preserved : goal.loop-row-preserved
loop-row-preserved c =
    let frame = c.args.frame in
    let lists = c.loop-row.register in
    let at : has frame.rows c.loop-row.row ≡ true = has-from frame.rows c.loop-row.row (omega (arith, c.requires.within.low, c.loop-row.auto.row)) (omega (arith, c.requires.within.high, c.loop-row-test.true)) in
    let cell = c.cell_number.ensures.value in
    let below : cell_at frame c.args.column c.loop-row.row < length lists = omega (arith, c.cell_number.ensures.value, c.cell_number.ensures.within, c.loop-row.invariant.cells) in
    let new : c.enter.new.self ≡ set lists (cell_at frame c.args.column c.loop-row.row) (c.args.number ∷ get_or lists (cell_at frame c.args.column c.loop-row.row) []) =
    c.in_ok-enter.ensures ∙ ap (λ i. set lists i (c.args.number ∷ get_or lists i [])) cell in
    record {
      count = omega (arith, c.loop-row-test.true, c.loop-row.auto.row);
      cells = ap length new ∙ length-set lists (cell_at frame c.args.column c.loop-row.row) (c.args.number ∷ get_or lists (cell_at frame c.args.column c.loop-row.row) []) ∙ c.loop-row.invariant.cells;
      numbers = λ other row k ho hr.
          rows-more (entered c.enter.new.self frame other row k) (entered lists frame other row k) (entered c.args.register.now frame other row k) (c.args.number == k) (other == c.args.column)
          c.args.rows.low c.loop-row.row row c.loop-row.auto.row
          (ap (λ ls. entered ls frame other row k) new ∙ entered-set lists frame c.args.column c.loop-row.row c.args.number other row k c.requires.column at below ho hr)
          (c.loop-row.invariant.numbers other row k ho hr);
    }

pub returns-clause-numbers : goal.returns-clause-numbers
returns-clause-numbers c = λ other row k ho hr.
    rows-all (entered c.loop-row.register c.args.frame other row k) (entered c.args.register.now c.args.frame other row k) (c.args.number == k) (other == c.args.column)
    c.args.rows c.loop-row.row row c.loop-row.auto.row c.loop-row.invariant.count c.loop-row-test.false (c.loop-row.invariant.numbers other row k ho hr)
