use Rattle.std.proofs.Common.{ℕ, List, [], length, get_or, ap, refl, ◌∙◌}
use Rattle.std.proofs.lemmas.List.{length-replicate}
use Rattle.part_grid.specs.inner.Index.{cell_at, entered, has_cell}
use Rattle.part_grid.proofs.Entries.{sides-start, sides-more, sides-all}
use Rattle.part_grid.proofs.cells.entering.entered.Goals as goal

pub loop-number-init : goal.loop-number-init
loop-number-init c = record {
  cells = ap length c.in_ok-register.ensures ∙ length-replicate {A = List ℕ} c.cell_count.result [] ∙ c.cell_count.ensures;
  numbers = λ column row k d hc hr below.
      ap (λ lists. entered lists c.args.frame column row k) c.in_ok-register.ensures
      ∙ sides-start c.cell_count.result (cell_at c.args.frame column row) k (has_cell (get_or c.args.sides.now k d).side column row);
}

pub loop-number-preserved : goal.loop-number-preserved
loop-number-preserved c = record {
  cells = c.in_ok-enter_side.ensures.cells;
  numbers = λ column row k d hc hr below.
      sides-more (entered c.enter_side.new.register c.args.frame column row k) (entered c.loop-number.register c.args.frame column row k) c.args.sides.now c.loop-number.number k column row d
      c.index-sides-number.result c.index-sides-number.result.side c.index-sides-number.is refl below c.loop-number-test.true
      (c.in_ok-enter_side.ensures.numbers column row k hc hr) (c.loop-number.invariant.numbers column row k d hc hr below);
}

pub returns : goal.returns
returns c = record {
  columns = c.requires.columns;
  rows = c.requires.rows;
  cells = c.loop-number.invariant.cells;
  holds = c.requires.holds;
  numbers = λ column row k d hc hr below.
      sides-all c.args.sides.now c.loop-number.number k column row d (entered c.loop-number.register c.args.frame column row k) below c.loop-number-test.false
      (c.loop-number.invariant.numbers column row k d hc hr below);
}
