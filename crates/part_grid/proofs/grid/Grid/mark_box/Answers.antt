use Rattle.std.proofs.Common.{◌≤◌, false, length, get_or, map, refl, arith, ap, sym, ◌∙◌, subst}
use Rattle.std.specs.List.{list_any}
use Rattle.std.proofs.lemmas.List.{length-replicate}
use Rattle.part_grid.specs.declared.cells.span.Span.{Span}
use Rattle.part_grid.specs.declared.owned.Owned.{Owned}
use Rattle.part_grid.specs.Span.{common, lines}
use Rattle.part_grid.specs.Cells.{covers, columns_between, boxes_meet}
use Rattle.part_grid.proofs.Spans.{any-start}
use Rattle.part_grid.proofs.Marked.{marks-none, marks-are, box-common, columns-more, columns-done, in-frame}
use Rattle.part_grid.proofs.grid.Grid.mark_box.Goals as goal

pub loop-column-init : goal.loop-column-init
loop-column-init c = record {
  count = omega arith;
  size = ap length c.requires ∙ length-replicate (length c.args.self.now) false ∙ ap length (sym c.self.view_is);
  marks = λ k d below.
      marks-none c.args.marks.now (length c.args.self.now) k c.requires
      ∙ sym (any-start (λ column. covers (get_or c.self.inside.sides.items k d).side column c.rows_between-rows.result) c.common-boxed.result.low);
}

pub mark_column-requires-clause-column : goal.mark_column-requires-clause-column
mark_column-requires-clause-column c =
    in-frame c.common-boxed.result c.columns_between.result c.self.inside.frame.columns c.loop-column.column c.common-boxed.ensures c.loop-column.auto.column c.loop-column-test.true

pub loop-column-preserved : goal.loop-column-preserved
loop-column-preserved c =
    let frame = c.self.inside.frame in
    let at = in-frame c.common-boxed.result c.columns_between.result frame.columns c.loop-column.column c.common-boxed.ensures c.loop-column.auto.column c.loop-column-test.true in
    record {
      count = omega (arith, c.loop-column-test.true, c.loop-column.auto.column);
      size = c.mark_column.ensures.count ∙ c.loop-column.invariant.size;
      marks = λ k d below.
          columns-more c.self.inside.sides.items frame c.self.inside.register c.common-boxed.result.low c.loop-column.column k d (λ side column. covers side column c.rows_between-rows.result) c.rows_between-rows.result
          (get_or c.mark_column.new.marks k false) (get_or c.loop-column.marks k false) c.self.invariant
          (λ side. refl) at (subst (λ (s : Span). s.low ≤ s.high) (sym c.rows_between-rows.ensures.value) (omega arith))
          below c.loop-column.auto.column (c.mark_column.ensures.marks k (omega (arith, c.loop-column.invariant.size))) (c.loop-column.invariant.marks k d below);
    }

pub returns : goal.returns
returns c =
    let frame = c.self.inside.frame in
    let columns = c.common-boxed.ensures ∙ ap (λ walk. common walk frame.columns) c.columns_between.ensures.value in
    marks-are c.loop-column.marks (λ owned. boxes_meet owned.side c.args.low c.args.high) c.self.inside.sides.items c.loop-column.invariant.size
    (λ k d below.
    columns-done (λ side column. covers side column c.rows_between-rows.result) (get_or c.self.inside.sides.items k d).side c.common-boxed.result (columns_between c.args.low c.args.high) frame.columns c.loop-column.column
    (get_or c.loop-column.marks k false) columns c.loop-column.auto.column c.loop-column.invariant.count c.loop-column-test.false (c.loop-column.invariant.marks k d below)
    ∙ ap (λ rows. list_any (λ column. covers (get_or c.self.inside.sides.items k d).side column rows) (lines (common (columns_between c.args.low c.args.high) c.self.inside.frame.columns))) c.rows_between-rows.ensures.value
    ∙ box-common (get_or c.self.inside.sides.items k d).side c.args.low c.args.high frame.columns (c.self.invariant.holds k d below).columns)
    ∙ ap (map (λ (owned : Owned). boxes_meet owned.side c.args.low c.args.high)) c.self.view_is
