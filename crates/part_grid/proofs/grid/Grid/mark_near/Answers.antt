use Rattle.std.proofs.Common.{◌≤◌, false, length, get_or, map, arith, ap, sym, ◌∙◌, subst}
use Rattle.std.proofs.lemmas.List.{length-replicate}
use Rattle.part_grid.specs.declared.cells.span.Span.{Span}
use Rattle.part_grid.specs.declared.owned.Owned.{Owned}
use Rattle.part_grid.specs.Span.{common}
use Rattle.part_grid.specs.Cells.{covers, columns_between, walk_rows, cells_meet_of}
use Rattle.part_grid.proofs.Spans.{any-start}
use Rattle.part_grid.proofs.Marked.{marks-none, marks-are, near-common, walk-ordered, columns-more, columns-done, in-frame}
use Rattle.part_grid.proofs.grid.Grid.mark_near.Goals as goal

pub loop-column-init : goal.loop-column-init
loop-column-init c = record {
  count = omega arith;
  size = ap length c.requires ∙ length-replicate (length c.args.self.now) false ∙ ap length (sym c.self.view_is);
  marks = λ k d below.
      marks-none c.args.marks.now (length c.args.self.now) k c.requires
      ∙ sym (any-start (λ column. covers (get_or c.self.inside.sides.items k d).side column (walk_rows c.args.p c.args.q column)) c.common-columns.result.low);
}

pub mark_column-requires-clause-column : goal.mark_column-requires-clause-column
mark_column-requires-clause-column c =
    in-frame c.common-columns.result c.columns_between.result c.self.inside.frame.columns c.loop-column.column c.common-columns.ensures c.loop-column.auto.column c.loop-column-test.true

pub loop-column-preserved : goal.loop-column-preserved
loop-column-preserved c =
    let frame = c.self.inside.frame in
    let at = in-frame c.common-columns.result c.columns_between.result frame.columns c.loop-column.column c.common-columns.ensures c.loop-column.auto.column c.loop-column-test.true in
    record {
      count = omega (arith, c.loop-column-test.true, c.loop-column.auto.column);
      size = c.mark_column.ensures.count ∙ c.loop-column.invariant.size;
      marks = λ k d below.
          columns-more c.self.inside.sides.items frame c.self.inside.register c.common-columns.result.low c.loop-column.column k d (λ side column. covers side column (walk_rows c.args.p c.args.q column)) c.walk_rows-rows.result
          (get_or c.mark_column.new.marks k false) (get_or c.loop-column.marks k false) c.self.invariant
          (λ side. ap (covers side c.loop-column.column) (sym c.walk_rows-rows.ensures)) at (subst (λ (s : Span). s.low ≤ s.high) (sym c.walk_rows-rows.ensures) (walk-ordered c.args.p c.args.q c.loop-column.column))
          below c.loop-column.auto.column (c.mark_column.ensures.marks k (omega (arith, c.loop-column.invariant.size))) (c.loop-column.invariant.marks k d below);
    }

pub returns : goal.returns
returns c =
    let frame = c.self.inside.frame in
    let columns = c.common-columns.ensures ∙ ap (λ walk. common walk frame.columns) c.columns_between.ensures.value in
    marks-are c.loop-column.marks (λ owned. cells_meet_of owned.side c.args.p c.args.q) c.self.inside.sides.items c.loop-column.invariant.size
    (λ k d below.
    columns-done (λ side column. covers side column (walk_rows c.args.p c.args.q column)) (get_or c.self.inside.sides.items k d).side c.common-columns.result (columns_between c.args.p c.args.q) frame.columns c.loop-column.column
    (get_or c.loop-column.marks k false) columns c.loop-column.auto.column c.loop-column.invariant.count c.loop-column-test.false (c.loop-column.invariant.marks k d below)
    ∙ near-common (get_or c.self.inside.sides.items k d).side c.args.p c.args.q frame.columns (c.self.invariant.holds k d below).columns)
    ∙ ap (map (λ (owned : Owned). cells_meet_of owned.side c.args.p c.args.q)) c.self.view_is
