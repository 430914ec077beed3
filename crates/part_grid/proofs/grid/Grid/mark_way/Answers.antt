use Rattle.std.proofs.Common.{◌≡◌, ◌-◌, ◌≤◌, false, length, get_or, map, arith, ap, sym, ◌∙◌, subst}
use Rattle.std.specs.List.{list_any, range_with_len}
use Rattle.std.proofs.lemmas.List.{length-replicate}
use Rattle.part_grid.specs.declared.cells.span.Span.{Span}
use Rattle.part_grid.specs.declared.owned.Owned.{Owned}
use Rattle.part_grid.specs.Span.{common}
use Rattle.part_grid.specs.Cells.{covers}
use Rattle.part_grid.specs.Ways.{way_columns, way_rows, rows_in, cells_meet_way}
use Rattle.part_grid.proofs.Spans.{any-start}
use Rattle.part_grid.proofs.Marked.{marks-none, marks-are, covered-common, columns-more, columns-done, in-frame}
use Rattle.part_grid.proofs.Ways.{rows-ordered}
use Rattle.part_grid.proofs.grid.Grid.mark_way.Goals as goal

pub loop-column-init : goal.loop-column-init
loop-column-init c = record {
  count = omega arith;
  entered = tt;
  size = ap length c.requires.none ∙ length-replicate (length c.args.self.now) false ∙ ap length (sym c.self.view_is);
  marks = λ k d below.
      marks-none c.args.marks.now (length c.args.self.now) k c.requires.none
      ∙ sym (any-start (λ column. covers (get_or c.self.inside.sides.items k d).side column (rows_in c.args.from c.args.dir c.way_rows-all.result column)) c.common-crossed.result.low);
}

pub mark_column-requires-clause-column : goal.mark_column-requires-clause-column
mark_column-requires-clause-column c =
    in-frame c.common-crossed.result c.way_columns.result c.self.inside.frame.columns c.loop-column.column c.common-crossed.ensures c.loop-column.auto.column c.loop-column-test.true

pub loop-column-preserved : goal.loop-column-preserved
loop-column-preserved c =
    let frame = c.self.inside.frame in
    let at = in-frame c.common-crossed.result c.way_columns.result frame.columns c.loop-column.column c.common-crossed.ensures c.loop-column.auto.column c.loop-column-test.true in
    record {
      count = omega (arith, c.loop-column-test.true, c.loop-column.auto.column);
      entered = c.rows_in-left.ensures.left;
      size = c.mark_column.ensures.count ∙ c.loop-column.invariant.size;
      marks = λ k d below.
          columns-more c.self.inside.sides.items frame c.self.inside.register c.common-crossed.result.low c.loop-column.column k d (λ side column. covers side column (rows_in c.args.from c.args.dir c.way_rows-all.result column)) c.rows_in-left.result.0
          (get_or c.mark_column.new.marks k false) (get_or c.loop-column.marks k false) c.self.invariant
          (λ side. ap (covers side c.loop-column.column) (sym c.rows_in-left.ensures.rows)) at
          (subst (λ (s : Span). s.low ≤ s.high) (sym c.rows_in-left.ensures.rows) (rows-ordered c.args.from c.args.dir c.args.end c.way_rows-all.result c.loop-column.column c.way_rows-all.ensures))
          below c.loop-column.auto.column (c.mark_column.ensures.marks k (omega (arith, c.loop-column.invariant.size))) (c.loop-column.invariant.marks k d below);
    }

pub returns : goal.returns
returns c =
    let frame = c.self.inside.frame in
    let columns = c.common-crossed.ensures ∙ ap (λ walk. common walk frame.columns) c.way_columns.ensures in
    marks-are c.loop-column.marks (λ owned. cells_meet_way owned.side c.args.from c.args.dir c.args.end) c.self.inside.sides.items c.loop-column.invariant.size
    (λ k d below.
    columns-done (λ side column. covers side column (rows_in c.args.from c.args.dir (way_rows c.args.from c.args.dir c.args.end) column)) (get_or c.self.inside.sides.items k d).side c.common-crossed.result (way_columns c.args.from c.args.dir c.args.end) frame.columns c.loop-column.column
    (get_or c.loop-column.marks k false) columns c.loop-column.auto.column c.loop-column.invariant.count c.loop-column-test.false
    (subst (λ (all : Span). get_or c.loop-column.marks k false ≡ list_any (λ column. covers (get_or c.self.inside.sides.items k d).side column (rows_in c.args.from c.args.dir all column)) (range_with_len c.common-crossed.result.low (c.loop-column.column - c.common-crossed.result.low)))
    c.way_rows-all.ensures (c.loop-column.invariant.marks k d below))
    ∙ covered-common (get_or c.self.inside.sides.items k d).side (rows_in c.args.from c.args.dir (way_rows c.args.from c.args.dir c.args.end)) (way_columns c.args.from c.args.dir c.args.end) frame.columns (c.self.invariant.holds k d below).columns)
    ∙ ap (map (λ (owned : Owned). cells_meet_way owned.side c.args.from c.args.dir c.args.end)) c.self.view_is
