use Rattle.std.proofs.Common.{◌<◌, arith}
use Rattle.level_contours.specs.inner.Filing.{cell_found}
use Rattle.level_contours.proofs.GridNameLemmas.{cell-added}
use Rattle.level_contours.proofs.reading.push_row.Goals as goal

pub loop-column-preserved : goal.loop-column-preserved
loop-column-preserved c =
    let within : c.loop-column.column < c.args.spec.now.columns = omega (arith, c.loop-column.invariant.all, c.loop-column-test.true) in
    record {
      so_far = cell-added (cell_found c.args.known.now.entries c.args.spec.now.level) c.args.spec.now.name c.args.row c.loop-column.column c.args.spec.now.columns
          _ _ _ _ within c.in_ok-push.ensures.items c.in_ok-cell.ensures c.loop-column.invariant.so_far;
      all = c.loop-column.invariant.all;
    }
