use Rattle.std.proofs.Common.{◌<◌, arith}
use Rattle.level_contours.specs.inner.Filing.{cell_found}
use Rattle.level_contours.proofs.GridNameLemmas.{row-added}
use Rattle.level_contours.proofs.reading.all_cells.Goals as goal

pub loop-row-preserved : goal.loop-row-preserved
loop-row-preserved c =
    let within : c.loop-row.row < c.args.spec.now.rows = omega (arith, c.loop-row.invariant.all, c.loop-row-test.true) in
    record {
      so_far = row-added (cell_found c.args.known.now.entries c.args.spec.now.level) c.args.spec.now c.loop-row.row c.args.spec.now.rows
          _ _ _ within c.in_ok-push_row.ensures c.loop-row.invariant.so_far;
      all = c.loop-row.invariant.all;
    }
