use Rattle.std.proofs.Common.{◌≡◌, ◌<◌, ◌+◌, ◌-◌, ◌++◌, List, ◌∙◌, sym, ap, append_assoc, rules, arith}
use Rattle.scene_parts.specs.Parts.{Receiver, Grid}
use Rattle.scene_book.specs.Grid.{columns_from, rows_from, receivers_of}
use Rattle.scene_book.proofs.GridLemmas.{rows-step, rows-apart}
use Rattle.scene_book.proofs.grids.receivers.Goals as goal

pub loop-row-preserved : goal.loop-row-preserved
loop-row-preserved c =
    let within : c.loop-row.row < c.args.grid.now.rows = omega (arith, c.loop-row.invariant.all, c.loop-row-test.true) in
    let rest = rows_from c.args.grid.now (c.loop-row.row + 1) (c.args.grid.now.rows - (c.loop-row.row + 1)) in
    let items : List Receiver = c.loop-row.receivers.items in
    record {
      so_far = rw c.in_ok-add_row.ensures
          (append_assoc items (columns_from c.args.grid.now c.loop-row.row 0 c.args.grid.now.columns) rest
          ∙ ap (λ (l : List Receiver). items ++ l) (sym (rows-step c.args.grid.now c.loop-row.row c.args.grid.now.rows within))
          ∙ c.loop-row.invariant.so_far);
      all = c.loop-row.invariant.all;
    }

pub returns-clause-apart : goal.returns-clause-apart
returns-clause-apart c =
    let all : c.loop-row.receivers.items ≡ receivers_of c.args.grid.now = search rules in
    rw all (rows-apart c.args.grid.now 0 c.args.grid.now.rows (omega (arith, c.grid.invariant.rows.high, ap (λ (g : Grid). g.rows) c.grid.view_is))
    (omega (arith, c.grid.invariant.columns.high, ap (λ (g : Grid). g.columns) c.grid.view_is)))
