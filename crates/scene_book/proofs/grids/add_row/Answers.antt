use Rattle.std.proofs.Common.{◌<◌, ◌+◌, ◌-◌, ◌++◌, ◌∷◌, [], List, ◌∙◌, sym, ap, append_assoc, arith}
use Rattle.scene_parts.specs.Parts.{Receiver}
use Rattle.scene_book.specs.Grid.{columns_from, receiver_at}
use Rattle.scene_book.proofs.GridLemmas.{columns-step}
use Rattle.scene_book.proofs.grids.add_row.Goals as goal

pub loop-column-preserved : goal.loop-column-preserved
loop-column-preserved c =
    let within : c.loop-column.column < c.args.grid.now.columns = omega (arith, c.loop-column.invariant.all, c.loop-column-test.true) in
    let made = receiver_at c.args.grid.now c.args.row c.loop-column.column in
    let rest = columns_from c.args.grid.now c.args.row (c.loop-column.column + 1) (c.args.grid.now.columns - (c.loop-column.column + 1)) in
    let items : List Receiver = c.loop-column.receivers.items in
    record {
      so_far = rw (c.in_ok-push.ensures.items, c.in_ok-receiver.ensures)
          (append_assoc items (made ∷ []) rest
          ∙ ap (λ (l : List Receiver). items ++ l) (sym (columns-step c.args.grid.now c.args.row c.loop-column.column c.args.grid.now.columns within))
          ∙ c.loop-column.invariant.so_far);
      all = c.loop-column.invariant.all;
    }
