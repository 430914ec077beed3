use Rattle.std.proofs.lemmas.Result.{err_from_is_err_and}
use Rattle.map_text.specs.Looks.{receiver_rows}
use Rattle.map_text.proofs.Fronts.{front-of, front_after, pieces_at}
use Rattle.map_text.proofs.rows.Rows.receivers.Goals as goal

pub returns-in_err-receiver-clause-taken : goal.returns-in_err-receiver-clause-taken
returns-in_err-receiver-clause-taken g c =
    let p = err_from_is_err_and c.from_residual.result c.from_residual.ensures.1 in
    let row = receiver_rows c.args.self.now.bands c.args.version in
    front-of _ _ _ _ _ _ p.1 p.2 (front_after _ _ _ _ _ _ _ _ c.loop-row.invariant.written (rw c.loop-row.invariant.bands at c.in_err-receiver.ensures.taken)
    (pieces_at row c.args.rows.now c.loop-row.row-index c.row-item.result c.loop-row-test.true c.row-item.is))
