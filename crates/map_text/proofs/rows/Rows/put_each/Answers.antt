use Rattle.std.proofs.Common.{[], ◌∷◌, ◌+◌, take, drop}
use Rattle.std.proofs.lemmas.Result.{err_from_is_err_and}
use Rattle.map_text.proofs.Fronts.{front-of, front_after, rows_at}
use Rattle.map_text.proofs.rows.Rows.put_each.Goals as goal

pub returns-in_err-put-clause-taken : goal.returns-in_err-put-clause-taken
returns-in_err-put-clause-taken g c =
    let p = err_from_is_err_and c.from_residual.result c.from_residual.ensures.1 in
    let n = c.loop-text.text-index in
    front-of _ _ _ _ _ _ p.1 p.2
    (front_after _ _ _ _ (take n c.args.texts.now) (c.text-item.result ∷ []) (drop (n + 1) c.args.texts.now) c.args.texts.now c.loop-text.invariant.written
    (rw c.items.ensures at c.in_err-put.ensures.taken)
    (rows_at c.args.texts.now n c.text-item.result c.loop-text-test.true c.text-item.is))
