use Rattle.std.proofs.lemmas.Result.{err_from_is_err_and}
use Rattle.map_text.proofs.Fronts.{front-of, row-begun}
use Rattle.map_text.proofs.rows.Rows.put.Goals as goal

pub returns-in_err-put_all-clause-taken : goal.returns-in_err-put_all-clause-taken
returns-in_err-put_all-clause-taken g c =
    let p = err_from_is_err_and c.from_residual.result c.from_residual.ensures.1 in
    front-of _ _ _ _ _ _ p.1 p.2 (row-begun _ _ _ c.in_err-put_all.ensures.part)
