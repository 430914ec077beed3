use Rattle.std.proofs.lemmas.Result.{err_from_is_err_and}
use Rattle.map_text.proofs.Fronts.{none-of}
use Rattle.map_text.proofs.rows.Rows.tally.Goals as goal

pub returns-in_err-row-clause-taken : goal.returns-in_err-row-clause-taken
returns-in_err-row-clause-taken g c =
    let p = err_from_is_err_and c.from_residual.result c.from_residual.ensures.1 in
    none-of _ _ _ _ p.1 p.2
