use Rattle.std.proofs.lemmas.Result.{err_from_is_err_and}
use Rattle.map_text.proofs.Fronts.{none-of}
use Rattle.map_text.proofs.rows.Rows.receiver.Goals as goal

pub returns-in_err-texts-clause-taken : goal.returns-in_err-texts-clause-taken
returns-in_err-texts-clause-taken g c =
    let p = err_from_is_err_and c.from_residual.result c.from_residual.ensures.1 in
    none-of _ _ _ _ p.1 p.2

pub returns-in_err-text-clause-taken : goal.returns-in_err-text-clause-taken
returns-in_err-text-clause-taken g c =
    let p = err_from_is_err_and c.from_residual-in_err-text.result c.from_residual-in_err-text.ensures.1 in
    none-of _ _ _ _ p.1 p.2
