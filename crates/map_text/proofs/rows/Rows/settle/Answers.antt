use Rattle.std.proofs.Common.{refl}
use Rattle.std.proofs.lemmas.Result.{err_from_is_err_and}
use Rattle.map_text.proofs.Fronts.{front-of, front_first, takes_after}
use Rattle.map_text.proofs.rows.Rows.settle.Goals as goal

pub returns-in_err-look-clause-taken : goal.returns-in_err-look-clause-taken
returns-in_err-look-clause-taken g c =
    let p = err_from_is_err_and c.from_residual.result c.from_residual.ensures.1 in
    front-of _ _ _ _ _ _ p.1 p.2 (front_first _ _ _ _ _ _ c.in_err-look.ensures.taken refl)

pub returns-clause-taken : goal.returns-clause-taken
returns-clause-taken g c = takes_after _ _ _ _ _ _ _ c.in_ok-look.ensures.taken (rw c.in_ok-look.ensures.same.1 at c.counts_asked.ensures.taken) refl
