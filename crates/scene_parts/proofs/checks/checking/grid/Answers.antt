use Rattle.std.proofs.Common.{rules}
use Rattle.std.proofs.lemmas.Result.{err_from_is_err_and}
use Rattle.scene_parts.specs.Checking.{check_of}
use Rattle.scene_parts.proofs.checks.checking.grid.Goals as goal

pub returns-in_err-rows : goal.returns-in_err-rows
unfolding check_of
returns-in_err-rows c =
    let p = err_from_is_err_and c.from_residual-in_err-rows.result c.from_residual-in_err-rows.ensures.1 in
    rw (p.1, p.2, c.in-Grid.is) (search rules)

pub returns-in_err-h : goal.returns-in_err-h
unfolding check_of
returns-in_err-h c =
    let p = err_from_is_err_and c.from_residual-in_err-h.result c.from_residual-in_err-h.ensures.1 in
    rw (p.1, p.2, c.in-Grid.is) (search rules)
