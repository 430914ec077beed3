use Rattle.std.proofs.lemmas.Result.{err_from_is_err_and}
use Rattle.map_text.proofs.Fronts.{none-of}
use Rattle.noise_map.proofs.lines.contours.write_contours.Goals as goal

pub returns-in_err-texts-clause-taken : goal.returns-in_err-texts-clause-taken
returns-in_err-texts-clause-taken g c =
    let p = err_from_is_err_and c.from_residual.result c.from_residual.ensures.1 in
    none-of _ _ _ _ p.1 p.2
