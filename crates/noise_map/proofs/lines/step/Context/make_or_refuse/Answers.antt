use Rattle.std.proofs.Common.{sym, ◌∙◌}
use Rattle.std.proofs.lemmas.Result.{err_from_is_err_and}
use Rattle.noise_map.proofs.EditLists.{edits-made, edits-lacked, edits-refused}
use Rattle.noise_map.proofs.lines.step.Context.make_or_refuse.Goals as goal

pub returns-in_err-make_all-in-Ok : goal.returns-in_err-make_all-in-Ok
returns-in_err-make_all-in-Ok g c expected matches =
    let p = err_from_is_err_and c.from_residual.result c.from_residual.ensures.1 in
    edits-lacked c.args.editor.now c.make_all.new.editor c.in-Ok.edits expected c.from_residual.result p.0 (rw c.in-Ok.is at matches) p.1 (rw c.into_vec.ensures at c.in_err-make_all-in-Ok.ensures)

pub returns-in_ok-make_all-in-Ok : goal.returns-in_ok-make_all-in-Ok
returns-in_ok-make_all-in-Ok g c expected matches =
    edits-made c.args.editor.now c.make_all.new.editor c.in-Ok.edits expected (rw c.in-Ok.is at matches) (rw c.into_vec.ensures at c.in_ok-make_all-in-Ok.ensures)

pub returns-in-Err-2 : goal.returns-in-Err-2
returns-in-Err-2 g c expected matches =
    edits-refused c.args.editor.now c.in-Err.fault expected (rw (c.in-Err.is, sym c.edit_lacks_memory.ensures ∙ c.if-edit_lacks_memory.false) at matches) c.requires.knows
