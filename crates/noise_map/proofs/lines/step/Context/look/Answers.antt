use Rattle.std.proofs.Common.{refl}
use Rattle.std.proofs.lemmas.Result.{err_from_is_err_and}
use Rattle.noise_map.specs.Effects.{known}
use Rattle.noise_map.proofs.Meeting.{look-met, look-failed, knows-still}
use Rattle.noise_map.proofs.lines.step.Context.look.Goals as goal

pub returns-in_err-look : goal.returns-in_err-look
returns-in_err-look g c =
    let p = err_from_is_err_and c.from_residual.result c.from_residual.ensures.1 in
    rw p.1 (look-failed c.runs_show_right.ensures c.args.editor.now.seat c.look_as_editor.new.seat c.in_err-look.field-0.0 c.in_err-look.ensures.turn c.in_err-look.ensures.sound)

pub returns : goal.returns
returns g c =
    let met = look-met c.runs_show_right.ensures c.args.editor.now.seat c.look_as_editor.new.seat c.in_ok-look.look c.in_ok-look.ensures.turn c.in_ok-look.ensures.sound in
    (met, knows-still c.args.editor.now _ known c.requires.knows refl refl refl met.accepts)
