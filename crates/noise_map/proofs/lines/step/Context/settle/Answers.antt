use Rattle.std.proofs.Common.{refl}
use Rattle.std.proofs.lemmas.Result.{err_from_is_err_and}
use Rattle.noise_map.specs.Effects.{settled}
use Rattle.noise_map.proofs.Meeting.{settle-met, settle-failed, knows-still}
use Rattle.noise_map.proofs.lines.step.Context.settle.Goals as goal

pub returns-in_err-look : goal.returns-in_err-look
returns-in_err-look g c =
    let p = err_from_is_err_and c.from_residual.result c.from_residual.ensures.1 in
    let s = c.in_err-look.ensures.settled in
    rw p.1 (settle-failed c.runs_show_right.ensures c.args.editor.now.seat c.settle.new.seat s.own s.worked.acted s.worked.kinds s.ends.unseen)

pub returns : goal.returns
returns g c =
    let s = c.in_ok-look.ensures.settled in
    let met = settle-met c.runs_show_right.ensures c.args.editor.now.seat c.settle.new.seat c.in_ok-look.look s.own s.worked.acted s.worked.kinds s.ends c.in_ok-look.ensures.sound in
    (met, knows-still c.args.editor.now _ settled c.requires.knows refl refl refl met.accepts)
