use Rattle.std.proofs.Common.{refl}
use Rattle.std.proofs.lemmas.Result.{err_from_is_err_and}
use Rattle.noise_map.specs.declared.run.editor.Editor.{Editor}
use Rattle.noise_map.proofs.Meeting.{edit-made, edit-ended}
use Rattle.noise_map.proofs.lines.step.Context.make_alone.Goals as goal

pub returns-in_err-version : goal.returns-in_err-version
returns-in_err-version g c =
    let p = err_from_is_err_and c.from_residual-in_err-version.result c.from_residual-in_err-version.ensures.1 in
    let before = c.args.editor.now in
    let after : Editor = record { seat = c.edit.new.seat; scene = c.follow.new.scene; version = before.version; kept = before.kept } in
    record {
      made = edit-ended c.runs_show_right.ensures before c.args.edit _ _ _ after p.1 p.2 c.requires.knows c.in_err-version.ensures.turn c.in_err-version.ensures.sound c.in_ok-follow.ensures refl refl;
      kept = refl;
    }

pub returns : goal.returns
returns g c =
    let after : Editor = record { seat = c.edit.new.seat; scene = c.follow.new.scene; version = c.in_ok-version.version; kept = c.args.editor.now.kept } in
    record {
      made = edit-made c.runs_show_right.ensures c.args.editor.now c.args.edit c.in_ok-version.version after c.requires.knows c.in_ok-version.ensures.turn c.in_ok-version.ensures.sound c.in_ok-follow.ensures refl refl;
      kept = refl;
    }
