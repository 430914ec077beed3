use Rattle.std.proofs.Common.{refl}
use Rattle.std.proofs.lemmas.Result.{err_from_is_err_and}
use Rattle.noise_map.specs.declared.run.editor.Editor.{Editor}
use Rattle.noise_map.proofs.Meeting.{edit-untried}
use Rattle.noise_map.proofs.KeptVersions.{made-kept}
use Rattle.noise_map.proofs.lines.step.Context.make_kept.Goals as goal

pub returns-in_err-make_room : goal.returns-in_err-make_room
returns-in_err-make_room g c =
    let p = err_from_is_err_and c.from_residual-in_err-make_room.result c.from_residual-in_err-make_room.ensures.1 in
    let before = c.args.editor.now in
    let after : Editor = record { seat = before.seat; scene = before.scene; version = before.version; kept = c.make_room.new.kept } in
    rw (p.1, p.2) (edit-untried before after c.args.edit refl)

pub returns : goal.returns
returns g c =
    let made = c.in_ok-make_alone.ensures.made in
    made-kept c.args.editor.now c.make_alone-2.new.editor c.make_room.new.kept c.push_reserved.new.self c.args.edit _ c.requires.knows c.make_room.ensures.same made.0 made.1
    c.in_ok-make_alone.ensures.kept c.push_reserved.ensures.items refl c.in_ok-back.ensures.value
