use Rattle.std.proofs.Common.{◌≡◌, true, false, List, sym, ap, ◌∙◌}
use Rattle.std.proofs.lemmas.Result.{err_from_is_err_and}
use Rattle.scene_undo.specs.declared.versions.KeptVersion.{KeptVersion}
use Rattle.scene_undo.specs.Versions.{is_kept, kept_in}
use Rattle.noise_map.proofs.Meeting.{never-tried}
use Rattle.noise_map.proofs.KeptVersions.{was-cut}
use Rattle.noise_map.proofs.EditLists.{undo-refused, undo-met, undo-failed}
use Rattle.noise_map.proofs.lines.step.Context.undo.Goals as goal

pub returns-then-not-keeps : goal.returns-then-not-keeps
returns-then-not-keeps g c =
    let version = c.args.version in
    let is : is_kept version (kept_in c.args.editor.now.kept.items) ≡ false =
    sym (c.if-not-keeps.ensures ∙ ap (λ (kept : List KeptVersion). is_kept version (kept_in kept)) c.as_slice.ensures.value) in
    undo-refused c.args.editor.now version is c.requires.knows

pub returns-in_err-edits : goal.returns-in_err-edits
returns-in_err-edits g c =
    let p = err_from_is_err_and c.from_residual.result c.from_residual.ensures.1 in
    rw p.1 (never-tried c.args.editor.now.seat _)

pub make_all-requires-clause-knows : goal.make_all-requires-clause-knows
make_all-requires-clause-knows g c κs within =
    (was-cut c.args.editor.now c.args.version c.take_later.new.kept c.in_ok-edits.edits.items c.requires.knows c.in_ok-edits.ensures.cut).knows

pub returns-in_err-make_all : goal.returns-in_err-make_all
returns-in_err-make_all g c =
    let version = c.args.version in
    let is : is_kept version (kept_in c.args.editor.now.kept.items) ≡ true =
    sym (c.if-not-keeps.ensures ∙ ap (λ (kept : List KeptVersion). is_kept version (kept_in kept)) c.as_slice.ensures.value) in
    let p = err_from_is_err_and c.from_residual-in_err-make_all.result c.from_residual-in_err-make_all.ensures.1 in
    rw p.1 (undo-failed c.args.editor.now c.make_all.new.editor c.take_later.new.kept version c.in_ok-edits.edits.items is c.requires.knows c.in_ok-edits.ensures.cut c.in_err-make_all.ensures)

pub returns : goal.returns
returns g c =
    let version = c.args.version in
    let is : is_kept version (kept_in c.args.editor.now.kept.items) ≡ true =
    sym (c.if-not-keeps.ensures ∙ ap (λ (kept : List KeptVersion). is_kept version (kept_in kept)) c.as_slice.ensures.value) in
    undo-met c.args.editor.now c.make_all.new.editor c.take_later.new.kept version c.in_ok-edits.edits.items is c.requires.knows c.in_ok-edits.ensures.cut c.in_ok-make_all.ensures
