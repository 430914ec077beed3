use Rattle.std.proofs.Common.{refl, sym, ◌∙◌, subst}
use Rattle.std.proofs.lemmas.Result.{err_from_is_err_and}
use Rattle.noise_map.specs.declared.lines.answer.Answer.TheVariants as answers
use Rattle.noise_map.specs.declared.run.editor.Editor.{Editor}
use Rattle.noise_map.specs.Effects.{Effect, contoured}
use Rattle.noise_map.specs.inner.Steps.{HasMet, HasFollowed, HasFailed}
use Rattle.noise_map.proofs.Meeting.{never-tried, missing-met, none-missing, contours-met, contours-failed, knows-still}
use Rattle.noise_map.proofs.lines.step.Context.contours.Goals as goal

pub returns-in_err-name : goal.returns-in_err-name
returns-in_err-name g c =
    let p = err_from_is_err_and c.from_residual.result c.from_residual.ensures.1 in
    rw p.1 (never-tried c.args.editor.now.seat _)

pub returns-in-Some : goal.returns-in-Some
returns-in-Some g c = missing-met c.args.editor.now c.args.contour c.in-Some.name c.requires.knows (sym c.in_ok-name.ensures.missing ∙ c.in-Some.is)

pub returns-in_err-shown : goal.returns-in_err-shown
returns-in_err-shown g c =
    let p = err_from_is_err_and c.from_residual-in_err-shown.result c.from_residual-in_err-shown.ensures.1 in
    let s = c.in_err-shown.ensures.settled in
    let before = c.args.editor.now in
    let is = none-missing before c.args.contour c.requires.knows (sym c.in_ok-name.ensures.missing ∙ c.in_default.is) in
    rw p.1 (subst (λ (e : Effect). HasFailed before.seat e c.settle.new.seat) (sym is)
    (contours-failed c.runs_show_right.ensures before.seat c.settle.new.seat c.args.contour s.own s.worked.acted s.worked.kinds s.ends.unseen))

pub returns : goal.returns
returns g c =
    let s = c.in_ok-shown.ensures.settled in
    let before = c.args.editor.now in
    let after : Editor = record { seat = c.settle.new.seat; scene = before.scene; version = before.version; kept = before.kept } in
    let is = none-missing before c.args.contour c.requires.knows (sym c.in_ok-name.ensures.missing ∙ c.in_default.is) in
    let met = contours-met c.runs_show_right.ensures before.seat c.settle.new.seat c.args.contour c.in_ok-shown.shown s.own s.worked.acted s.worked.kinds s.ends c.in_ok-shown.ensures.sound in (
      subst (λ (e : Effect). HasMet before.seat e (answers.Contoured c.args.contour c.in_ok-shown.shown) c.settle.new.seat) (sym is) met,
      subst (λ (e : Effect). HasFollowed before e after) (sym is) (knows-still before after (contoured c.args.contour) c.requires.knows refl refl refl met.accepts),
    )
