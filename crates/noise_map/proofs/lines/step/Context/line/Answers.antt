use Rattle.std.proofs.Common.{sym, ◌∙◌, subst}
use Rattle.noise_map.specs.declared.lines.answer.Answer.TheVariants as answers
use Rattle.noise_map.specs.Demands.{Demand}
use Rattle.noise_map.specs.Effects.{silent, effect_of}
use Rattle.noise_map.specs.inner.Steps.{past_of}
use Rattle.noise_map.proofs.Meeting.{Meets, nothing-met, followed-still, blank-line}
use Rattle.noise_map.proofs.lines.step.Context.line.Goals as goal

pub returns-then-is_blank_text : goal.returns-then-is_blank_text
returns-then-is_blank_text g c =
    let editor = c.args.editor.now in
    let past = past_of editor in
    subst (λ (d : Demand). Meets editor (effect_of past d) answers.Nothing editor)
    (sym (blank-line c.args.line.now c.requires.length (sym c.is_blank_text.ensures ∙ c.if-is_blank_text.true)))
    (nothing-met editor.seat, followed-still editor silent c.requires.knows)
