use Rattle.std.proofs.Common.{◌≡◌, ◌∙◌, ap, ap₂}
use Rattle.std.proofs.lemmas.Result.{IfOk-weaker}
use Rattle.clap.specs.Simple.{app_of, app_of_fields, with_rule}
use Rattle.command_words.specs.inner.Choices.{helpless}
use Rattle.command_words.proofs.matching.noisemap.Goals as goal

pub returns : goal.returns
returns c =
    let plain : app_of c.disable_help_flag.result ≡ helpless (app_of c.new.result) = ap app_of_fields c.disable_help_flag.ensures in
    let with_bands = c.in_ok-arg.ensures.shape c.flag.ensures.own ∙ ap₂ with_rule (plain ∙ ap helpless c.new.ensures.app) c.flag.ensures.rule in
    let with_counts = c.in_ok-arg-2.ensures.shape c.flag-2.ensures.own ∙ ap₂ with_rule with_bands c.flag-2.ensures.rule in
    let with_workers = c.in_ok-arg-3.ensures.shape c.valued.ensures.own ∙ ap₂ with_rule with_counts c.valued.ensures.rule in
    IfOk-weaker c.arg-4.result _ _ (λ r h. h.shape c.valued-2.ensures.own ∙ ap₂ with_rule with_workers c.valued-2.ensures.rule) c.arg-4.ensures
