use Rattle.std.proofs.Common.{rules, ◌≡◌, ◌∙◌, ap, sym, map, string_bytes, List}
use Rattle.clap.specs.Simple.{App, app_of, is_simple}
use Rattle.clap.specs.Faults.{fault_of, is_simple_and_free}
use Rattle.clap.specs.Simple.{matches_of}
use Rattle.clap.specs.Values.{kind_of}
use denote.Enum.Bare.{same_false}
use Rattle.clap.specs.contracts.error.kind.ErrorKind.{the_type}
use Rattle.clap.specs.declared.error.kind.ErrorKind.TheVariants.{OutOfMemory}
use Rattle.command_words.specs.Words.{Text}
use Rattle.command_words.proofs.Ending.{is_simple_app, line_at_err, line_at_ok, line_if_odd, takes_options}
use Rattle.command_words.proofs.matching.matches_in.Goals as goal

pub returns-then-are_odd : goal.returns-then-are_odd
returns-then-are_odd c = line_if_odd (map string_bytes c.args.words.now) (search rules)

pub returns-in-Ok : goal.returns-in-Ok
returns-in-Ok c =
    let words : List Text = map string_bytes c.args.words.now in
    let is_app = c.in_ok-noisemap.ensures in
    line_at_ok words c.in-Ok.matches (search rules)
    (ap (λ (a : App). fault_of a words) (sym is_app) ∙ c.in-Ok.ensures.kinds (ap is_simple_and_free is_app ∙ takes_options))
    ((c.in-Ok.ensures.matches (ap is_simple is_app ∙ is_simple_app)).0 ∙ ap (λ (a : App). matches_of a words) is_app)

pub returns : goal.returns
returns c =
    let words : List Text = map string_bytes c.args.words.now in
    let is_app = c.in_ok-noisemap.ensures in
    let kinds = rw c.in-Err.is at c.try_get_matches_from.ensures.kinds in
    let other : kind_of c.in-Err.error ≡ OutOfMemory → ⊥ = λ e. same_false the_type _ _ (sym c.eq.ensures ∙ c.if-eq.false) (c.kind.ensures ∙ e) in
    line_at_err (app_of c.in_ok-noisemap.field-0) words c.in-Err.error is_app (search rules) (kinds (ap is_simple_and_free is_app ∙ takes_options)) other
