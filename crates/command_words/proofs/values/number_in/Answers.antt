use Rattle.std.proofs.Common.{◌∙◌, ap, sym}
use Rattle.std.specs.Result.{result_ok}
use Rattle.command_words.proofs.Digits.{parses}
use Rattle.command_words.proofs.values.number_in.Goals as goal

pub returns-then-is_number : goal.returns-then-is_number
returns-then-is_number c =
    let right = sym c.is_number.ensures ∙ c.if-is_number.true in
    rw right (c.ok.ensures.value ∙ ap result_ok (parses c.args.text.now c.parse.result right c.parse.ensures.value.0))
