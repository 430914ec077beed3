use Rattle.std.proofs.Common.{sym, ◌∙◌}
use Rattle.path_calc.proofs.SameNumbers.{same-are}
use Rattle.path_calc.proofs.Tracing.{nothing-added}
use Rattle.path_calc.proofs.lateral.strings.Strings.turn_to.Goals as goal

pub returns-else-not-are_numbers_in-clause-numbers : goal.returns-else-not-are_numbers_in-clause-numbers
returns-else-not-are_numbers_in-clause-numbers c =
    sym c.as_slice.ensures.value ∙ sym (same-are _ _ (sym c.are_numbers_in.ensures ∙ c.if-not-are_numbers_in.false))

pub returns-else-not-are_numbers_in-clause-trace : goal.returns-else-not-are_numbers_in-clause-trace
returns-else-not-are_numbers_in-clause-trace c =
    nothing-added c.args.sight.now.ends c.args.trace.now c.args.self.now
