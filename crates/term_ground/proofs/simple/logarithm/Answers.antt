use Rattle.std.proofs.Common.{sym, ◌∙◌}
use Rattle.term_ground.proofs.SimpleMethod.{at-least-one, lg-none}
use Rattle.term_ground.proofs.simple.logarithm.Goals as goal

pub lg-requires : goal.lg-requires
lg-requires c = at-least-one c.args.a.lo (sym c.is_positive.ensures ∙ c.if-is_positive.true)

pub returns-else-is_positive : goal.returns-else-is_positive
returns-else-is_positive c = sym (lg-none c.args.a (sym c.is_positive.ensures ∙ c.if-is_positive.false))
