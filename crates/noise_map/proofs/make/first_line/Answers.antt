use Rattle.std.proofs.Common.{arith, sym, ◌∙◌}
use Rattle.noise_map.proofs.Sites.{line-ended, line-unended}
use Rattle.noise_map.proofs.make.first_line.Goals as goal

pub returns-in-Some : goal.returns-in-Some
returns-in-Some c = line-ended c.args.bytes.now c.in-Some.end (sym c.line_feed.ensures ∙ c.in-Some.is)

pub returns-in-None : goal.returns-in-None
returns-in-None c = line-unended c.args.bytes.now (sym c.line_feed.ensures ∙ c.in-None.is) (grind (arith, c.if-is_empty.false, c.is_empty.ensures))
