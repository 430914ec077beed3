use Rattle.std.proofs.Common.{◌∙◌, sym, arith}
use Rattle.std.proofs.lemmas.Grind.{common_steps}
use Rattle.edge_chain.proofs.Strings.{slackened-end}
use Rattle.edge_chain.proofs.winding.tight_from.Goals as goal

pub loop-at-preserved : goal.loop-at-preserved
loop-at-preserved c = grind (arith, common_steps)

pub returns-after-loop-at-clause-value : goal.returns-after-loop-at-clause-value
returns-after-loop-at-clause-value c =
    sym (slackened-end c.args.hand c.args.point c.args.string.now c.loop-at.at c.loop-at-test.false) ∙ c.loop-at.invariant.value
