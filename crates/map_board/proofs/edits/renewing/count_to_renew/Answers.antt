use Rattle.std.proofs.Common.{arith, sym, ◌∙◌}
use Rattle.map_board.proofs.Emptiness.{names-none}
use Rattle.map_board.proofs.edits.renewing.count_to_renew.Goals as goal

pub returns-else-may_name-clause-fewer : goal.returns-else-may_name-clause-fewer
returns-else-may_name-clause-fewer c less =
    (omega (arith, less, c.min.ensures), names-none c.args.logged.now.edit c.args.logged.now.old (sym c.may_name.ensures ∙ c.if-may_name.false))
