use Rattle.std.proofs.Common.{◌∙◌, arith}
use Rattle.map_board.proofs.Carrying.{placed-set, placed-push}
use Rattle.map_board.proofs.edits.renewing.put_at.Goals as goal

pub returns-then-place-len-clause-items : goal.returns-then-place-len-clause-items
returns-then-place-len-clause-items c =
    placed-set c.args.place c.args.row c.args.rows.now.items (omega (arith, c.if-place-len.true, c.len.ensures, c.args.rows.now.ok.0))

pub returns-else-place-len-clause-items : goal.returns-else-place-len-clause-items
returns-else-place-len-clause-items c =
    c.push_reserved.ensures.items
    ∙ placed-push c.args.place c.args.row c.args.rows.now.items c.requires.place (omega (arith, c.if-place-len.false, c.len.ensures, c.args.rows.now.ok.0))
