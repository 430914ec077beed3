use Rattle.std.proofs.Common.{sym}
use Rattle.term_ground.proofs.Factors.{product-is, product-high}
use Rattle.term_ground.proofs.amounts.amount.Amount.by.Goals as goal

pub returns-clause-value : goal.returns-clause-value
returns-clause-value c =
    let a = c.args.factor in
    let b = c.args.self in
    rw (c.units_down.ensures, c.units_up.ensures)
    (sym (product-is a.lo a.hi b.lo b.hi a.ordered b.ordered c.requires.factor c.requires.amount))

pub returns-clause-high : goal.returns-clause-high
returns-clause-high c =
    rw (c.units_up.ensures) (product-high c.args.factor.hi c.args.self.hi c.requires.factor)
