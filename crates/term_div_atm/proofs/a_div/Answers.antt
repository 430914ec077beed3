use Rattle.term_div_atm.proofs.Ends.{divergence-between}
use Rattle.term_div_atm.proofs.a_div.Goals as goal

pub returns-clause-bounds : goal.returns-clause-bounds
returns-clause-bounds c h =
    rw (c.add.ensures, c.mul.ensures, c.lg.ensures.value, c.one_metre_at_least.ensures.value, c.exact.ensures, c.exact-2.ensures) (divergence-between c.args.d h)
