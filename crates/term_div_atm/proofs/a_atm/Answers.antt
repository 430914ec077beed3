use Rattle.term_div_atm.proofs.Ends.{absorption-between}
use Rattle.term_div_atm.proofs.a_atm.Goals as goal

pub returns-clause-bounds : goal.returns-clause-bounds
returns-clause-bounds c h few =
    rw (c.over.ensures, c.times.ensures, c.one_metre_at_least.ensures.value) (absorption-between c.args.d c.args.alpha10 few h)
