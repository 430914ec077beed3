use Rattle.std.proofs.Common.{sym, ◌∙◌}
use Rattle.energy_sum.proofs.Adding.{left-made}
use Rattle.energy_sum.proofs.sum.Sum.take_off.Goals as goal

pub returns-clause-again : goal.returns-clause-again
returns-clause-again c =
    left-made c.self.inside.lo c.self.inside.hi c.args.self.now c.args.e c.unwrap.result c.unwrap-2.result c.self.view_is
    (sym c.low.ensures.end ∙ c.unwrap.ensures) (sym c.high.ensures.end ∙ c.unwrap-2.ensures) c.low.ensures.interval c.self.invariant.ordered c.self.invariant.bounded
    c.requires.low c.requires.high c.requires.part c.requires.ordered
