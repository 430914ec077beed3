use Rattle.std.proofs.Common.{refl}
use Rattle.term_barrier.proofs.Pairs.{both-never}
use Rattle.term_barrier.proofs.pair.convexity.convexity.Goals as goal

pub returns-in-Never-bends_at_first : goal.returns-in-Never-bends_at_first
returns-in-Never-bends_at_first c =
    let never = c.in-Never-bends_at_first.is in
    rw (← c.less-in_order.ensures, ← c.mul.ensures, ← c.mul-2.ensures, ← c.less-bends_at_first.ensures, never, both-never) refl
