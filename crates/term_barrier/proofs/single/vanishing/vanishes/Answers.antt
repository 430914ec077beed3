use Rattle.term_barrier.proofs.Vanishing.{k_met-vanishes}
use Rattle.term_barrier.proofs.single.vanishing.vanishes.Goals as goal

pub returns : goal.returns
returns c =
    let first = c.whole_metres.ensures in
    let second = c.whole_metres-2.ensures in
    let third = c.whole_metres-3.ensures in
    λ yes.
    k_met-vanishes _ _ _ c.into.result c.args.d_ss c.args.d_sr c.args.d c.args.z first.bound second.bound third.bound first.known second.known third.known
    c.into.ensures (c.lies_between.ensures.within yes)
