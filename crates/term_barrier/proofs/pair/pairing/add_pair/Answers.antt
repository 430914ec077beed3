use Rattle.std.proofs.Common.{refl}
use Rattle.term_barrier.proofs.Joining.{pair-left}
use Rattle.term_barrier.proofs.pair.pairing.add_pair.Goals as goal

pub returns-in_default : goal.returns-in_default
returns-in_default c =
    pair-left c.args.path.now c.args.d c.args.i c.args.j c.args.first.now.edge c.args.second.now.edge _ _ c.in_default.ensures.never refl
