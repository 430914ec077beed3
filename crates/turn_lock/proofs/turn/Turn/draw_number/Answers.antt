use Rattle.std.proofs.Common.{rules, sym, subst}
use Rattle.turn_lock.specs.inner.Places.{IsUnnamed}
use Rattle.turn_lock.proofs.Parting.{numbers}
use Rattle.turn_lock.proofs.turn.Turn.draw_number.Goals as goal

pub compare_exchange-requires : goal.compare_exchange-requires
compare_exchange-requires g c =
    let i = c.loop.invariant in
    (search rules, search rules, numbers _ _ _ _ _ _ _ _ (subst IsUnnamed (sym i.1) c.requires.unnamed))
