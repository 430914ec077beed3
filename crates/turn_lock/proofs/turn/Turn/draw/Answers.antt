use Rattle.std.proofs.Common.{rules, ap, ◌∙◌}
use Rattle.turn_lock.proofs.Queue.{draws}
use Rattle.turn_lock.proofs.turn.Turn.draw.Goals as goal

pub compare_exchange-requires : goal.compare_exchange-requires
compare_exchange-requires g c =
    let i = c.loop.invariant in
    let free = c.requires.free in
    (search rules, search rules, draws _ _ _ _ _ _ _ _ free.number (ap (λ me. me.0.phase) i.1 ∙ free.phase) (ap (λ me. me.0.name) i.1 ∙ free.name))
