use Rattle.std.proofs.Common.{rules, ap, ◌∙◌}
use Rattle.turn_lock.proofs.Queue.{serves}
use Rattle.turn_lock.proofs.turn.Turn.wait_for.Goals as goal

pub load-served-requires : goal.load-served-requires
load-served-requires g c =
    let i = c.loop.invariant in
    let waiting = c.requires.waiting in
    (search rules, search rules, serves _ _ _ _ _ _ _ _ waiting.number (ap (λ me. me.0.phase) i.1 ∙ waiting.phase) (ap (λ me. me.0.name) i.1 ∙ waiting.name))
