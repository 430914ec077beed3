use Rattle.std.proofs.Common.{rules, ◌∷◌, Some, sym, ap, ◌∙◌}
use Rattle.atomic_table.specs.Table.{rest}
use Rattle.turn_lock.proofs.turn.Turn.take_turn.Goals as goal

pub exchange-requires : goal.exchange-requires
exchange-requires g c =
    let turn = c.wait_for.ensures.turn in
    let held = ap (λ me. me.1) turn.1.me in
    (search rules, (Some turn.0, held ∙ ap (λ l. (0, Some turn.0) ∷ l) (sym (ap rest held))))
