use Rattle.std.proofs.Common.{rules, sym, ap, ◌∙◌, subst, ◌∷◌, Some}
use Rattle.std.specs.Prelude.{unwrap_or}
use Rattle.atomic_table.specs.Table.{rest}
use Rattle.turn_lock.specs.History.{IsRun}
use Rattle.turn_lock.proofs.Passing.{passes}
use Rattle.turn_lock.proofs.turn.Turn.end_turn.Goals as goal

pub store-requires : goal.store-requires
store-requires g c =
    let may = c.requires.may in
    let put = c.exchange.ensures.3 in (
      search rules,
      search rules,
      passes _ _ _ _ _ _ _ _ may.number _ _ may.before c.args.machine
          (ap (λ me. me.1) put ∙ ap (λ l. (0, Some c.args.machine) ∷ rest l) may.slot)
          c.requires.added
          (ap (λ me. me.0.name) put ∙ may.name)
          (ap (λ me. me.0.phase) put ∙ may.phase)
          (ap (λ o. unwrap_or o 0) may.name)
          (subst (λ me. g.M.Machine.may may.number me.0.mine c.args.call.value) (sym put) may.allowed)
          (subst (λ me. IsRun g.M.Machine.start g.M.Machine.steps g.M.Machine.may me.0.seen (g.M.Machine.state may.before)) (sym put) may.run)
          may.step,
    )
