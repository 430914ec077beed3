use Rattle.std.proofs.Common.{sym, ap, ◌∙◌, [], ◌∷◌}
use Rattle.map_lock.proofs.Rounds.{may-offer, may-give-back, quiet-offer, unseen-back}
use Rattle.map_lock.proofs.lock.MapLock.work_off.Goals as goal

pub ask_offer-requires-clause-owed : goal.ask_offer-requires-clause-owed
ask_offer-requires-clause-owed g c =
    may-offer c.args.seat.now.number c.args.seat.now.mine c.args.job c.in-Ok.answer c.requires.owed c.in-Ok.ensures

pub ask_give_back-requires-clause-owed : goal.ask_give_back-requires-clause-owed
ask_give_back-requires-clause-owed g c =
    may-give-back c.args.seat.now.number c.args.seat.now.mine c.in-Err.job
    (c.requires.owed ∙ ap (λ job. job ∷ []) (sym c.in-Err.ensures))

pub returns-in-Ok-clause-worked : goal.returns-in-Ok-clause-worked
returns-in-Ok-clause-worked g c =
    quiet-offer c.args.seat.now c.ask_offer.new.seat c.args.job c.in-Ok.answer _ c.requires.owed c.in-Ok.ensures
    c.ask_offer.ensures.turn

pub returns-in-Err-clause-worked : goal.returns-in-Err-clause-worked
returns-in-Err-clause-worked g c =
    unseen-back c.args.seat.now c.ask_give_back.new.seat c.in-Err.job
    (c.requires.owed ∙ ap (λ job. job ∷ []) (sym c.in-Err.ensures)) c.ask_give_back.ensures.turn
