use Rattle.std.proofs.Common.{ap, subst, refl, ◌∙◌}
use Rattle.map_board.specs.declared.calls.BoardCall.TheVariants as calls
use Rattle.map_board.specs.declared.calls.BoardReply.TheVariants as replies
use Rattle.map_lock.specs.Seats.{BoardSeat}
use Rattle.map_lock.specs.Working.{Follows}
use Rattle.map_lock.proofs.Desks.{follows-turned, may-offer-any, last-offer, loses-offer}
use Rattle.map_lock.proofs.desk.MapLockDesk.offer.Goals as goal

pub ask_offer-requires-clause-owed : goal.ask_offer-requires-clause-owed
ask_offer-requires-clause-owed g c =
    may-offer-any c.seat.inside.seat.number c.seat.inside.seat.mine c.args.answer (rw c.seat.view_is c.requires.owed)

pub returns-clause-last : goal.returns-clause-last
returns-clause-last g c = last-offer c.seat.inside.seat c.ask_offer.new.seat c.args.answer c.ask_offer.result
    c.ask_offer.ensures.turn

pub returns-clause-owed : goal.returns-clause-owed
returns-clause-owed g c =
    rw (← c.seat.view_is)
    (loses-offer c.seat.inside.seat c.ask_offer.new.seat c.args.answer c.ask_offer.result c.seat.invariant
    (rw c.seat.view_is c.requires.owed) c.ask_offer.ensures.turn)

pub ask_offer-requires-clause-own : goal.ask_offer-requires-clause-own
ask_offer-requires-clause-own g c = ap (λ (s : BoardSeat). s.table) c.seat.view_is ∙ c.requires.fits

pub invariant_of-seat : goal.invariant_of-seat
invariant_of-seat g c = c.ask_offer.ensures.sound

pub returns-clause-fits : goal.returns-clause-fits
returns-clause-fits g c =
    c.ask_offer.ensures.turn.called.table ∙ ap (λ (s : BoardSeat). s.table) c.seat.view_is ∙ c.requires.fits

pub returns-clause-follows : goal.returns-clause-follows
returns-clause-follows g c =
    subst (λ (s : BoardSeat). Follows s c.ask_offer.new.seat) c.seat.view_is
    (follows-turned c.seat.inside.seat c.ask_offer.new.seat (calls.Offer c.args.answer) (replies.Landed c.ask_offer.result) refl c.ask_offer.ensures.turn)
