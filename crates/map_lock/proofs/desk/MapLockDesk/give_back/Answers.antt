use Rattle.std.proofs.Common.{ap, subst, refl, ◌∙◌}
use Rattle.map_board.specs.declared.calls.BoardCall.TheVariants as calls
use Rattle.map_board.specs.declared.calls.BoardReply.TheVariants as replies
use Rattle.map_lock.specs.Seats.{BoardSeat}
use Rattle.map_lock.specs.Working.{Follows}
use Rattle.map_lock.proofs.Desks.{follows-turned, last-give-back, loses-give-back}
use Rattle.map_lock.proofs.desk.MapLockDesk.give_back.Goals as goal

pub returns-clause-last : goal.returns-clause-last
returns-clause-last g c = last-give-back c.seat.inside.seat c.ask_give_back.new.seat c.args.back.job
    c.ask_give_back.ensures.turn

pub returns-clause-owed : goal.returns-clause-owed
returns-clause-owed g c =
    rw (← c.seat.view_is)
    (loses-give-back c.seat.inside.seat c.ask_give_back.new.seat c.args.back.job c.seat.invariant
    (rw c.seat.view_is c.requires.owed) c.ask_give_back.ensures.turn)

pub ask_give_back-requires-clause-own : goal.ask_give_back-requires-clause-own
ask_give_back-requires-clause-own g c = ap (λ (s : BoardSeat). s.table) c.seat.view_is ∙ c.requires.fits

pub ask_give_back-requires-clause-owed : goal.ask_give_back-requires-clause-owed
ask_give_back-requires-clause-owed g c = rw c.seat.view_is c.requires.owed

pub invariant_of-seat : goal.invariant_of-seat
invariant_of-seat g c = c.ask_give_back.ensures.sound

pub returns-clause-fits : goal.returns-clause-fits
returns-clause-fits g c =
    c.ask_give_back.ensures.turn.called.table ∙ ap (λ (s : BoardSeat). s.table) c.seat.view_is ∙ c.requires.fits

pub returns-clause-follows : goal.returns-clause-follows
returns-clause-follows g c =
    subst (λ (s : BoardSeat). Follows s c.ask_give_back.new.seat) c.seat.view_is
    (follows-turned c.seat.inside.seat c.ask_give_back.new.seat (calls.GiveBack c.args.back.job) replies.Done refl c.ask_give_back.ensures.turn)
