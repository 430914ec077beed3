use Rattle.std.proofs.Common.{sym, subst}
use Rattle.map_board.specs.declared.calls.BoardReply.{BoardReply}
use Rattle.map_lock.specs.Turns.{HasTurned}
use Rattle.map_lock.proofs.Turning.{has-turned, turned-kind}
use Rattle.map_lock.proofs.lock.MapLock.ask.Goals as goal

pub returns-clause-turn : goal.returns-clause-turn
returns-clause-turn g c =
    subst (λ (reply : BoardReply). HasTurned c.args.seat.now c.args.call reply c.turn.new.seat) (sym c.said_by.ensures)
    (has-turned c.args.seat.now c.turn.new.seat c.args.call c.turn.result c.turn.ensures.called c.turn.ensures.sound)

pub said_by-requires : goal.said_by-requires
said_by-requires g c =
    c.requires.kind c.turn.result
    (turned-kind c.args.seat.now c.turn.new.seat c.args.call c.turn.result
    (has-turned c.args.seat.now c.turn.new.seat c.args.call c.turn.result c.turn.ensures.called c.turn.ensures.sound))
