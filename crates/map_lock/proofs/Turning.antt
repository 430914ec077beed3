-- One turn through a seat: what it says of the machine, and what it leaves of the seat's own entries.
use Rattle.std.proofs.Common.{[], ◌∷◌, ◌++◌, refl, ◌∙◌, subst, append_assoc}
use Rattle.turn_lock.specs.History.{IsRun, entry}
use Rattle.turn_lock.specs.Standing.{HasCalled}
use Rattle.turn_lock.proofs.Histories.{run_last, own_more}
use Rattle.map_board.specs.declared.calls.BoardCall.{BoardCall}
use Rattle.map_board.specs.declared.calls.BoardReply.{BoardReply}
use Rattle.map_board.specs.Rows.{start}
use Rattle.map_board.specs.Machine.{Step}
use Rattle.map_board.specs.Seats.{Entries, May}
use Rattle.map_lock.specs.Seats.{BoardSeat, IsSeat}
use Rattle.map_lock.specs.Turns.{HasTurned, HasActed, IsReplyTo}
use Rattle.map_lock.proofs.Replies.{step-kind}

module _ (before after : BoardSeat) (call : BoardCall) (reply : BoardReply) where
  -- a call after which the seat has seen a legal history is a turn of the board's machine
  pub has-turned : HasCalled before call reply after → IsSeat after → HasTurned before call reply after
  has-turned called sound =
      let run : IsRun start Step May ((before.seen ++ called.between) ++ entry before.number call reply ∷ []) sound.legal.0 =
      subst (λ (seen : Entries). IsRun start Step May seen sound.legal.0) called.seen sound.legal.1 in
      let last = run_last start Step May (before.seen ++ called.between) (entry before.number call reply) sound.legal.0 run in
      record {
        called = called;
        met = last.state;
        left = sound.legal.0;
        run = last.run;
        step = last.step;
        whole = sound.legal.1;
      }

  -- its reply is of the call's kind
  pub turned-kind : HasTurned before call reply after → IsReplyTo call reply
  turned-kind turned = step-kind turned.met call reply turned.left turned.step

  abbrev pub acted-once : HasTurned before call reply after → HasActed before (entry before.number call reply ∷ []) after
  acted-once turned =
      let called = turned.called in
      let last = entry before.number call reply in
      record {
        between = called.between ++ last ∷ [];
        seen = called.seen ∙ append_assoc before.seen called.between (last ∷ []);
        own_are = own_more before.number called.between [] last called.others refl;
        mine = called.mine;
        table = called.table;
        number = called.number;
        parts = called.parts;
        joined = called.joined;
      }
