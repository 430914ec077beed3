use Rattle.std.proofs.Common.{rules, ◌≡◌, sym, ap, ◌∙◌, subst}
use Rattle.std.specs.Borrow.{MutBor}
use Rattle.turn_lock.proofs.Facts.{sound, sound_seen, can_answer, may_end, others_alone}
use Rattle.turn_lock.proofs.turn.Turn.turn_by.Goals as goal

pub f-reply-requires : goal.f-reply-requires
f-reply-requires g c =
    let turn = c.take_turn-ticket.ensures.turn in
    let machine = c.take_turn-ticket.result.1 in
    let can = can_answer _ _ _ g.M.Machine.can _ c.seat.inside.place.me.0 c.seat.invariant.number turn.history _ c.args.call g.met.M.Machine.lawful c.seat.invariant.name turn.done turn.run _ c.seat.view_is c.requires.allowed in
    let takes = λ (lent : MutBor g.row.M.Denot) (is : lent.now ≡ machine). c.requires.answers.may_be_called lent (subst (λ m. g.M.Machine.can (g.M.Machine.state m) c.args.call) (sym is) can) in
    search (rules, takes)

pub end_turn-requires-clause-may : goal.end_turn-requires-clause-may
end_turn-requires-clause-may g c =
    let turn = c.take_turn-ticket.ensures.turn in
    let can = can_answer _ _ _ g.M.Machine.can _ c.seat.inside.place.me.0 c.seat.invariant.number turn.history _ c.args.call g.met.M.Machine.lawful c.seat.invariant.name turn.done turn.run _ c.seat.view_is c.requires.allowed in
    let step = c.requires.answers.makes_a_step _ _ _ can c.f-reply.ensures in
    may_end _ _ _ g.M.Machine.state c.seat.inside.place.table_id c.seat.inside.place.me _ c.seat.invariant.number _ c.args.call _ c.f-reply.result _ _ c.f-reply.new.arg2 c.seat.invariant.name c.seat.invariant.empty turn _ c.seat.view_is c.requires.allowed c.of-said.ensures c.of-replied.ensures step

pub returns-clause-sound : goal.returns-clause-sound
returns-clause-sound g c =
    let seat = c.seat.invariant in
    let turn = c.take_turn-ticket.ensures.turn in
    let name = ap (λ me. me.0.name) c.end_turn.ensures.passed ∙ (ap (λ me. me.0.name) turn.me ∙ seat.name) in
    sound _ _ _ _ _ seat.number name c.end_turn.ensures.knows

pub returns-clause-called : goal.returns-clause-called
returns-clause-called g c =
    let seat = c.seat.invariant in
    let turn = c.take_turn-ticket.ensures.turn in
    let others = others_alone c.seat.inside.place.me.0 seat.number turn.history seat.name turn.done seat.knows.done_seen turn.seen _ (ap (λ s. s.number) c.seat.view_is) in
    search (rules, others)

pub returns-clause-sound_before : goal.returns-clause-sound_before
returns-clause-sound_before g c = sound_seen _ _ _ _ _ _ c.seat.invariant.name c.seat.invariant.knows _ c.seat.view_is
