use Rattle.std.proofs.Common.{rules, ◌≤◌, sym, ap, ◌∙◌, subst}
use Rattle.std.specs.Prelude.{unwrap_or}
use Rattle.turn_lock.specs.Standing.{IsNew}
use Rattle.turn_lock.specs.inner.Steps.{Knows}
use Rattle.turn_lock.proofs.Parting.{splits}
use Rattle.turn_lock.proofs.Facts.{sound, sound_seen, new_above, knows_less}
use Rattle.turn_lock.proofs.turn.Turn.split.Goals as goal

pub split_seat-other-requires : goal.split_seat-other-requires
split_seat-other-requires g c =
    let seat = c.seat.invariant in
    (search rules, search rules, splits _ _ _ _ _ _ seat.number seat.name (subst (λ p. 2 ≤ p) (sym (ap (λ s. s.parts) c.seat.view_is)) c.requires.parts))

pub invariant_of-seat : goal.invariant_of-seat
invariant_of-seat g c =
    let seat = c.seat.invariant in
    let left = c.split_seat-other.ensures.2 in
    let two = subst (λ p. 2 ≤ p) (sym (ap (λ s. s.parts) c.seat.view_is)) c.requires.parts in record {
      number = seat.number;
      name = ap (λ me. me.0.name) left ∙ seat.name;
      free = ap (λ me. me.0.phase) left ∙ seat.free;
      empty = ap (λ me. me.1) left ∙ seat.empty;
      knows = subst (λ me. Knows g.M.Machine.start g.M.Machine.steps g.M.Machine.may me.0) (sym left) (knows_less _ _ _ _ two seat.knows);
    }

pub returns-clause-number : goal.returns-clause-number
returns-clause-number g c =
    let seat = c.seat.invariant in
    let drawn = c.draw_number.ensures.named in
    let above = subst (λ me. me.0.bound ≤ drawn.number) c.split_seat-other.ensures.4 drawn.above in
    let new = new_above c.seat.inside.place.table_id c.seat.inside.place.me.0 seat.number drawn.number seat.name seat.knows.numbers_below seat.knows.entries_below above in
    subst (λ n. IsNew n c.args.seat.now) (sym (ap (λ me. unwrap_or me.0.name 0) drawn.me)) (subst (IsNew drawn.number) c.seat.view_is new)

pub returns-clause-sound : goal.returns-clause-sound
returns-clause-sound g c =
    let seat = c.seat.invariant in
    let left = c.split_seat-other.ensures.2 in
    let two = subst (λ p. 2 ≤ p) (sym (ap (λ s. s.parts) c.seat.view_is)) c.requires.parts in
    sound _ _ _ _ _ seat.number (ap (λ me. me.0.name) left ∙ seat.name)
    (subst (λ me. Knows g.M.Machine.start g.M.Machine.steps g.M.Machine.may me.0) (sym left) (knows_less _ _ _ _ two seat.knows))

pub returns-clause-sound_new : goal.returns-clause-sound_new
returns-clause-sound_new g c =
    let drawn = c.draw_number.ensures.named in
    sound _ _ _ _ _ drawn.number (ap (λ me. me.0.name) drawn.me) drawn.knows

pub returns-clause-sound_before : goal.returns-clause-sound_before
returns-clause-sound_before g c = sound_seen _ _ _ _ _ _ c.seat.invariant.name c.seat.invariant.knows _ c.seat.view_is
