use Rattle.std.proofs.Common.{rules, ap, ◌∙◌}
use Rattle.turn_lock.proofs.Parting.{joins}
use Rattle.turn_lock.proofs.Changes.{looks}
use Rattle.turn_lock.proofs.Facts.{sound, sound_seen}
use Rattle.turn_lock.proofs.turn.Turn.join.Goals as goal

pub join_seat-requires : goal.join_seat-requires
join_seat-requires g c =
    let seat = c.seat.invariant in
    let other = c.other.invariant in
    (search rules, search rules, other.empty, search rules, joins _ _ _ _ _ _ _ _ seat.number seat.name seat.free other.free)

pub load-requires : goal.load-requires
load-requires g c = (search rules, search rules, looks _ _ _ _ _ _ _)

pub returns-clause-sound : goal.returns-clause-sound
returns-clause-sound g c =
    let look = c.load.ensures.2 in
    let same = look.0 ∙ c.join_seat.ensures.2 in
    sound _ _ _ _ _ c.seat.invariant.number (ap (λ me. me.0.name) same ∙ c.seat.invariant.name) look.1

pub returns-clause-sound_before : goal.returns-clause-sound_before
returns-clause-sound_before g c = sound_seen _ _ _ _ _ _ c.seat.invariant.name c.seat.invariant.knows _ c.seat.view_is

pub returns-clause-sound_other : goal.returns-clause-sound_other
returns-clause-sound_other g c = sound_seen _ _ _ _ _ _ c.other.invariant.name c.other.invariant.knows _ c.other.view_is
