use Rattle.std.proofs.Common.{refl}
use Rattle.map_lock.proofs.Editing.{editor-after, counts-turned}
use Rattle.map_lock.proofs.lock.MapLock.finish.Goals as goal

pub invariant_of-seat : goal.invariant_of-seat
invariant_of-seat g c = (
  editor-after c.seat.inside.seat c.ask_finish.new.seat c.seat.invariant.0 c.ask_finish.ensures.sound _ _
      c.ask_finish.ensures.turn refl,
  counts-turned c.seat.inside.seat c.ask_finish.new.seat c.seat.inside.counts c.seat.invariant.1 _ _ c.ask_finish.ensures.turn,
)

pub returns-clause-sound : goal.returns-clause-sound
returns-clause-sound g c =
    editor-after c.seat.inside.seat c.ask_finish.new.seat c.seat.invariant.0 c.ask_finish.ensures.sound _ _
    c.ask_finish.ensures.turn refl
