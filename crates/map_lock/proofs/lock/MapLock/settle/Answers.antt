use Rattle.std.proofs.Common.{◌∙◌}
use Rattle.map_lock.proofs.Editing.{editor-settled, counts-settled}
use Rattle.map_lock.proofs.lock.MapLock.settle.Goals as goal

pub invariant_of-seat : goal.invariant_of-seat
invariant_of-seat g c = (
  editor-settled c.seat.inside.seat c.settle_by-settled.new.seat c.seat.invariant.0 c.settle_by-settled.ensures.sound
      c.settle_by-settled.result c.settle_by-settled.ensures.settled,
  c.counts_of-seat-inside.ensures
      ∙ counts-settled c.seat.inside.seat c.settle_by-settled.new.seat c.seat.inside.counts c.seat.invariant.1
      c.settle_by-settled.result c.settle_by-settled.ensures.settled,
)
