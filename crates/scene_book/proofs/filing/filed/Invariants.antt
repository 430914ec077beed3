use Rattle.std.proofs.Common.{◌≡◌, ◌++◌}
use Rattle.std.specs.Map.{values_of}
use Rattle.scene_book.specs.inner.Filed.{AreFiled}
use Rattle.scene_book.proofs.filing.filed.Given as goal

abbrev pub invariant-loop-thing : goal.invariant-loop-thing
invariant-loop-thing g l = record {
  can_next : (goal.iterator-loop-thing g).can_next l.thing-iterator;
  is_finite : (goal.iterator-loop-thing g).is_finite l.thing-iterator;
  filed : AreFiled g.T.Named.slot.name_of l.entries.items;
  so_far : values_of l.entries.items ++ l.thing-iterator.rest.items ≡ l.fn.things.items;
}
