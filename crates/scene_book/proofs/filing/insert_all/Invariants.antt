use Rattle.std.proofs.Common.{◌≡◌, ◌≤◌, length}
use Rattle.indexmap.specs.IndexMap.{spare, insert_all, IsUnique}
use Rattle.scene_book.specs.inner.Filed.{same_key}
use Rattle.scene_book.proofs.filing.insert_all.Given as goal

abbrev pub invariant-loop-key : goal.invariant-loop-key
invariant-loop-key g l = record {
  can_next : (goal.iterator-loop-key g).can_next l.key-iterator;
  is_finite : (goal.iterator-loop-key g).is_finite l.key-iterator;
  room : length l.key-iterator.rest.items ≤ spare l.things;
  so_far : insert_all same_key l.things.entries l.key-iterator.rest.items
      ≡ insert_all same_key l.initial.things.entries l.fn.entries.items;
  unique : IsUnique same_key l.things;
}
