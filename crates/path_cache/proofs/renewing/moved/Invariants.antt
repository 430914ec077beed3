-- The bundles so far and those of the origins to come are all, and the kept ones from the next place on are to come.
use Rattle.std.proofs.Common.{◌≡◌, ◌+◌, ◌≤◌, ◌++◌, drop, length}
use Rattle.std.specs.Prelude.{vec_capacity}
use Rattle.std.specs.Vec.Iter.{into_iter_items}
use Rattle.path_cache.specs.Origins.{Ascend, bundles_from}
use Rattle.path_cache.proofs.renewing.moved.Given as goal

abbrev pub invariant-loop-origin : goal.invariant-loop-origin
invariant-loop-origin l = record {
  ascend : Ascend l.next (into_iter_items l.origin-iterator) (length l.fn.kept.items);
  rest : into_iter_items l.rest ≡ drop l.next l.fn.kept.items;
  all : l.bundles.items ++ bundles_from l.fn.kept.items (into_iter_items l.origin-iterator)
      ≡ bundles_from l.fn.kept.items l.fn.origins.items;
  room : length l.bundles.items + length (into_iter_items l.origin-iterator) ≤ vec_capacity l.bundles;
}
