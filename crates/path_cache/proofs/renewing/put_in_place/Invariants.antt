-- The bundles so far and those of the origins to come are all, and those from the place on are the kept ones.
use Rattle.std.proofs.Common.{◌≡◌, ◌+◌, ◌++◌, take, drop, length}
use Rattle.std.specs.Vec.Iter.{into_iter_items}
use Rattle.path_cache.specs.Origins.{bundles_from}
use Rattle.path_cache.proofs.renewing.put_in_place.Given as goal

abbrev pub invariant-loop-origin : goal.invariant-loop-origin
invariant-loop-origin l = record {
  rest : into_iter_items l.origin-iterator ≡ drop l.place l.fn.origins.items;
  all : take l.place l.bundles.items ++ bundles_from l.fn.kept.items (into_iter_items l.origin-iterator)
      ≡ bundles_from l.fn.kept.items l.fn.origins.items;
  left : drop l.place l.bundles.items ≡ drop l.place l.fn.kept.items;
  count : length l.bundles.items ≡ length l.fn.kept.items;
  reach : l.place + length (into_iter_items l.origin-iterator) ≡ length l.fn.origins.items;
}
