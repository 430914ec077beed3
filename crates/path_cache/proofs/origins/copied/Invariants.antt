-- The bundles so far and those of the origins to come are all.
use Rattle.std.proofs.Common.{◌≡◌, ℕ, ◌++◌, length}
use Rattle.std.specs.Vec.Iter.{into_iter_items}
use Rattle.path_cache.specs.Origins.{Ascend, bundles_from}
use Rattle.path_cache.proofs.origins.copied.Given as goal

abbrev pub invariant-loop-origin : goal.invariant-loop-origin
invariant-loop-origin l = record {
  ascend : (from : ℕ) × Ascend from (into_iter_items l.origin-iterator) (length l.kept);
  all : l.bundles.items ++ bundles_from l.kept (into_iter_items l.origin-iterator) ≡ bundles_from l.kept l.fn.origins.items;
}
