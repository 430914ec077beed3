-- The bundles with those to come are all, and the places of these are there.
use Rattle.std.proofs.Common.{◌≡◌, ◌<◌, length}
use Rattle.std.specs.Prelude.{All}
use Rattle.std.specs.Vec.Iter.{into_iter_items}
use Rattle.path_cache.specs.declared.replacing.Replaced.{Replaced}
use Rattle.path_cache.specs.Renewals.{with_each}
use Rattle.path_cache.proofs.replacing.put_each.Given as goal

abbrev pub invariant-loop-replaced : goal.invariant-loop-replaced
invariant-loop-replaced l = record {
  all : with_each (into_iter_items l.replaced-iterator) l.bundles.items ≡ with_each l.fn.news.items l.fn.kept.items;
  places : All (λ (replaced : Replaced). replaced.place < length l.bundles.items) (into_iter_items l.replaced-iterator);
}
