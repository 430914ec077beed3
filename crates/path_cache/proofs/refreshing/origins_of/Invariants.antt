-- The origins of the bundles of the sources so far are there, and their steps are counted.
use Rattle.std.proofs.Common.{◌≡◌, ◌+◌, ◌≤◌, flat_map, take, length}
use Rattle.std.specs.Prelude.{sum_by}
use Rattle.path_cache.specs.inner.OfOneSource.{refreshed_of_one, steps_of_one}
use Rattle.path_cache.specs.Origins.{Ascend, bundles_from}
use Rattle.path_cache.proofs.refreshing.origins_of.Given as goal

abbrev pub invariant-loop-place : goal.invariant-loop-place
invariant-loop-place g l = record {
  bundles : bundles_from l.renewal.kept.now l.origins.list.items
      ≡ flat_map (refreshed_of_one l.renewal.scene.now l.renewal.receiver.now l.renewal.kept.now l.renewal.marks.now) (take l.place l.renewal.scene.now.sources);
  ascend : Ascend 0 l.origins.list.items l.origins.next;
  next : l.origins.next ≤ length l.renewal.kept.now;
  few : length l.origins.list.items ≤ l.place;
  steps : l.steps ≡ l.fn.steps + sum_by (steps_of_one l.renewal.scene.now l.renewal.receiver.now l.renewal.kept.now l.renewal.marks.now) (take l.place l.renewal.scene.now.sources);
}
