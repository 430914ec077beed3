-- The sums fit the bundles of the origins so far with those that are still kept.
use Rattle.std.proofs.Common.{◌++◌, drop, take, length}
use Rattle.path_cache.specs.Sums.{Fits}
use Rattle.path_cache.specs.Origins.{Ascend, bundles_from}
use Rattle.path_cache.proofs.origins.sums_after.Given as goal

abbrev pub invariant-loop-origin : goal.invariant-loop-origin
invariant-loop-origin l = record {
  ascend : Ascend l.next (drop l.origin-index l.origins) (length l.kept);
  fit : Fits l.after (bundles_from l.kept (take l.origin-index l.origins) ++ drop l.next l.kept);
}
