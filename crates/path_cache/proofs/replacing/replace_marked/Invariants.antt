-- The row is refreshed up to the place, its sums fit it, and the steps so far are counted.
use Rattle.std.proofs.Common.{◌≡◌, ◌+◌, ◌++◌, ◌<◌, take, drop, length}
use Rattle.std.specs.Prelude.{All, count_by}
use Rattle.path_cache.specs.declared.replacing.Replaced.{Replaced}
use Rattle.path_cache.specs.Refreshed.{refreshed, is_wanted}
use Rattle.path_cache.specs.Sums.{Fits}
use Rattle.path_cache.specs.Renewals.{with_each}
use Rattle.path_cache.proofs.replacing.replace_marked.Given as goal

abbrev pub invariant-loop-place : goal.invariant-loop-place
invariant-loop-place g l = record {
  row : with_each l.row.news.items l.renewal.kept.now
      ≡ take l.place (refreshed l.renewal.scene.now l.renewal.receiver.now l.renewal.kept.now l.renewal.marks.now) ++ drop l.place l.renewal.kept.now;
  places : All (λ (replaced : Replaced). replaced.place < length l.renewal.kept.now) l.row.news.items;
  fit : Fits l.row.sums (with_each l.row.news.items l.renewal.kept.now);
  steps : l.steps ≡ l.fn.steps + count_by (is_wanted l.renewal.kept.now l.renewal.marks.now) (take l.place l.renewal.scene.now.sources);
}
