-- None of the bundles so far is one.
use Rattle.std.proofs.Common.{◌≡◌, drop}
use Rattle.path_cache.specs.Refreshed.{unmarked}
use Rattle.path_cache.proofs.keeping.search_unmarked.Given as goal

abbrev pub invariant-loop-place : goal.invariant-loop-place
invariant-loop-place l =
    unmarked l.name l.kept l.marks ≡ unmarked l.name (drop l.place l.kept) (drop l.place l.marks)
