-- The sums fit some bundles with those that are still to be taken off.
use Rattle.std.proofs.Common.{List, ◌++◌, drop}
use Rattle.path_calc.specs.Bundles.{Bundle}
use Rattle.path_cache.specs.Sums.{Fits}
use Rattle.path_cache.specs.inner.TakingOff.{FitFrom}
use Rattle.path_cache.proofs.sums.RowSums.take_off_between.Given as goal

abbrev pub invariant-loop-place : goal.invariant-loop-place
invariant-loop-place l = record {
  some : FitFrom l.place l.bundles l.self;
  all : (front : List Bundle) → Fits l.fn.self (front ++ drop l.from l.bundles) → Fits l.self (front ++ drop l.place l.bundles);
}
