-- The sum is that of the bundles so far, and isn't more than so many energies may be.
use Rattle.std.proofs.Common.{◌≡◌, take}
use Rattle.path_calc.specs.Bundles.{Bundle}
use Rattle.path_calc.proofs.Sums.{IsCounted, summed}
use Rattle.path_calc.proofs.totals.addition.total_level.Given as goal

abbrev pub invariant-loop-bundle : goal.invariant-loop-bundle
invariant-loop-bundle l = record {
  value : l.sum ≡ summed (λ (b : Bundle). b.long) (take l.bundle-index l.bundles);
  counted : IsCounted (λ (b : Bundle). b.long) l.bundles l.bundle-index l.sum;
}
