-- The sum is that of the bundles so far, and isn't more than so many energies may be.
use Rattle.std.proofs.Common.{◌≡◌, take}
use Rattle.path_calc.specs.Bundles.{energy_in}
use Rattle.path_calc.proofs.Sums.{IsCounted, summed}
use Rattle.path_calc.proofs.totals.addition.band_level.Given as goal

abbrev pub invariant-loop-bundle : goal.invariant-loop-bundle
invariant-loop-bundle l = record {
  value : l.sum ≡ summed (energy_in l.band) (take l.bundle-index l.bundles);
  counted : IsCounted (energy_in l.band) l.bundles l.bundle-index l.sum;
}
