-- The sum is that of the bands so far.
use Rattle.std.proofs.Common.{◌≡◌, ◌*◌, take}
use Rattle.path_calc.specs.declared.energies.hearing.Heard.{Heard}
use Rattle.path_calc.specs.inner.Ranges.{IsSumOf}
use Rattle.path_calc.proofs.Sums.{summed}
use Rattle.path_calc.proofs.energies.long_sum.Given as goal

abbrev pub invariant-loop-heard : goal.invariant-loop-heard
invariant-loop-heard l = record {
  value : l.sum ≡ summed (λ (h : Heard). h.long) (take l.heard-index l.bands);
  bounds : IsSumOf (l.heard-index * 16387) l.sum;
}
