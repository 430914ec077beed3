use Rattle.std.proofs.Common.{rules}
use Rattle.path_calc.proofs.bundles.calculation.calculated.Goals as goal

pub invariant_of-result : goal.invariant_of-result
invariant_of-result c = record {
  fit = c.in_ok-segs.ensures.fit;
  bands = search rules;
  energy = search rules;
  long = search rules;
}
