use Rattle.fix_interval.proofs.Intervals.{IsInterval-add_of, IsInterval-neg_of, IsInterval-max_of, IsInterval-min_of, IsInterval-hull_of, IsInterval-pick_of}
use Rattle.fix_interval.proofs.Ratios.{IsInterval-Const}
use Rattle.fix_interval.proofs.Ends.{IsInterval-mul_of, IsInterval-div_of}
use Rattle.fix_interval.proofs.Rooting.{IsInterval-root_of}
use Rattle.fix_interval.proofs.laws.table_gives_intervals.Goals as goal

pub returns : goal.returns
returns c = record {
  constant = IsInterval-Const;
  sum = IsInterval-add_of;
  negation = IsInterval-neg_of;
  product = IsInterval-mul_of;
  quotient = IsInterval-div_of;
  greater = IsInterval-max_of;
  lesser = IsInterval-min_of;
  square_root = IsInterval-root_of;
  hull = IsInterval-hull_of;
  choice = IsInterval-pick_of;
}
