use Rattle.fix_interval.proofs.Steps.{Encloses-Known, Encloses-Const, Encloses-Add, Encloses-Neg, Encloses-Mul, Encloses-Div, Encloses-Max, Encloses-Min, Encloses-Root, Encloses-Pick}
use Rattle.fix_interval.proofs.laws.table_encloses.Goals as goal

pub returns : goal.returns
returns c = record {
  known = Encloses-Known;
  constant = Encloses-Const;
  sum = Encloses-Add;
  negation = Encloses-Neg;
  product = Encloses-Mul;
  quotient = Encloses-Div;
  greater = Encloses-Max;
  lesser = Encloses-Min;
  square_root = Encloses-Root;
  choice = Encloses-Pick;
}
