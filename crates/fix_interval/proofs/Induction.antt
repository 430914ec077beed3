-- The induction over whole formulas: where the values of Lg, Ten and ExpNeg enclose too, the interval of a
-- formula encloses it. A crate that has these three values cites this with the laws of each.
use Rattle.fix_interval.specs.Interval.{IsInterval}
use Rattle.fix_interval.specs.Lg.{lg_of}
use Rattle.fix_interval.specs.Ten.{ten_of}
use Rattle.fix_interval.specs.ExpNeg.{exp_neg_of}
use Rattle.fix_interval.specs.Values.{less_of}
use Rattle.fix_interval.specs.Tree.{Tree, Known, Const, Add, Neg, Mul, Div, Max, Min, Root, Lg, Ten, ExpNeg, Pick, enc, IsSound}
use Rattle.fix_interval.specs.Encloses.{Encloses}
use Rattle.fix_interval.specs.Lawful.{IsLawful}
use Rattle.fix_interval.proofs.Intervals.{IsInterval-add_of, IsInterval-neg_of, IsInterval-max_of, IsInterval-min_of, IsInterval-pick_of}
use Rattle.fix_interval.proofs.Ratios.{IsInterval-Const}
use Rattle.fix_interval.proofs.Ends.{IsInterval-mul_of, IsInterval-div_of}
use Rattle.fix_interval.proofs.Rooting.{IsInterval-root_of}
use Rattle.fix_interval.proofs.Steps.{Encloses-Known, Encloses-Const, Encloses-Add, Encloses-Neg, Encloses-Mul, Encloses-Div, Encloses-Max, Encloses-Min, Encloses-Root, Encloses-Pick}

module _ (logarithm : IsLawful Lg lg_of) (ten_power : IsLawful Ten ten_of) (decay : IsLawful ExpNeg exp_neg_of) where
  pub IsInterval-enc : (t : Tree) → IsSound t → IsInterval (enc t)
  IsInterval-enc (Known i) s = s
  IsInterval-enc (Const p q) s = IsInterval-Const p q s
  IsInterval-enc (Add a b) s = IsInterval-add_of (enc a) (enc b) (IsInterval-enc a s.0) (IsInterval-enc b s.1)
  IsInterval-enc (Neg a) s = IsInterval-neg_of (enc a) (IsInterval-enc a s)
  IsInterval-enc (Mul a b) s = IsInterval-mul_of (enc a) (enc b) (IsInterval-enc a s.0) (IsInterval-enc b s.1)
  IsInterval-enc (Div a b) s = IsInterval-div_of (enc a) (enc b) (IsInterval-enc a s.0) (IsInterval-enc b s.1)
  IsInterval-enc (Max a b) s = IsInterval-max_of (enc a) (enc b) (IsInterval-enc a s.0) (IsInterval-enc b s.1)
  IsInterval-enc (Min a b) s = IsInterval-min_of (enc a) (enc b) (IsInterval-enc a s.0) (IsInterval-enc b s.1)
  IsInterval-enc (Root a) s = IsInterval-root_of (enc a) (IsInterval-enc a s)
  IsInterval-enc (Lg a) s = logarithm.interval (enc a) (IsInterval-enc a s)
  IsInterval-enc (Ten a) s = ten_power.interval (enc a) (IsInterval-enc a s)
  IsInterval-enc (ExpNeg a) s = decay.interval (enc a) (IsInterval-enc a s)
  IsInterval-enc (Pick x y a b) s =
      IsInterval-pick_of (less_of (enc y) (enc x)) (enc a) (enc b) (IsInterval-enc a s.2) (IsInterval-enc b s.3)

  pub Encloses-enc : (t : Tree) → IsSound t → Encloses t (enc t)
  Encloses-enc (Known i) s = Encloses-Known i
  Encloses-enc (Const p q) s = Encloses-Const p q s
  Encloses-enc (Add a b) s = Encloses-Add a b (enc a) (enc b) (Encloses-enc a s.0) (Encloses-enc b s.1)
  Encloses-enc (Neg a) s = Encloses-Neg a (enc a) (Encloses-enc a s)
  Encloses-enc (Mul a b) s = Encloses-Mul a b (enc a) (enc b) (Encloses-enc a s.0) (Encloses-enc b s.1)
  Encloses-enc (Div a b) s =
      Encloses-Div a b (enc a) (enc b) (IsInterval-enc b s.1) (Encloses-enc a s.0) (Encloses-enc b s.1)
  Encloses-enc (Max a b) s = Encloses-Max a b (enc a) (enc b) (Encloses-enc a s.0) (Encloses-enc b s.1)
  Encloses-enc (Min a b) s = Encloses-Min a b (enc a) (enc b) (Encloses-enc a s.0) (Encloses-enc b s.1)
  Encloses-enc (Root a) s = Encloses-Root a (enc a) (Encloses-enc a s)
  Encloses-enc (Lg a) s = logarithm.encloses a (enc a) (IsInterval-enc a s) (Encloses-enc a s)
  Encloses-enc (Ten a) s = ten_power.encloses a (enc a) (IsInterval-enc a s) (Encloses-enc a s)
  Encloses-enc (ExpNeg a) s = decay.encloses a (enc a) (IsInterval-enc a s) (Encloses-enc a s)
  Encloses-enc (Pick x y a b) s =
      Encloses-Pick x y a b (enc x) (enc y) (enc a) (enc b) (Encloses-enc x s.0) (Encloses-enc y s.1) (Encloses-enc a s.2) (Encloses-enc b s.3)
