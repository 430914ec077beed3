-- What it means that an interval encloses a formula: the least relation with one rule a node.
use Rattle.std.specs.Prelude.{ℕ, ℤ, ◌≡◌}
use Rattle.fix_interval.specs.Interval.{Interval, All}
use Rattle.fix_interval.specs.Values.{less_of}
use Rattle.fix_interval.specs.Tree.{Tree, Known, Const, Add, Neg, Mul, Div, Max, Min, Root, Lg, Ten, ExpNeg, Pick}
use Rattle.fix_interval.specs.Rules.{Holds, HoldsRatio, HoldsSum, HoldsNegation, HoldsGreater, HoldsLesser, HoldsProduct, HoldsQuotient, HoldsRoot, HoldsLogarithm, HoldsTenPower, HoldsDecay}
use Rattle.fix_interval.specs.declared.truth.Truth.TheVariants.{Sure, Never, Unsure}

pub data Encloses : Tree → Interval → Type 0 where
  -- the interval of all numbers encloses every formula
  everything : {t : Tree} → Encloses t All
  known : {i k : Interval} → Holds i k → Encloses (Known i) k
  constant : {p : ℤ} {q : ℕ} {k : Interval} → HoldsRatio p q k → Encloses (Const p q) k
  sum : {a b : Tree} {i j k : Interval} → Encloses a i → Encloses b j → HoldsSum i j k → Encloses (Add a b) k
  negation : {a : Tree} {i k : Interval} → Encloses a i → HoldsNegation i k → Encloses (Neg a) k
  product : {a b : Tree} {i j k : Interval} → Encloses a i → Encloses b j → HoldsProduct i j k → Encloses (Mul a b) k
  quotient : {a b : Tree} {i j k : Interval} → Encloses a i → Encloses b j → HoldsQuotient i j k → Encloses (Div a b) k
  greater : {a b : Tree} {i j k : Interval} → Encloses a i → Encloses b j → HoldsGreater i j k → Encloses (Max a b) k
  lesser : {a b : Tree} {i j k : Interval} → Encloses a i → Encloses b j → HoldsLesser i j k → Encloses (Min a b) k
  square_root : {a : Tree} {i k : Interval} → Encloses a i → HoldsRoot i k → Encloses (Root a) k
  logarithm : {a : Tree} {i k : Interval} → Encloses a i → HoldsLogarithm i k → Encloses (Lg a) k
  ten_power : {a : Tree} {i k : Interval} → Encloses a i → HoldsTenPower i k → Encloses (Ten a) k
  decay : {a : Tree} {i k : Interval} → Encloses a i → HoldsDecay i k → Encloses (ExpNeg a) k
  -- a choice by x > y takes a where y is surely less than x, b where it never is, and else k encloses both
  pick_first : {x y a b : Tree} {i j k : Interval} → Encloses x i → Encloses y j → less_of j i ≡ Sure
      → Encloses a k → Encloses (Pick x y a b) k
  pick_second : {x y a b : Tree} {i j k : Interval} → Encloses x i → Encloses y j → less_of j i ≡ Never
      → Encloses b k → Encloses (Pick x y a b) k
  pick_both : {x y a b : Tree} {i j k : Interval} → Encloses x i → Encloses y j → less_of j i ≡ Unsure
      → Encloses a k → Encloses b k → Encloses (Pick x y a b) k
