-- Formulas, and the interval that the program gives for each.
use Rattle.std.specs.Prelude.{ℕ, ◌<◌, ℤ}
use Rattle.fix_interval.specs.Interval.{Interval, IsInterval}
use Rattle.fix_interval.specs.Values.{ratio_of, add_of, neg_of, mul_of, div_of, max_of, min_of, root_of, less_of, pick_of}
use Rattle.fix_interval.specs.Lg.{lg_of}
use Rattle.fix_interval.specs.Ten.{ten_of}
use Rattle.fix_interval.specs.ExpNeg.{exp_neg_of}

-- a formula: what ISO 9613-2 writes with these operations, or a quantity of which an interval is known
pub data Tree : Type 0 where
  -- a quantity that lies in this interval
  Known : Interval → Tree
  -- the fraction p / q
  Const : ℤ → ℕ → Tree
  Add : Tree → Tree → Tree
  Neg : Tree → Tree
  Mul : Tree → Tree → Tree
  Div : Tree → Tree → Tree
  Max : Tree → Tree → Tree
  Min : Tree → Tree → Tree
  -- the square root
  Root : Tree → Tree
  -- the decadic logarithm, 10 to a power, and e to the negated power
  Lg : Tree → Tree
  Ten : Tree → Tree
  ExpNeg : Tree → Tree
  -- `Pick x y a b` is a where x > y, and b where it isn't
  Pick : Tree → Tree → Tree → Tree → Tree

abbrev pub Sub : Tree → Tree → Tree
Sub a b = Add a (Neg b)

-- the interval of a formula, node by node
abbrev pub enc : Tree → Interval
enc (Known i) = i
enc (Const p q) = ratio_of p q
enc (Add a b) = add_of (enc a) (enc b)
enc (Neg a) = neg_of (enc a)
enc (Mul a b) = mul_of (enc a) (enc b)
enc (Div a b) = div_of (enc a) (enc b)
enc (Max a b) = max_of (enc a) (enc b)
enc (Min a b) = min_of (enc a) (enc b)
enc (Root a) = root_of (enc a)
enc (Lg a) = lg_of (enc a)
enc (Ten a) = ten_of (enc a)
enc (ExpNeg a) = exp_neg_of (enc a)
enc (Pick x y a b) = pick_of (less_of (enc y) (enc x)) (enc a) (enc b)

-- each known interval is one, and each divisor of a constant is above 0
abbrev pub IsSound : Tree → Type 0
IsSound (Known i) = IsInterval i
IsSound (Const p q) = 0 < q
IsSound (Add a b) = IsSound a × IsSound b
IsSound (Neg a) = IsSound a
IsSound (Mul a b) = IsSound a × IsSound b
IsSound (Div a b) = IsSound a × IsSound b
IsSound (Max a b) = IsSound a × IsSound b
IsSound (Min a b) = IsSound a × IsSound b
IsSound (Root a) = IsSound a
IsSound (Lg a) = IsSound a
IsSound (Ten a) = IsSound a
IsSound (ExpNeg a) = IsSound a
IsSound (Pick x y a b) = IsSound x × IsSound y × IsSound a × IsSound b
