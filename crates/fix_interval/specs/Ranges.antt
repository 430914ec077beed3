-- Between which bounds a formula lies, from those between which its parts lie: an algebra of ranges. A range is written
-- as an interval; an end of `None` bounds nothing on its side. What a range says is far coarser than an enclosure, so
-- that it can be calculated of closed numbers where the ends of an enclosure aren't known.
use Rattle.std.specs.Prelude.{◌<◌, ◌≤ℤ◌, ℕ, zero, suc, ◌*◌, ◌/◌, ◌^◌, nat_le, Bool, false, ◌&&◌, if◌then◌else◌, ℤ, pos, neg_ℤ, ◌+ℤ◌, int_le, int_lt, unsigned_abs, Option, Some, None, IsSomeAnd, IfSome}
use Rattle.std.specs.Int.{div_ceil}
use Rattle.std.specs.Option.{option_map, option_and_then}
use Rattle.fix_interval.specs.Units.{unit}
use Rattle.fix_interval.specs.Interval.{Interval, All}
use Rattle.fix_interval.specs.Values.{ratio_of, is_small, end_of, neg_of, on_ends, mul_of, div_of, max_of, min_of, hull_of}
use Rattle.fix_interval.specs.Lg.{lg_of, decade_of, decade_and_digits, is_at_least}
use Rattle.fix_interval.specs.Ten.{ten_of}
use Rattle.fix_interval.specs.ExpNeg.{exp_neg_of}
use Rattle.fix_interval.specs.Tree.{Tree, Known, Const, Add, Neg, Mul, Div, Max, Min, Root, Lg, Ten, ExpNeg, Pick, enc}

-- ---- what a range says

-- neither end is below a bound, and the low one is bounded
abbrev pub IsFrom : Option ℤ → Interval → Type 0
IsFrom None i = Unit {0}
IsFrom (Some low) i = IsSomeAnd i.lo (λ z. low ≤ℤ z) × IfSome i.hi (λ z. low ≤ℤ z)

-- neither end is above a bound, and the high one is bounded
abbrev pub IsUpTo : Option ℤ → Interval → Type 0
IsUpTo None i = Unit {0}
IsUpTo (Some high) i = IfSome i.lo (λ z. z ≤ℤ high) × IsSomeAnd i.hi (λ z. z ≤ℤ high)

-- an interval lies in a range
pub record LiesIn (range i : Interval) : Type 0 where
  pub low : IsFrom range.lo i
  pub high : IsUpTo range.hi i

-- from a number to another
abbrev pub from_to : ℤ → ℤ → Interval
from_to low high = record { lo = Some low; hi = Some high }

-- ---- ranges of operations

-- both ends where both are bounded; a sum whose one end is beyond all bounds bounds nothing
abbrev pub both_or_all : Option ℤ → Option ℤ → Interval
both_or_all (Some low) (Some high) = from_to low high
both_or_all (Some low) None = All
both_or_all None high = All

unfoldable pub sum_range : Interval → Interval → Interval
sum_range a b = on_ends (λ al ah bl bh. both_or_all (end_of (al +ℤ bl)) (end_of (ah +ℤ bh))) a.lo a.hi b.lo b.hi

-- a quotient by what is above 0
unfoldable pub quotient_range : Interval → Interval → Interval
quotient_range a b = if is_at_least (pos 1) b.lo then div_of a b else All

-- the first of 1, 2, 4 and so on whose square isn't below n, among so many
unfoldable pub root_limit : ℕ → ℕ → ℕ
root_limit n zero = 1
root_limit n (suc count) = let root = root_limit n count in if nat_le n (root * root) then root else 2 * root

abbrev pub root_limit_of : ℤ → Option ℤ
root_limit_of z =
    if int_lt z (pos (2 ^ 95)) then Some (pos (root_limit (unsigned_abs z * unit) 64)) else None

-- a root of what isn't below 0
unfoldable pub root_range : Interval → Interval
root_range a =
    if is_at_least (pos 0) a.lo
    then record { lo = Some (pos 0); hi = option_and_then root_limit_of a.hi }
    else All

-- a logarithm lies within its decade
abbrev pub logarithm_limit : ℤ → Option ℤ
logarithm_limit z = if is_small z then Some (decade_and_digits (suc (decade_of (unsigned_abs z))) 0) else None

unfoldable pub logarithm_range : Interval → Interval
logarithm_range a =
    if is_at_least (pos 1) a.lo
    then record {
      lo = option_map (λ z. decade_and_digits (decade_of (unsigned_abs z)) 0) a.lo;
      hi = option_and_then logarithm_limit a.hi;
    }
    else All

-- ten to a power of k and a fraction is at most 16 times 10^k
unfoldable pub power_limit : ℤ → Option ℤ
power_limit z =
    if int_le (pos (20 * unit)) z then None
    else (if int_lt z (neg_ℤ (pos (19 * unit))) then Some (pos 1)
    else Some (pos (div_ceil (2 ^ 64 * 10 ^ (unsigned_abs (z +ℤ pos (20 * unit)) / unit)) (10 ^ 20 * 2 ^ 28))))

unfoldable pub power_range : Interval → Interval
power_range a = record { lo = Some (pos 0); hi = option_and_then power_limit a.hi }

-- a decay of what isn't below 0 is at most 1
unfoldable pub decay_range : Interval → Interval
decay_range a = if is_at_least (pos 0) a.lo then from_to (pos 0) (pos unit) else All

-- ---- ranges of formulas

-- the range of a formula whose known parts are ranges; a choice lies where both of its cases lie
abbrev pub range_of : Tree → Interval
range_of (Known range) = range
range_of (Const p q) = ratio_of p q
range_of (Add a b) = sum_range (range_of a) (range_of b)
range_of (Neg a) = neg_of (range_of a)
range_of (Mul a b) = mul_of (range_of a) (range_of b)
range_of (Div a b) = quotient_range (range_of a) (range_of b)
range_of (Max a b) = max_of (range_of a) (range_of b)
range_of (Min a b) = min_of (range_of a) (range_of b)
range_of (Root a) = root_range (range_of a)
range_of (Lg a) = logarithm_range (range_of a)
range_of (Ten a) = power_range (range_of a)
range_of (ExpNeg a) = decay_range (range_of a)
range_of (Pick x y a b) = hull_of (range_of a) (range_of b)

-- an operation whose value another crate calculates keeps to its range
abbrev pub IsRanged : (Interval → Interval) → (Interval → Interval) → Type 0
IsRanged value range = (i k : Interval) → LiesIn k i → LiesIn (range k) (value i)

-- The first formula is the second with parts in place of ranges in which they lie. Of a choice only the two cases count
pub data HasRanges : Tree → Tree → Type 0 where
  part : {t : Tree} {range : Interval} → LiesIn range (enc t) → HasRanges t (Known range)
  constant : {p : ℤ} {q : ℕ} → 0 < q → HasRanges (Const p q) (Const p q)
  sum : {a b c d : Tree} → HasRanges a c → HasRanges b d → HasRanges (Add a b) (Add c d)
  negation : {a c : Tree} → HasRanges a c → HasRanges (Neg a) (Neg c)
  product : {a b c d : Tree} → HasRanges a c → HasRanges b d → HasRanges (Mul a b) (Mul c d)
  quotient : {a b c d : Tree} → HasRanges a c → HasRanges b d → HasRanges (Div a b) (Div c d)
  greater : {a b c d : Tree} → HasRanges a c → HasRanges b d → HasRanges (Max a b) (Max c d)
  lesser : {a b c d : Tree} → HasRanges a c → HasRanges b d → HasRanges (Min a b) (Min c d)
  square_root : {a c : Tree} → HasRanges a c → HasRanges (Root a) (Root c)
  logarithm : {a c : Tree} → IsRanged lg_of logarithm_range → HasRanges a c → HasRanges (Lg a) (Lg c)
  ten_power : {a c : Tree} → IsRanged ten_of power_range → HasRanges a c → HasRanges (Ten a) (Ten c)
  decay : {a c : Tree} → IsRanged exp_neg_of decay_range → HasRanges a c → HasRanges (ExpNeg a) (ExpNeg c)
  choice : {x y a b z w c d : Tree} → HasRanges a c → HasRanges b d → HasRanges (Pick x y a b) (Pick z w c d)

-- a range lies between two numbers, tested by comparisons
abbrev pub is_inside : ℤ → ℤ → Option ℤ → Option ℤ → Bool
is_inside low high (Some l) (Some h) = int_le low l && int_le h high
is_inside low high (Some l) None = false
is_inside low high None h = false
