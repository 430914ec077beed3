-- A choice keeps to the hull of the ranges of its cases.
use Rattle.std.proofs.Common.{ℤ, Option, arith}
use Rattle.std.proofs.lemmas.Int.{ints, clamps}
use Rattle.fix_interval.specs.Interval.{Interval}
use Rattle.fix_interval.specs.Values.{hull_of, pick_of, lesser_low, greater_high}
use Rattle.fix_interval.specs.declared.truth.Truth.{Truth}
use Rattle.fix_interval.specs.declared.truth.Truth.TheVariants.{Sure, Never, Unsure}
use Rattle.fix_interval.specs.Ranges.{IsFrom, IsUpTo, LiesIn}

-- a range that holds another
first-from : (a b il ih : Option ℤ) → IsFrom a (record { lo = il; hi = ih }) → IsFrom (lesser_low a b) (record { lo = il; hi = ih })
first-from a b il ih h = grind (arith, ints, clamps)

second-from : (a b il ih : Option ℤ) → IsFrom b (record { lo = il; hi = ih }) → IsFrom (lesser_low a b) (record { lo = il; hi = ih })
second-from a b il ih h = grind (arith, ints, clamps)

first-up_to : (a b il ih : Option ℤ) → IsUpTo a (record { lo = il; hi = ih }) → IsUpTo (greater_high a b) (record { lo = il; hi = ih })
first-up_to a b il ih h = grind (arith, ints, clamps)

second-up_to : (a b il ih : Option ℤ) → IsUpTo b (record { lo = il; hi = ih }) → IsUpTo (greater_high a b) (record { lo = il; hi = ih })
second-up_to a b il ih h = grind (arith, ints, clamps)

both-from : (a b il ih jl jh : Option ℤ) → IsFrom a (record { lo = il; hi = ih }) → IsFrom b (record { lo = jl; hi = jh })
    → IsFrom (lesser_low a b) (record { lo = lesser_low il jl; hi = greater_high ih jh })
both-from a b il ih jl jh h k = grind (arith, ints, clamps)

both-up_to : (a b il ih jl jh : Option ℤ) → IsUpTo a (record { lo = il; hi = ih }) → IsUpTo b (record { lo = jl; hi = jh })
    → IsUpTo (greater_high a b) (record { lo = lesser_low il jl; hi = greater_high ih jh })
both-up_to a b il ih jl jh h k = grind (arith, ints, clamps)

pub choice-lies : (t : Truth) (a b i j : Interval) → LiesIn a i → LiesIn b j → LiesIn (hull_of a b) (pick_of t i j)
unfolding hull_of pick_of
choice-lies Sure a b i j h k = record { low = first-from a.lo b.lo i.lo i.hi h.low; high = first-up_to a.hi b.hi i.lo i.hi h.high }
choice-lies Never a b i j h k = record { low = second-from a.lo b.lo j.lo j.hi k.low; high = second-up_to a.hi b.hi j.lo j.hi k.high }
choice-lies Unsure a b i j h k = record {
  low = both-from a.lo b.lo i.lo i.hi j.lo j.hi h.low k.low;
  high = both-up_to a.hi b.hi i.lo i.hi j.lo j.hi h.high k.high;
}
