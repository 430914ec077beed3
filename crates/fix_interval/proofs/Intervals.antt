-- Each value of the table is an interval where its parts are.
use Rattle.std.specs.Prelude.{◌<◌, ◌^◌, ℤ, ◌+ℤ◌, neg_ℤ, ◌≤ℤ◌, unsigned_abs, Option, Some, None}
use Rattle.std.specs.Option.{option_map}
use Rattle.std.proofs.Common.{arith}
use Rattle.std.proofs.lemmas.Int.{ints, clamps}
use Rattle.fix_interval.specs.declared.truth.Truth.{Truth}
use Rattle.fix_interval.specs.declared.truth.Truth.TheVariants.{Sure, Never, Unsure}
use Rattle.fix_interval.proofs.Order.{int_max-keeps, int_min-keeps, int_max-mono, int_min-mono, neg_ℤ-mono, unsigned_abs-neg_ℤ}
use Rattle.fix_interval.specs.Interval.{Interval, All, IsEnd, IsOrdered, IsInterval}
use Rattle.fix_interval.specs.Values.{end_of, sum_of_ends, add_of, neg_of, greater_low, lesser_low, greater_high, lesser_high, max_of, min_of, hull_of, pick_of}

pub IsInterval-All : IsInterval All
IsInterval-All = record { low_end = tt; high_end = tt; ordered = tt }

IsOrdered-None : (x : Option ℤ) → IsOrdered x None
IsOrdered-None None = tt
IsOrdered-None (Some x) = tt

-- ---- sums

IsEnd-end_of : (z : ℤ) → IsEnd (end_of z)
IsEnd-end_of z = grind arith

IsEnd-sum : (x y : Option ℤ) → IsEnd (sum_of_ends x y)
IsEnd-sum (Some x) (Some y) = IsEnd-end_of (x +ℤ y)
IsEnd-sum (Some x) None = tt
IsEnd-sum None y = tt

IsOrdered-end_of : (x y : ℤ) → x ≤ℤ y → IsOrdered (end_of x) (end_of y)
IsOrdered-end_of x y h = grind (arith, ints)

IsOrdered-sum : (al ah bl bh : Option ℤ) → IsOrdered al ah → IsOrdered bl bh → IsOrdered (sum_of_ends al bl) (sum_of_ends ah bh)
IsOrdered-sum (Some al) (Some ah) (Some bl) (Some bh) h k = IsOrdered-end_of (al +ℤ bl) (ah +ℤ bh) (omega (arith, ints))
IsOrdered-sum (Some al) (Some ah) (Some bl) None h k = IsOrdered-None _
IsOrdered-sum (Some al) None (Some bl) bh h k = IsOrdered-None _
IsOrdered-sum (Some al) ah None bh h k = tt
IsOrdered-sum None ah bl bh h k = tt

pub IsInterval-add_of : (a b : Interval) → IsInterval a → IsInterval b → IsInterval (add_of a b)
unfolding add_of
IsInterval-add_of a b h k = record {
  low_end = IsEnd-sum a.lo b.lo;
  high_end = IsEnd-sum a.hi b.hi;
  ordered = IsOrdered-sum a.lo a.hi b.lo b.hi h.ordered k.ordered;
}

-- ---- negation

IsEnd-neg_ℤ : (x : Option ℤ) → IsEnd x → IsEnd (option_map neg_ℤ x)
IsEnd-neg_ℤ None h = tt
IsEnd-neg_ℤ (Some x) h = rw (unsigned_abs-neg_ℤ x) h

IsOrdered-neg_ℤ : (x y : Option ℤ) → IsOrdered x y → IsOrdered (option_map neg_ℤ y) (option_map neg_ℤ x)
IsOrdered-neg_ℤ None y h = IsOrdered-None _
IsOrdered-neg_ℤ (Some x) None h = tt
IsOrdered-neg_ℤ (Some x) (Some y) h = neg_ℤ-mono x y h

pub IsInterval-neg_of : (a : Interval) → IsInterval a → IsInterval (neg_of a)
unfolding neg_of
IsInterval-neg_of a h = record {
  low_end = IsEnd-neg_ℤ a.hi h.high_end;
  high_end = IsEnd-neg_ℤ a.lo h.low_end;
  ordered = IsOrdered-neg_ℤ a.lo a.hi h.ordered;
}

-- ---- the greater, the lesser and the hull

IsEnd-greater_low : (x y : Option ℤ) → IsEnd x → IsEnd y → IsEnd (greater_low x y)
IsEnd-greater_low None y h k = k
IsEnd-greater_low (Some x) None h k = h
IsEnd-greater_low (Some x) (Some y) h k = int_max-keeps (λ z. unsigned_abs z < 2 ^ 126) x y h k

IsEnd-lesser_low : (x y : Option ℤ) → IsEnd x → IsEnd y → IsEnd (lesser_low x y)
IsEnd-lesser_low None y h k = tt
IsEnd-lesser_low (Some x) None h k = tt
IsEnd-lesser_low (Some x) (Some y) h k = int_min-keeps (λ z. unsigned_abs z < 2 ^ 126) x y h k

IsEnd-greater_high : (x y : Option ℤ) → IsEnd x → IsEnd y → IsEnd (greater_high x y)
IsEnd-greater_high None y h k = tt
IsEnd-greater_high (Some x) None h k = tt
IsEnd-greater_high (Some x) (Some y) h k = int_max-keeps (λ z. unsigned_abs z < 2 ^ 126) x y h k

IsEnd-lesser_high : (x y : Option ℤ) → IsEnd x → IsEnd y → IsEnd (lesser_high x y)
IsEnd-lesser_high None y h k = k
IsEnd-lesser_high (Some x) None h k = h
IsEnd-lesser_high (Some x) (Some y) h k = int_min-keeps (λ z. unsigned_abs z < 2 ^ 126) x y h k

IsOrdered-greater : (al ah bl bh : Option ℤ) → IsOrdered al ah → IsOrdered bl bh → IsOrdered (greater_low al bl) (greater_high ah bh)
IsOrdered-greater al None bl bh h k = IsOrdered-None _
IsOrdered-greater al (Some ah) bl None h k = IsOrdered-None _
IsOrdered-greater None (Some ah) None (Some bh) h k = tt
IsOrdered-greater None (Some ah) (Some bl) (Some bh) h k = omega (arith, ints, clamps)
IsOrdered-greater (Some al) (Some ah) None (Some bh) h k = omega (arith, ints, clamps)
IsOrdered-greater (Some al) (Some ah) (Some bl) (Some bh) h k = int_max-mono al bl ah bh h k

IsOrdered-lesser : (al ah bl bh : Option ℤ) → IsOrdered al ah → IsOrdered bl bh → IsOrdered (lesser_low al bl) (lesser_high ah bh)
IsOrdered-lesser None ah bl bh h k = tt
IsOrdered-lesser (Some al) ah None bh h k = tt
IsOrdered-lesser (Some al) None (Some bl) None h k = tt
IsOrdered-lesser (Some al) None (Some bl) (Some bh) h k = omega (arith, ints, clamps)
IsOrdered-lesser (Some al) (Some ah) (Some bl) None h k = omega (arith, ints, clamps)
IsOrdered-lesser (Some al) (Some ah) (Some bl) (Some bh) h k = int_min-mono al bl ah bh h k

IsOrdered-hull : (al ah bl bh : Option ℤ) → IsOrdered al ah → IsOrdered (lesser_low al bl) (greater_high ah bh)
IsOrdered-hull None ah bl bh h = tt
IsOrdered-hull (Some al) ah None bh h = tt
IsOrdered-hull (Some al) None (Some bl) bh h = tt
IsOrdered-hull (Some al) (Some ah) (Some bl) None h = tt
IsOrdered-hull (Some al) (Some ah) (Some bl) (Some bh) h = omega (arith, ints, clamps)

pub IsInterval-max_of : (a b : Interval) → IsInterval a → IsInterval b → IsInterval (max_of a b)
unfolding max_of
IsInterval-max_of a b h k = record {
  low_end = IsEnd-greater_low a.lo b.lo h.low_end k.low_end;
  high_end = IsEnd-greater_high a.hi b.hi h.high_end k.high_end;
  ordered = IsOrdered-greater a.lo a.hi b.lo b.hi h.ordered k.ordered;
}

pub IsInterval-min_of : (a b : Interval) → IsInterval a → IsInterval b → IsInterval (min_of a b)
unfolding min_of
IsInterval-min_of a b h k = record {
  low_end = IsEnd-lesser_low a.lo b.lo h.low_end k.low_end;
  high_end = IsEnd-lesser_high a.hi b.hi h.high_end k.high_end;
  ordered = IsOrdered-lesser a.lo a.hi b.lo b.hi h.ordered k.ordered;
}

pub IsInterval-hull_of : (a b : Interval) → IsInterval a → IsInterval b → IsInterval (hull_of a b)
unfolding hull_of
IsInterval-hull_of a b h k = record {
  low_end = IsEnd-lesser_low a.lo b.lo h.low_end k.low_end;
  high_end = IsEnd-greater_high a.hi b.hi h.high_end k.high_end;
  ordered = IsOrdered-hull a.lo a.hi b.lo b.hi h.ordered;
}

pub IsInterval-pick_of : (t : Truth) (a b : Interval) → IsInterval a → IsInterval b → IsInterval (pick_of t a b)
unfolding pick_of
IsInterval-pick_of Sure a b h k = h
IsInterval-pick_of Never a b h k = k
IsInterval-pick_of Unsure a b h k = IsInterval-hull_of a b h k
