-- Each operation keeps to its range.
use Rattle.std.proofs.Common.{◌≡◌, ℕ, ◌<◌, ◌^◌, ℤ, pos, negsuc, neg_ℤ, ◌+ℤ◌, ◌*ℤ◌, ◌≤ℤ◌, unsigned_abs, Option, refl, arith, inl, inr}
use Rattle.std.specs.Prelude.{Bool, true, false, ◌⊎◌, Some, None, nat_lt, if◌then◌else◌}
use Rattle.std.specs.Option.{option_map}
use Rattle.std.proofs.lemmas.Int.{ints, clamps}
use Rattle.fix_interval.specs.Units.{unit}
use Rattle.fix_interval.specs.Interval.{Interval, All}
use Rattle.fix_interval.specs.Bounds.{IsBetween, AreBetween}
use Rattle.fix_interval.specs.Round.{floor_of, ceil_of}
use Rattle.fix_interval.specs.Values.{ratio_of, end_of, add_of, neg_of, on_ends, max_of, min_of, greater_low, greater_high, lesser_low, lesser_high}
use Rattle.fix_interval.specs.Ranges.{IsFrom, IsUpTo, LiesIn, from_to, both_or_all, sum_range}
use Rattle.fix_interval.proofs.Rounding.{floor_of-le-ceil_of}
use Rattle.fix_interval.proofs.Multiplying.{end_of-small}

-- ---- bounded ends

-- between two numbers
abbrev pub Lies : ℤ → ℤ → ℤ → Type 0
Lies low high z = (low ≤ℤ z) × (z ≤ℤ high)

-- the ends of an interval that lies between two numbers
pub record Ends (low high : ℤ) (i : Interval) : Type 0 where
  pub lo : ℤ
  pub hi : ℤ
  pub lo_is : i.lo ≡ Some lo
  pub hi_is : i.hi ≡ Some hi
  pub lo_lies : Lies low high lo
  pub hi_lies : Lies low high hi

pub ends-of : (low high : ℤ) (lo hi : Option ℤ) → LiesIn (from_to low high) (record { lo = lo; hi = hi }) → Ends low high (record { lo = lo; hi = hi })
ends-of low high None hi h = absurd h.low.0
ends-of low high (Some x) None h = absurd h.high.1
ends-of low high (Some x) (Some y) h = record { lo = x; hi = y; lo_is = refl; hi_is = refl; lo_lies = (h.low.0, h.high.0); hi_lies = (h.low.1, h.high.1) }

pub lies-by : (low high : ℤ) (i : Interval) → Ends low high i → LiesIn (from_to low high) i
lies-by low high i e = record {
  low = rw (e.lo_is, e.hi_is) (e.lo_lies.0, e.hi_lies.0);
  high = rw (e.lo_is, e.hi_is) (e.lo_lies.1, e.hi_lies.1);
}

-- in the words of bounds
pub are_between : (low high : ℤ) (i : Interval) → LiesIn (from_to low high) i → AreBetween low high i
are_between low high i h =
    let e = ends-of low high i.lo i.hi h in
    record { lo = rw e.lo_is e.lo_lies; hi = rw e.hi_is e.hi_lies }

end-between : (low high : ℤ) (end : Option ℤ) → IsBetween low high end → (z : ℤ) × (end ≡ Some z) × Lies low high z
end-between low high None h = absurd h
end-between low high (Some z) h = (z, refl, h)

pub lies_in : (low high : ℤ) (i : Interval) → AreBetween low high i → LiesIn (from_to low high) i
lies_in low high i h =
    let l = end-between low high i.lo h.lo in
    let g = end-between low high i.hi h.hi in
    lies-by low high i (record { lo = l.0; hi = g.0; lo_is = l.1; hi_is = g.1; lo_lies = l.2; hi_lies = g.2 })

pub LiesIn-All : (i : Interval) → LiesIn All i
LiesIn-All i = record { low = tt; high = tt }

-- ---- constants

pub ratio-lies : (p : ℤ) (q : ℕ) → 0 < q → LiesIn (ratio_of p q) (ratio_of p q)
unfolding ratio_of
ratio-lies p q positive = by_size (nat_lt (unsigned_abs p) (2 ^ 94)) where
  by_size : (small : Bool) → LiesIn (if small then from_to (floor_of (p *ℤ pos unit) q) (ceil_of (p *ℤ pos unit) q) else All) (if small then from_to (floor_of (p *ℤ pos unit) q) (ceil_of (p *ℤ pos unit) q) else All)
  by_size true =
      let ordered = floor_of-le-ceil_of (p *ℤ pos unit) q positive in
      record { low = (omega (arith, ints), ordered); high = (ordered, omega (arith, ints)) }
  by_size false = LiesIn-All All

-- ---- sums

pub abs-between : (low high z : ℤ) → unsigned_abs low < 2 ^ 126 → unsigned_abs high < 2 ^ 126 → Lies low high z → unsigned_abs z < 2 ^ 126
abs-between low high (pos n) small great h = omega (arith, ints, h.1, great)
abs-between low high (negsuc n) small great h = omega (arith, ints, h.0, small)

sum-of-ends : (low high : ℤ) (a b c d : ℤ) (i j : Interval) → unsigned_abs (a +ℤ c) < 2 ^ 126 → unsigned_abs (b +ℤ d) < 2 ^ 126 → Ends a b i → Ends c d j
    → LiesIn (from_to (a +ℤ c) (b +ℤ d)) (add_of i j)
unfolding add_of
sum-of-ends low high a b c d i j small great x y =
    let l : Lies (a +ℤ c) (b +ℤ d) (x.lo +ℤ y.lo) = (omega (arith, ints, x.lo_lies.0, y.lo_lies.0), omega (arith, ints, x.lo_lies.1, y.lo_lies.1)) in
    let g : Lies (a +ℤ c) (b +ℤ d) (x.hi +ℤ y.hi) = (omega (arith, ints, x.hi_lies.0, y.hi_lies.0), omega (arith, ints, x.hi_lies.1, y.hi_lies.1)) in
    let l_small = abs-between (a +ℤ c) (b +ℤ d) (x.lo +ℤ y.lo) small great l in
    let g_small = abs-between (a +ℤ c) (b +ℤ d) (x.hi +ℤ y.hi) small great g in
    rw (x.lo_is, x.hi_is, y.lo_is, y.hi_is, end_of-small (x.lo +ℤ y.lo) l_small, end_of-small (x.hi +ℤ y.hi) g_small)
    (record { low = (l.0, g.0); high = (l.1, g.1) })

-- an end in bounds is below 2^126
pub end-size : (z : ℤ) → (unsigned_abs z < 2 ^ 126) ⊎ (end_of z ≡ None)
end-size z = by_size (nat_lt (unsigned_abs z) (2 ^ 126)) refl where
  by_size : (small : Bool) → nat_lt (unsigned_abs z) (2 ^ 126) ≡ small → (unsigned_abs z < 2 ^ 126) ⊎ (end_of z ≡ None)
  by_size true e = inl (grind arith)
  by_size false e = inr (rw e refl)

sum-bounded : (a b c d : ℤ) (i j : Interval) → Ends a b i → Ends c d j → LiesIn (both_or_all (end_of (a +ℤ c)) (end_of (b +ℤ d))) (add_of i j)
sum-bounded a b c d i j x y = by_sizes (end-size (a +ℤ c)) (end-size (b +ℤ d)) where
  by_sizes : (unsigned_abs (a +ℤ c) < 2 ^ 126) ⊎ (end_of (a +ℤ c) ≡ None) → (unsigned_abs (b +ℤ d) < 2 ^ 126) ⊎ (end_of (b +ℤ d) ≡ None)
      → LiesIn (both_or_all (end_of (a +ℤ c)) (end_of (b +ℤ d))) (add_of i j)
  by_sizes (inl small) (inl great) = rw (end_of-small (a +ℤ c) small, end_of-small (b +ℤ d) great) (sum-of-ends a b a b c d i j small great x y)
  by_sizes (inl small) (inr none) = rw (end_of-small (a +ℤ c) small, none) (LiesIn-All _)
  by_sizes (inr none) great = rw none (LiesIn-All _)

-- an operation of four bounded ends on ranges, where it is proved for bounded ranges
pub on_ranges : (f : ℤ → ℤ → ℤ → ℤ → Interval) (value : Interval) (al ah bl bh : Option ℤ) (i j : Interval)
    → ((a b c d : ℤ) → Ends a b i → Ends c d j → LiesIn (f a b c d) value)
    → LiesIn (record { lo = al; hi = ah }) i → LiesIn (record { lo = bl; hi = bh }) j → LiesIn (on_ends f al ah bl bh) value
on_ranges f value None ah bl bh i j known h k = LiesIn-All value
on_ranges f value (Some a) None bl bh i j known h k = LiesIn-All value
on_ranges f value (Some a) (Some b) None bh i j known h k = LiesIn-All value
on_ranges f value (Some a) (Some b) (Some c) None i j known h k = LiesIn-All value
on_ranges f value (Some a) (Some b) (Some c) (Some d) i j known h k = known a b c d (ends-of a b i.lo i.hi h) (ends-of c d j.lo j.hi k)

pub sum-lies : (a b i j : Interval) → LiesIn a i → LiesIn b j → LiesIn (sum_range a b) (add_of i j)
unfolding sum_range
sum-lies a b i j h k =
    on_ranges (λ al ah bl bh. both_or_all (end_of (al +ℤ bl)) (end_of (ah +ℤ bh))) (add_of i j) a.lo a.hi b.lo b.hi i j
    (λ p q r s x y. sum-bounded p q r s i j x y) h k

-- ---- negation

neg-from : (high : Option ℤ) (lo hi : Option ℤ) → IsUpTo high (record { lo = lo; hi = hi }) → IsFrom (option_map neg_ℤ high) (record { lo = option_map neg_ℤ hi; hi = option_map neg_ℤ lo })
neg-from None lo hi h = tt
neg-from (Some z) lo None h = absurd h.1
neg-from (Some z) None (Some y) h = (omega (arith, ints, h.1), tt)
neg-from (Some z) (Some x) (Some y) h = (omega (arith, ints, h.1), omega (arith, ints, h.0))

neg-up_to : (low : Option ℤ) (lo hi : Option ℤ) → IsFrom low (record { lo = lo; hi = hi }) → IsUpTo (option_map neg_ℤ low) (record { lo = option_map neg_ℤ hi; hi = option_map neg_ℤ lo })
neg-up_to None lo hi h = tt
neg-up_to (Some z) None hi h = absurd h.0
neg-up_to (Some z) (Some x) None h = (tt, omega (arith, ints, h.0))
neg-up_to (Some z) (Some x) (Some y) h = (omega (arith, ints, h.1), omega (arith, ints, h.0))

pub negation-lies : (a i : Interval) → LiesIn a i → LiesIn (neg_of a) (neg_of i)
unfolding neg_of
negation-lies a i h = record { low = neg-from a.hi i.lo i.hi h.high; high = neg-up_to a.lo i.lo i.hi h.low }

-- ---- the greater, the lesser and choices

greater-from : (a b : Option ℤ) (il ih jl jh : Option ℤ) → IsFrom a (record { lo = il; hi = ih }) → IsFrom b (record { lo = jl; hi = jh })
    → IsFrom (greater_low a b) (record { lo = greater_low il jl; hi = greater_high ih jh })
greater-from a b il ih jl jh h k = grind (arith, ints, clamps)

greater-up_to : (a b : Option ℤ) (il ih jl jh : Option ℤ) → IsUpTo a (record { lo = il; hi = ih }) → IsUpTo b (record { lo = jl; hi = jh })
    → IsUpTo (greater_high a b) (record { lo = greater_low il jl; hi = greater_high ih jh })
greater-up_to a b il ih jl jh h k = grind (arith, ints, clamps)

lesser-from : (a b : Option ℤ) (il ih jl jh : Option ℤ) → IsFrom a (record { lo = il; hi = ih }) → IsFrom b (record { lo = jl; hi = jh })
    → IsFrom (lesser_low a b) (record { lo = lesser_low il jl; hi = lesser_high ih jh })
lesser-from a b il ih jl jh h k = grind (arith, ints, clamps)

lesser-up_to : (a b : Option ℤ) (il ih jl jh : Option ℤ) → IsUpTo a (record { lo = il; hi = ih }) → IsUpTo b (record { lo = jl; hi = jh })
    → IsUpTo (lesser_high a b) (record { lo = lesser_low il jl; hi = lesser_high ih jh })
lesser-up_to a b il ih jl jh h k = grind (arith, ints, clamps)

pub greater-lies : (a b i j : Interval) → LiesIn a i → LiesIn b j → LiesIn (max_of a b) (max_of i j)
unfolding max_of
greater-lies a b i j h k = record { low = greater-from a.lo b.lo i.lo i.hi j.lo j.hi h.low k.low; high = greater-up_to a.hi b.hi i.lo i.hi j.lo j.hi h.high k.high }

pub lesser-lies : (a b i j : Interval) → LiesIn a i → LiesIn b j → LiesIn (min_of a b) (min_of i j)
unfolding min_of
lesser-lies a b i j h k = record { low = lesser-from a.lo b.lo i.lo i.hi j.lo j.hi h.low k.low; high = lesser-up_to a.hi b.hi i.lo i.hi j.lo j.hi h.high k.high }
