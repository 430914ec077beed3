-- The logarithm of a whole interval, from those of its ends.
use Rattle.std.proofs.Common.{◌≡◌, ℕ, ◌*◌, ◌^◌, ◌<◌, ◌≤◌, true, refl, arith, ℤ, pos, negsuc, ◌≤ℤ◌, neg_ℤ, unsigned_abs, Option, Some, None, IsSomeAnd, IfSome}
use Rattle.std.proofs.lemmas.Int.{ints, to_z-of_z}
use mir.Syntax.{w128}
use mir.Val.{SFits, to_z, of_z}
use Rattle.std.specs.Option.{option_map}
use Rattle.std.specs.Prelude.{int_le}
use Rattle.fix_interval.specs.Interval.{Interval, IsInterval}
use Rattle.fix_interval.specs.Lg.{decade_of, mantissa_low, mantissa_high, digits_low, digits_high, rounded_up, decade_and_digits, lg_low, lg_high, lg_of}
use Rattle.fix_interval.specs.Rules.{HoldsLogarithm}
use Rattle.enclose_log.proofs.Value.{lg_low-at_most, lg_high-at_least, lg-ordered, lg_low-within, lg_high-within, lg_low-from_one}

-- an end that lies above 0
abbrev pub IsPositive : Option ℤ → Type 0
IsPositive end = IsSomeAnd end (λ x. pos 1 ≤ℤ x)

-- such a number as a natural one
positive-abs : (z : ℤ) → pos 1 ≤ℤ z → 0 < unsigned_abs z
positive-abs (pos n) h = omega (arith, ints, h)
positive-abs (negsuc n) h = omega arith

ordered-abs : (x y : ℤ) → pos 1 ≤ℤ x → x ≤ℤ y → unsigned_abs x ≤ unsigned_abs y
ordered-abs (pos m) (pos n) h le = omega (arith, ints, h, le)
ordered-abs (pos m) (negsuc n) h le = absurd (omega (arith, ints, h, le))
ordered-abs (negsuc m) y h le = absurd (omega (arith, ints, h, le))

from_one-abs : (z : ℤ) → pos (2 ^ 32) ≤ℤ z → 2 ^ 32 ≤ unsigned_abs z
from_one-abs (pos n) h = omega (arith, ints, h)
from_one-abs (negsuc n) h = absurd (omega (arith, ints, h))

-- the definition, above 0
abbrev pub ends : Option ℤ → Option ℤ → Interval
ends lo hi = record { lo = option_map (λ z. lg_low (unsigned_abs z)) lo; hi = option_map (λ z. lg_high (unsigned_abs z)) hi }

pub lg_of-ends : (lo hi : Option ℤ) → IsPositive lo → lg_of (record { lo = lo; hi = hi }) ≡ ends lo hi
unfolding lg_of
lg_of-ends None hi positive = absurd positive
lg_of-ends (Some z) hi positive = (let e : int_le (pos 1) z ≡ true = grind (arith, ints) in rw e refl)

-- an interval's logarithm is an interval
ends-interval : (lo hi : Option ℤ) → IsInterval (record { lo = lo; hi = hi }) → IsPositive lo → IsInterval (ends lo hi)
ends-interval None hi i positive = absurd positive
ends-interval (Some l) None i positive =
    let low = lg_low-within (unsigned_abs l) (positive-abs l positive) i.low_end in
    record { low_end = small (lg_low (unsigned_abs l)) low.0 low.1; high_end = tt; ordered = tt }
  where
    small : (z : ℤ) → neg_ℤ (pos (10 * 2 ^ 32)) ≤ℤ z → z ≤ℤ pos (29 * 2 ^ 32) → unsigned_abs z < 2 ^ 126
    small (pos n) h k = omega (arith, ints, k)
    small (negsuc n) h k = omega (arith, ints, h)
ends-interval (Some l) (Some h) i positive =
    let m = positive-abs l positive in
    let le = ordered-abs l h positive i.ordered in
    let low = lg_low-within (unsigned_abs l) m i.low_end in
    let high = lg_high-within (unsigned_abs h) (omega arith) i.high_end in
    record {
      low_end = small (lg_low (unsigned_abs l)) low.0 low.1;
      high_end = small (lg_high (unsigned_abs h)) high.0 high.1;
      ordered = lg-ordered (unsigned_abs l) (unsigned_abs h) m le i.high_end;
    }
  where
    small : (z : ℤ) → neg_ℤ (pos (10 * 2 ^ 32)) ≤ℤ z → z ≤ℤ pos (29 * 2 ^ 32) → unsigned_abs z < 2 ^ 126
    small (pos n) h k = omega (arith, ints, k)
    small (negsuc n) h k = omega (arith, ints, h)

pub lg_of-interval : (i : Interval) → IsInterval i → IsPositive i.lo → IsInterval (lg_of i)
lg_of-interval i whole positive = rw (lg_of-ends i.lo i.hi positive) (ends-interval i.lo i.hi whole positive)

-- and it encloses the logarithm
ends-hold : (lo hi : Option ℤ) → IsInterval (record { lo = lo; hi = hi }) → IsPositive lo → HoldsLogarithm (record { lo = lo; hi = hi }) (ends lo hi)
ends-hold None hi i positive = absurd positive
ends-hold (Some l) None i positive =
    record { positive = positive; low = lg_low-at_most (unsigned_abs l) (positive-abs l positive) i.low_end; high = tt }
ends-hold (Some l) (Some h) i positive =
    let m = positive-abs l positive in
    let le = ordered-abs l h positive i.ordered in
    record {
      positive = positive;
      low = lg_low-at_most (unsigned_abs l) m i.low_end;
      high = lg_high-at_least (unsigned_abs h) (omega arith) i.high_end;
    }

pub lg_of-holds : (i : Interval) → IsInterval i → IsPositive i.lo → HoldsLogarithm i (lg_of i)
lg_of-holds i whole positive = rw (lg_of-ends i.lo i.hi positive) (ends-hold i.lo i.hi whole positive)

-- bounds of its ends
abbrev IsWithin : ℤ → Type 0
IsWithin z = (neg_ℤ (pos (10 * 2 ^ 32)) ≤ℤ z) × (z ≤ℤ pos (29 * 2 ^ 32))

ends-low : (lo hi : Option ℤ) → IsInterval (record { lo = lo; hi = hi }) → IsPositive lo → IsSomeAnd (ends lo hi).lo (λ z. (neg_ℤ (pos (10 * 2 ^ 32)) ≤ℤ z) × (z ≤ℤ pos (29 * 2 ^ 32)))
ends-low None hi i positive = absurd positive
ends-low (Some l) hi i positive = lg_low-within (unsigned_abs l) (positive-abs l positive) i.low_end

ends-high : (lo hi : Option ℤ) → IsInterval (record { lo = lo; hi = hi }) → IsPositive lo → IfSome (ends lo hi).hi (λ z. (neg_ℤ (pos (10 * 2 ^ 32)) ≤ℤ z) × (z ≤ℤ pos (29 * 2 ^ 32)))
ends-high None hi i positive = absurd positive
ends-high (Some l) None i positive = tt
ends-high (Some l) (Some h) i positive =
    let m = positive-abs l positive in
    let le = ordered-abs l h positive i.ordered in
    lg_high-within (unsigned_abs h) (omega arith) i.high_end

ends-from_one : (lo hi : Option ℤ) → IsInterval (record { lo = lo; hi = hi }) → IsSomeAnd lo (λ x. pos (2 ^ 32) ≤ℤ x) → IsSomeAnd (ends lo hi).lo (λ z. pos 0 ≤ℤ z)
ends-from_one None hi i from = absurd from
ends-from_one (Some l) hi i from = lg_low-from_one (unsigned_abs l) (from_one-abs l from) i.low_end

pub lg_of-low : (i : Interval) → IsInterval i → IsPositive i.lo → IsSomeAnd (lg_of i).lo (λ z. (neg_ℤ (pos (10 * 2 ^ 32)) ≤ℤ z) × (z ≤ℤ pos (29 * 2 ^ 32)))
lg_of-low i whole positive = rw (lg_of-ends i.lo i.hi positive) (ends-low i.lo i.hi whole positive)

pub lg_of-high : (i : Interval) → IsInterval i → IsPositive i.lo → IfSome (lg_of i).hi (λ z. (neg_ℤ (pos (10 * 2 ^ 32)) ≤ℤ z) × (z ≤ℤ pos (29 * 2 ^ 32)))
lg_of-high i whole positive = rw (lg_of-ends i.lo i.hi positive) (ends-high i.lo i.hi whole positive)

pub lg_of-from_one : (i : Interval) → IsInterval i → IsPositive i.lo → IsSomeAnd i.lo (λ x. pos (2 ^ 32) ≤ℤ x) → IsSomeAnd (lg_of i).lo (λ z. pos 0 ≤ℤ z)
lg_of-from_one i whole positive from = rw (lg_of-ends i.lo i.hi positive) (ends-from_one i.lo i.hi whole from)

-- the calculated ends
pub low_end-is : (z : ℤ) (k m f : ℕ) (end : Option ℤ) → SFits w128 z → k ≡ decade_of (unsigned_abs (to_z w128 (of_z w128 z))) → m ≡ mantissa_low (unsigned_abs (to_z w128 (of_z w128 z))) → f ≡ (digits_low m).digits → end ≡ Some (decade_and_digits k f) → end ≡ Some (lg_low (unsigned_abs z))
unfolding lg_low
low_end-is z k m f end fits decade mantissa digits made =
    rw (made, digits, simp to_z-of_z at decade, simp to_z-of_z at mantissa) refl

pub high_end-is : (z : ℤ) (k m f : ℕ) (end : Option ℤ) → SFits w128 z → k ≡ decade_of (unsigned_abs (to_z w128 (of_z w128 z))) → m ≡ mantissa_high (unsigned_abs (to_z w128 (of_z w128 z))) → f ≡ rounded_up (digits_high m) → end ≡ Some (decade_and_digits k f) → end ≡ Some (lg_high (unsigned_abs z))
unfolding lg_high
high_end-is z k m f end fits decade mantissa digits made =
    rw (made, digits, simp to_z-of_z at decade, simp to_z-of_z at mantissa) refl

pub made-bounded : (i : Interval) (l h : ℤ) (low high : Option ℤ) → Some l ≡ i.lo → Some h ≡ i.hi → IsPositive i.lo → low ≡ Some (lg_low (unsigned_abs l)) → high ≡ Some (lg_high (unsigned_abs h)) → record { lo = low; hi = high } ≡ lg_of i
made-bounded i l h low high from to positive below above =
    rw (below, above, lg_of-ends i.lo i.hi positive, ← from, ← to) refl

pub made-open : (i : Interval) (l : ℤ) (low : Option ℤ) → Some l ≡ i.lo → None ≡ i.hi → IsPositive i.lo → low ≡ Some (lg_low (unsigned_abs l)) → record { lo = low; hi = None } ≡ lg_of i
made-open i l low from to positive below =
    rw (below, lg_of-ends i.lo i.hi positive, ← from, ← to) refl
