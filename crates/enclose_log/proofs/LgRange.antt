-- The logarithm keeps to its range: it lies within its decade.
use Rattle.std.proofs.Common.{◌≡◌, ℕ, zero, suc, ◌*◌, ◌<◌, ◌≤◌, ◌^◌, ℤ, pos, negsuc, ◌≤ℤ◌, unsigned_abs, Option, refl, sym, ◌∙◌, arith}
use Rattle.std.specs.Prelude.{Bool, true, false, Some, None, IsSomeAnd, nat_le, if◌then◌else◌}
use Rattle.std.specs.Option.{option_map, option_and_then}
use Rattle.std.proofs.lemmas.Int.{ints}
use Rattle.std.proofs.lemmas.Bool.{false≢true}
use Rattle.fix_interval.specs.Units.{unit, unit-is}
use Rattle.fix_interval.specs.Interval.{Interval, All}
use Rattle.fix_interval.specs.Values.{is_small}
use Rattle.fix_interval.specs.Lg.{greatest, decade_of, decade_and_digits, is_at_least, lg_low, lg_high, lg_of}
use Rattle.fix_interval.specs.Ranges.{IsFrom, IsUpTo, LiesIn, IsRanged, logarithm_range, logarithm_limit}
use Rattle.fix_interval.proofs.Ranging.{LiesIn-All}
use Rattle.enclose_log.proofs.Value.{greatest-le, digits_low-small, rounded_up-small}
use Rattle.enclose_log.proofs.LgInterval.{ends, lg_of-ends}

-- ---- decades grow

-- what passes a test that holds of more numbers reaches at least as far
greatest-grows : (p q : ℕ → Bool) (limit : ℕ) → ((k : ℕ) → p k ≡ true → q k ≡ true) → greatest p limit ≤ greatest q limit
unfolding greatest
greatest-grows p q zero more = omega arith
greatest-grows p q (suc limit) more = by_tests (p (suc limit)) (q (suc limit)) refl refl (greatest-grows p q limit more) where
  by_tests : (a b : Bool) → p (suc limit) ≡ a → q (suc limit) ≡ b → greatest p limit ≤ greatest q limit
      → (if a then suc limit else greatest p limit) ≤ (if b then suc limit else greatest q limit)
  by_tests true true e f h = omega arith
  by_tests true false e f h = absurd (false≢true (sym f ∙ more (suc limit) e))
  by_tests false true e f h = omega (arith, greatest-le p limit)
  by_tests false false e f h = h

pub decade-grows : (m n : ℕ) → m ≤ n → decade_of m ≤ decade_of n
unfolding decade_of
decade-grows m n h = greatest-grows (λ k. nat_le (10 ^ k * unit) (10 ^ 10 * m)) (λ k. nat_le (10 ^ k * unit) (10 ^ 10 * n)) 38 (λ k e. grind arith)

-- ---- ends of logarithms

low-from : (m n : ℕ) → m ≤ n → decade_and_digits (decade_of m) 0 ≤ℤ lg_low n
unfolding lg_low
low-from m n h = rw unit-is (omega (arith, ints, decade-grows m n h))

high-from : (m n : ℕ) → m ≤ n → decade_and_digits (decade_of m) 0 ≤ℤ lg_high n
unfolding lg_high
high-from m n h = rw unit-is (omega (arith, ints, decade-grows m n h))

low-up_to : (m n : ℕ) → 0 < m → m ≤ n → n < 2 ^ 126 → lg_low m ≤ℤ decade_and_digits (suc (decade_of n)) 0
unfolding lg_low
low-up_to m n positive h small = rw unit-is (omega (arith, ints, decade-grows m n h, digits_low-small m positive (omega (arith, h, small))))

high-up_to : (m n : ℕ) → 0 < m → m ≤ n → n < 2 ^ 126 → lg_high m ≤ℤ decade_and_digits (suc (decade_of n)) 0
unfolding lg_high
high-up_to m n positive h small = rw unit-is (omega (arith, ints, decade-grows m n h, rounded_up-small m positive (omega (arith, h, small))))

-- ---- whole intervals, of natural ends

from-end : (l : ℕ) (lo hi : Option ℤ) → 1 ≤ l → IsFrom (Some (pos l)) (record { lo = lo; hi = hi }) → IsFrom (Some (decade_and_digits (decade_of l) 0)) (ends lo hi)
from-end l None hi positive h = absurd h.0
from-end l (Some (negsuc x)) hi positive h = absurd (omega (arith, ints, h.0))
from-end l (Some (pos x)) None positive h = (low-from l x (omega (arith, ints, h.0)), tt)
from-end l (Some (pos x)) (Some (negsuc y)) positive h = absurd (omega (arith, ints, h.1))
from-end l (Some (pos x)) (Some (pos y)) positive h = (low-from l x (omega (arith, ints, h.0)), high-from l y (omega (arith, ints, h.1)))

up_to-end : (l : ℕ) (limit lo hi : Option ℤ) → 1 ≤ l → IsFrom (Some (pos l)) (record { lo = lo; hi = hi }) → IsUpTo limit (record { lo = lo; hi = hi })
    → IsUpTo (option_and_then logarithm_limit limit) (ends lo hi)
up_to-end l None lo hi positive h k = tt
up_to-end l (Some z) None hi positive h k = absurd h.0
up_to-end l (Some z) (Some x) None positive h k = absurd k.1
up_to-end l (Some (negsuc z)) (Some x) (Some y) positive h k = absurd (omega (arith, ints, h.0, k.0))
up_to-end l (Some (pos z)) (Some (negsuc x)) (Some y) positive h k = absurd (omega (arith, ints, h.0))
up_to-end l (Some (pos z)) (Some (pos x)) (Some (negsuc y)) positive h k = absurd (omega (arith, ints, h.1))
up_to-end l (Some (pos z)) (Some (pos x)) (Some (pos y)) positive h k = by_size (is_small (pos z)) refl where
  by_size : (test : Bool) → is_small (pos z) ≡ test → IsUpTo (if test then Some (decade_and_digits (suc (decade_of z)) 0) else None) (ends (Some (pos x)) (Some (pos y)))
  by_size false e = tt
  by_size true e =
      let small : z < 2 ^ 126 = grind arith in
      (low-up_to x z (omega (arith, ints, h.0, positive)) (omega (arith, ints, k.0)) small, high-up_to y z (omega (arith, ints, h.1, positive)) (omega (arith, ints, k.1)) small)

positive-low : (l : ℕ) (lo hi : Option ℤ) → 1 ≤ l → IsFrom (Some (pos l)) (record { lo = lo; hi = hi }) → IsSomeAnd lo (λ x. pos 1 ≤ℤ x)
positive-low l None hi positive h = absurd h.0
positive-low l (Some x) hi positive h = omega (arith, ints, h.0, positive)

above-one : (low : Option ℤ) → is_at_least (pos 1) low ≡ true → (l : ℕ) × (low ≡ Some (pos l)) × (1 ≤ l)
above-one None e = absurd (false≢true e)
above-one (Some (pos l)) e = (l, refl, grind (arith, ints))
above-one (Some (negsuc l)) e = absurd (grind (arith, ints))

-- the logarithm of an interval that lies in a range above 0
logarithm-within : (l : ℕ) (limit : Option ℤ) (i : Interval) → 1 ≤ l → LiesIn (record { lo = Some (pos l); hi = limit }) i
    → LiesIn (record { lo = Some (decade_and_digits (decade_of l) 0); hi = option_and_then logarithm_limit limit }) (lg_of i)
logarithm-within l limit i positive h =
    rw (lg_of-ends i.lo i.hi (positive-low l i.lo i.hi positive h.low))
    (record { low = from-end l i.lo i.hi positive h.low; high = up_to-end l limit i.lo i.hi positive h.low h.high })

pub logarithm-ranged : IsRanged lg_of logarithm_range
unfolding logarithm_range
logarithm-ranged i k h = by_sign (is_at_least (pos 1) k.lo) refl where
  by_sign : (test : Bool) → is_at_least (pos 1) k.lo ≡ test
      → LiesIn (if test then record { lo = option_map (λ z. decade_and_digits (decade_of (unsigned_abs z)) 0) k.lo; hi = option_and_then logarithm_limit k.hi } else All) (lg_of i)
  by_sign false e = LiesIn-All (lg_of i)
  by_sign true e =
      let l = above-one k.lo e in
      rw l.1 (logarithm-within l.0 k.hi i l.2 (record { low = rw l.1 at h.low; high = h.high }))
