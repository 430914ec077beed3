-- Powers of ten and decays keep to their ranges.
use Rattle.std.proofs.Common.{◌≡◌, ℕ, ◌*◌, ◌/◌, ◌%◌, ◌<◌, ◌≤◌, ◌^◌, ℤ, pos, neg_ℤ, ◌≤ℤ◌, ◌<ℤ◌, unsigned_abs, Option, refl, arith}
use Rattle.std.specs.Prelude.{Bool, true, false, Some, None, IsSomeAnd, IfSome, int_le, int_lt, if◌then◌else◌}
use Rattle.std.specs.Int.{div_ceil}
use Rattle.std.specs.Option.{option_map_or, option_and_then}
use Rattle.std.proofs.lemmas.Int.{ints}
use Rattle.std.proofs.lemmas.Bool.{false≢true}
use Rattle.std.proofs.lemmas.Nat.{mul-le}
use Rattle.std.proofs.lemmas.Grind.{div_ceil_times}
use Rattle.std.proofs.Math.Nat.{one-le-pow, pow-le-pow_right}
use Rattle.fix_interval.specs.Units.{unit, unit-is}
use Rattle.fix_interval.specs.Interval.{Interval, All}
use Rattle.fix_interval.specs.Lg.{is_at_least}
use Rattle.fix_interval.specs.Ten.{fraction_high, raised_high, ten_low, ten_high, ten_of}
use Rattle.fix_interval.specs.ExpNeg.{exp_neg_low, exp_neg_of}
use Rattle.fix_interval.specs.Ranges.{IsFrom, IsUpTo, LiesIn, IsRanged, from_to, power_limit, power_range, decay_range}
use Rattle.fix_interval.proofs.Ceilings.{div_ceil-mono}
use Rattle.fix_interval.proofs.Ranging.{LiesIn-All}
use Rattle.fix_interval.proofs.TenTables.{fraction_high-small}
use Rattle.enclose_exp.proofs.Exponents.{ten_high-least, ten_high-within}
use Rattle.enclose_exp.proofs.TenInterval.{least, within, greatest, place_of, shifted, shifted-ordered, ends-ordered, ten_high-positive}
use Rattle.enclose_exp.proofs.DecayLaw.{exp_neg_high-le}
use Rattle.enclose_exp.proofs.DecayLaw as decays
use Rattle.enclose_exp.proofs.DecayInterval.{ends, exp_neg_of-ends}

-- ---- powers of ten

-- the limit of a power whose exponent counts from -20
abbrev limit_of : ℕ → ℕ
limit_of s = div_ceil (2 ^ 64 * 10 ^ (s / unit)) (10 ^ 20 * 2 ^ 28)

raised-below : (s t : ℕ) → s ≤ t → raised_high s ≤ limit_of t
raised-below s t h =
    let whole : s / unit ≤ t / unit = div-grows s t h in
    let powers = pow-le-pow_right {n = 10} (omega arith) {i = s / unit} {j = t / unit} whole in
    let small : fraction_high (s % unit) ≤ 2 ^ 64 = omega (arith, fraction_high-small (s % unit)) in
    div_ceil-mono (fraction_high (s % unit) * 10 ^ (s / unit)) (2 ^ 64 * 10 ^ (t / unit)) (10 ^ 20 * 2 ^ 28) (omega arith)
    (mul-le (fraction_high (s % unit)) (10 ^ (s / unit)) (2 ^ 64) (10 ^ (t / unit)) small powers)
  where
    div-grows : (s t : ℕ) → s ≤ t → s / unit ≤ t / unit
    div-grows s t h = rw unit-is (omega (arith, h))

limit-positive : (t : ℕ) → 1 ≤ limit_of t
limit-positive t = at_least_one (10 ^ (t / unit)) (one-le-pow (t / unit) 10 (omega arith)) where
  at_least_one : (p : ℕ) → 1 ≤ p → 1 ≤ div_ceil (2 ^ 64 * p) (10 ^ 20 * 2 ^ 28)
  at_least_one p h = omega (arith, h, (div_ceil_times (2 ^ 64 * p) (10 ^ 20 * 2 ^ 28) (omega arith)).0)

power_limit-least : (n : ℤ) → n <ℤ neg_ℤ (pos (19 * 2 ^ 32)) → power_limit n ≡ Some (pos 1)
unfolding power_limit
power_limit-least n h = rw unit-is (let e : int_le (pos (20 * 2 ^ 32)) n ≡ false = grind (arith, ints) in
    let f : int_lt n (neg_ℤ (pos (19 * 2 ^ 32))) ≡ true = grind (arith, ints) in rw (e, f) refl)

power_limit-within : (n : ℤ) → neg_ℤ (pos (19 * 2 ^ 32)) ≤ℤ n → n <ℤ pos (20 * 2 ^ 32) → power_limit n ≡ Some (pos (limit_of (shifted n)))
unfolding power_limit
power_limit-within n low high = rw unit-is (let e : int_le (pos (20 * 2 ^ 32)) n ≡ false = grind (arith, ints) in
    let f : int_lt n (neg_ℤ (pos (19 * 2 ^ 32))) ≡ false = grind (arith, ints) in rw (e, f) refl)

power_limit-greatest : (n : ℤ) → pos (20 * 2 ^ 32) ≤ℤ n → power_limit n ≡ None
unfolding power_limit
power_limit-greatest n h = rw unit-is (let e : int_le (pos (20 * 2 ^ 32)) n ≡ true = grind (arith, ints) in rw e refl)

-- a high end of a power is bounded, and at most the limit of a greater exponent
abbrev IsBelowLimit : Option ℤ → Option ℤ → Type 0
IsBelowLimit limit end = IfSome limit (λ (l : ℤ). IsSomeAnd end (λ (z : ℤ). z ≤ℤ l))

high-below : (n m : ℤ) → n ≤ℤ m → IsBelowLimit (power_limit m) (ten_high n)
high-below n m h = elim (place_of m) [
  | least below ↦ rw (power_limit-least m below, ten_high-least n (omega (arith, ints, h, below))) (omega (arith, ints))
  | within low high ↦ rw (power_limit-within m low high) (elim (place_of n) [
    | least below ↦ rw (ten_high-least n below) (omega (arith, ints, limit-positive (shifted m)))
    | within low_n high_n ↦ rw (ten_high-within n low_n high_n) (omega (arith, ints, raised-below (shifted n) (shifted m) (shifted-ordered n m low_n h)))
    | greatest above ↦ absurd (omega (arith, ints, h, high, above))
  ])
  | greatest above ↦ rw (power_limit-greatest m above) tt
]

not_negative : (n : ℤ) → IfSome (ten_high n) (λ z. pos 0 ≤ℤ z)
not_negative n = weaker (ten_high n) (ten_high-positive n) where
  weaker : (end : Option ℤ) → IfSome end (λ z. pos 1 ≤ℤ z) → IfSome end (λ z. pos 0 ≤ℤ z)
  weaker None h = tt
  weaker (Some z) h = omega (arith, ints, h)

-- the low end isn't above the high one
low-below : (n : ℤ) (limit end : Option ℤ) (low : ℕ) → IsBelowLimit limit end → IfSome end (λ h. pos low ≤ℤ h) → IfSome limit (λ l. pos low ≤ℤ l)
low-below n None end low h k = tt
low-below n (Some l) None low h k = absurd h
low-below n (Some l) (Some z) low h k = omega (arith, ints, h, k)

power-up_to : (limit lo hi : Option ℤ) → IsUpTo limit (record { lo = lo; hi = hi })
    → IsUpTo (option_and_then power_limit limit) (record { lo = Some (pos (option_map_or ten_low lo 0)); hi = option_and_then ten_high hi })
power-up_to None lo hi h = tt
power-up_to (Some m) lo None h = absurd h.1
power-up_to (Some m) lo (Some n) h = both (power_limit m) (high-below n m h.1) (low-ends lo h.0) where
  low-ends : (lo : Option ℤ) → IfSome lo (λ z. z ≤ℤ m) → IfSome (power_limit m) (λ l. pos (option_map_or ten_low lo 0) ≤ℤ l)
  low-ends None k = low-below n (power_limit m) (ten_high n) 0 (high-below n m h.1) (not_negative n)
  low-ends (Some x) k = low-below x (power_limit m) (ten_high x) (ten_low x) (high-below x m k) (ends-ordered x x (omega (arith, ints)))

  both : (limit : Option ℤ) → IsBelowLimit limit (ten_high n) → IfSome limit (λ l. pos (option_map_or ten_low lo 0) ≤ℤ l)
      → IsUpTo limit (record { lo = Some (pos (option_map_or ten_low lo 0)); hi = ten_high n })
  both None k l = tt
  both (Some z) k l = (l, k)

pub power-ranged : IsRanged ten_of power_range
unfolding power_range ten_of
power-ranged i k h = record { low = (omega (arith, ints), high-end i.hi); high = power-up_to k.hi i.lo i.hi h.high } where
  high-end : (hi : Option ℤ) → IfSome (option_and_then ten_high hi) (λ z. pos 0 ≤ℤ z)
  high-end None = tt
  high-end (Some n) = not_negative n

-- ---- decays

decay-low : (hi : Option ℤ) → option_map_or (λ z. exp_neg_low (unsigned_abs z)) hi 0 ≤ 2 ^ 32
decay-low None = omega arith
decay-low (Some z) = omega (arith, decays.ends-ordered (unsigned_abs z) (unsigned_abs z) (omega arith), exp_neg_high-le (unsigned_abs z))

decay-within : (lo hi : Option ℤ) → IsFrom (Some (pos 0)) (record { lo = lo; hi = hi }) → LiesIn (from_to (pos 0) (pos unit)) (ends lo hi)
decay-within None hi h = absurd h.0
decay-within (Some x) hi h = record {
  low = (omega (arith, ints), omega (arith, ints));
  high = rw unit-is (omega (arith, ints, decay-low hi), omega (arith, ints, exp_neg_high-le (unsigned_abs x)));
}

from-zero : (low : Option ℤ) (i : Interval) → is_at_least (pos 0) low ≡ true → IsFrom low i → IsFrom (Some (pos 0)) i
from-zero None i e h = absurd (false≢true e)
from-zero (Some l) i e h = (from-low i.lo h.0, from-high i.hi h.1) where
  from-low : (lo : Option ℤ) → IsSomeAnd lo (λ z. l ≤ℤ z) → IsSomeAnd lo (λ z. pos 0 ≤ℤ z)
  from-low None k = absurd k
  from-low (Some z) k = let at_least : pos 0 ≤ℤ l = grind (arith, ints) in omega (arith, ints, at_least, k)

  from-high : (hi : Option ℤ) → IfSome hi (λ z. l ≤ℤ z) → IfSome hi (λ z. pos 0 ≤ℤ z)
  from-high None k = tt
  from-high (Some z) k = let at_least : pos 0 ≤ℤ l = grind (arith, ints) in omega (arith, ints, at_least, k)

pub decay-ranged : IsRanged exp_neg_of decay_range
unfolding decay_range
decay-ranged i k h = by_sign (is_at_least (pos 0) k.lo) refl where
  by_sign : (test : Bool) → is_at_least (pos 0) k.lo ≡ test → LiesIn (if test then from_to (pos 0) (pos unit) else All) (exp_neg_of i)
  by_sign false e = LiesIn-All (exp_neg_of i)
  by_sign true e =
      let from = from-zero k.lo i e h.low in
      rw (exp_neg_of-ends i.lo i.hi from.0) (decay-within i.lo i.hi from)
