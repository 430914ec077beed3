-- Lemmas on the least and the greatest quotient of ends.
use Rattle.std.proofs.Common.{◌≡◌, ℕ, zero, suc, ◌<◌, ◌≤◌, ◌^◌, ℤ, pos, negsuc, ◌*ℤ◌, neg_ℤ, ◌≤ℤ◌, ◌<ℤ◌, arith, refl, sym, true, false, inl, inr}
use Rattle.std.specs.Prelude.{unsigned_abs, int_le, Some, ◌⊎◌, Bool, ◌&&◌, ◌||◌, not, if◌then◌else◌}
use Rattle.std.proofs.lemmas.Int.{ints, clamps}
use Rattle.std.specs.Int.{int_min, int_max}
use Rattle.fix_interval.specs.Interval.{Interval, All, IsInterval}
use Rattle.fix_interval.specs.Units.{unit, unit-is}
use Rattle.fix_interval.specs.Round.{floor_of, ceil_of, floor_quotient, ceil_quotient}
use Rattle.fix_interval.specs.Values.{quotient_of_ends, least_of, greatest_of, ratio_of, holds_zero}
use Rattle.fix_interval.proofs.Order.{unsigned_abs-neg_ℤ, int_min-keeps, int_max-keeps}
use Rattle.fix_interval.proofs.Rounding.{floor_of-mono, ceil_of-mono, floor_of-anti, floor_of-anti_negative, neg_ℤ-*ℤ, unsigned_abs-floor_of, unsigned_abs-ceil_of, floor_of-le-ceil_of}
use Rattle.fix_interval.proofs.Intervals.{IsInterval-All}
use Rattle.fix_interval.proofs.Ratios.{nat_lt-yes, nat_lt-no, ratio_of-small, units-small}

-- ---- tests

pub int_le-yes : (x y : ℤ) → x ≤ℤ y → int_le x y ≡ true
int_le-yes x y h = grind (arith, ints)

pub int_le-no : (x y : ℤ) → y <ℤ x → int_le x y ≡ false
int_le-no x y h = grind (arith, ints)

-- ---- units

pub unit-pos : 0 < unit
unit-pos = rw unit-is (omega arith)

pub units-mono : (x y : ℤ) → x ≤ℤ y → (x *ℤ pos unit) ≤ℤ (y *ℤ pos unit)
units-mono x y h = rw unit-is (omega (arith, ints))

pub units-not_negative : (x : ℤ) → pos 0 ≤ℤ x → pos 0 ≤ℤ (x *ℤ pos unit)
units-not_negative x h = rw unit-is (omega (arith, ints))

pub units-negative : (x : ℤ) → x <ℤ pos 0 → (x *ℤ pos unit) <ℤ pos 0
units-negative x h = rw unit-is (omega (arith, ints))

-- ---- a positive divisor

pub least_by_positive : (n bl bh : ℤ) → pos 0 <ℤ bl → bl ≤ℤ bh → pos 0 ≤ℤ n → int_min (floor_quotient n bl) (floor_quotient n bh) ≡ floor_of n (unsigned_abs bh)
least_by_positive (pos a) (pos d) (pos e) p o h = omega (arith, ints, clamps, floor_of-anti a d e (omega (arith, ints)) (omega (arith, ints)))
least_by_positive (negsuc a) (pos d) (pos e) p o h = absurd (omega (arith, ints))
least_by_positive n (pos d) (negsuc e) p o h = absurd (omega (arith, ints))
least_by_positive n (negsuc d) bh p o h = absurd (omega (arith, ints))

pub least_by_positive_negative : (n bl bh : ℤ) → pos 0 <ℤ bl → bl ≤ℤ bh → n <ℤ pos 0 → int_min (floor_quotient n bl) (floor_quotient n bh) ≡ floor_of n (unsigned_abs bl)
least_by_positive_negative (negsuc a) (pos d) (pos e) p o h = omega (arith, ints, clamps, floor_of-anti_negative a d e (omega (arith, ints)) (omega (arith, ints)))
least_by_positive_negative (pos a) (pos d) (pos e) p o h = absurd (omega (arith, ints))
least_by_positive_negative n (pos d) (negsuc e) p o h = absurd (omega (arith, ints))
least_by_positive_negative n (negsuc d) bh p o h = absurd (omega (arith, ints))

pub greatest_by_positive : (n bl bh : ℤ) → pos 0 <ℤ bl → bl ≤ℤ bh → pos 0 ≤ℤ n → int_max (ceil_quotient n bl) (ceil_quotient n bh) ≡ ceil_of n (unsigned_abs bl)
greatest_by_positive (pos zero) (pos d) (pos e) p o h = omega (arith, ints, clamps, floor_of-anti 0 d e (omega (arith, ints)) (omega (arith, ints)))
greatest_by_positive (pos (suc a)) (pos d) (pos e) p o h = omega (arith, ints, clamps, floor_of-anti_negative a d e (omega (arith, ints)) (omega (arith, ints)))
greatest_by_positive (negsuc a) (pos d) (pos e) p o h = absurd (omega (arith, ints))
greatest_by_positive n (pos d) (negsuc e) p o h = absurd (omega (arith, ints))
greatest_by_positive n (negsuc d) bh p o h = absurd (omega (arith, ints))

pub greatest_by_positive_negative : (n bl bh : ℤ) → pos 0 <ℤ bl → bl ≤ℤ bh → n <ℤ pos 0 → int_max (ceil_quotient n bl) (ceil_quotient n bh) ≡ ceil_of n (unsigned_abs bh)
greatest_by_positive_negative (negsuc a) (pos d) (pos e) p o h = omega (arith, ints, clamps, floor_of-anti (suc a) d e (omega (arith, ints)) (omega (arith, ints)))
greatest_by_positive_negative (pos a) (pos d) (pos e) p o h = absurd (omega (arith, ints))
greatest_by_positive_negative n (pos d) (negsuc e) p o h = absurd (omega (arith, ints))
greatest_by_positive_negative n (negsuc d) bh p o h = absurd (omega (arith, ints))

-- the ends by a positive divisor
pub floor_quotient-mono : (x y d : ℤ) → pos 0 <ℤ d → x ≤ℤ y → floor_quotient x d ≤ℤ floor_quotient y d
floor_quotient-mono x y (pos d) p h = floor_of-mono x y d (omega (arith, ints)) h
floor_quotient-mono x y (negsuc d) p h = absurd (omega (arith, ints))

pub ceil_quotient-mono : (x y d : ℤ) → pos 0 <ℤ d → x ≤ℤ y → ceil_quotient x d ≤ℤ ceil_quotient y d
ceil_quotient-mono x y (pos d) p h = ceil_of-mono x y d (omega (arith, ints)) h
ceil_quotient-mono x y (negsuc d) p h = absurd (omega (arith, ints))

least_of-first : (p q r s : ℤ) → p ≤ℤ r → q ≤ℤ s → least_of p q r s ≡ int_min p q
least_of-first p q r s h k = omega (arith, ints, clamps)

greatest_of-second : (p q r s : ℤ) → p ≤ℤ r → q ≤ℤ s → greatest_of p q r s ≡ int_max r s
greatest_of-second p q r s h k = omega (arith, ints, clamps)

-- ---- a negative divisor

pub floor_quotient-neg_ℤ : (n y : ℤ) → y <ℤ pos 0 → floor_quotient n y ≡ floor_quotient (neg_ℤ n) (neg_ℤ y)
floor_quotient-neg_ℤ n (pos y) h = absurd (omega (arith, ints))
floor_quotient-neg_ℤ n (negsuc y) h = refl

pub ceil_quotient-neg_ℤ : (n y : ℤ) → y <ℤ pos 0 → ceil_quotient n y ≡ ceil_quotient (neg_ℤ n) (neg_ℤ y)
ceil_quotient-neg_ℤ n (pos y) h = absurd (omega (arith, ints))
ceil_quotient-neg_ℤ n (negsuc y) h = refl

least_of-turned : (p q r s : ℤ) → least_of p q r s ≡ least_of s r q p
least_of-turned p q r s = omega (arith, ints, clamps)

greatest_of-turned : (p q r s : ℤ) → greatest_of p q r s ≡ greatest_of s r q p
greatest_of-turned p q r s = omega (arith, ints, clamps)

-- ---- as the code finds them

pub lo-ratio_of : (x y : ℤ) (d e : ℕ) (r : Interval) → unsigned_abs x < 2 ^ 94 → y ≡ x → e ≡ d → r ≡ ratio_of y e → r.lo ≡ Some (floor_of (x *ℤ pos unit) d)
lo-ratio_of x y d e r small number divisor is = rw (is, number, divisor, ratio_of-small x d small)

pub hi-ratio_of : (x y : ℤ) (d e : ℕ) (r : Interval) → unsigned_abs x < 2 ^ 94 → y ≡ x → e ≡ d → r ≡ ratio_of y e → r.hi ≡ Some (ceil_of (x *ℤ pos unit) d)
hi-ratio_of x y d e r small number divisor is = rw (is, number, divisor, ratio_of-small x d small)

-- ---- the value by the signs of the divisor

pub quotient_of_ends-positive : (al ah bl bh : ℤ) → pos 0 <ℤ bl → bl ≤ℤ bh → al ≤ℤ ah → unsigned_abs al < 2 ^ 94 → unsigned_abs ah < 2 ^ 94 → quotient_of_ends al ah bl bh ≡ record { lo = Some (int_min (floor_quotient (al *ℤ pos unit) bl) (floor_quotient (al *ℤ pos unit) bh)); hi = Some (int_max (ceil_quotient (ah *ℤ pos unit) bl) (ceil_quotient (ah *ℤ pos unit) bh)) }
quotient_of_ends-positive al ah bl bh p o h low high =
    let p' : pos 0 <ℤ bh = omega (arith, ints) in
    let u : (al *ℤ pos unit) ≤ℤ (ah *ℤ pos unit) = units-mono al ah h in
    rw (
      int_le-no bl (pos 0) p,
      nat_lt-yes (unsigned_abs al) (2 ^ 94) low,
      nat_lt-yes (unsigned_abs ah) (2 ^ 94) high,
      least_of-first (floor_quotient (al *ℤ pos unit) bl) (floor_quotient (al *ℤ pos unit) bh) (floor_quotient (ah *ℤ pos unit) bl) (floor_quotient (ah *ℤ pos unit) bh)
          (floor_quotient-mono _ _ bl p u) (floor_quotient-mono _ _ bh p' u),
      greatest_of-second (ceil_quotient (al *ℤ pos unit) bl) (ceil_quotient (al *ℤ pos unit) bh) (ceil_quotient (ah *ℤ pos unit) bl) (ceil_quotient (ah *ℤ pos unit) bh)
          (ceil_quotient-mono _ _ bl p u) (ceil_quotient-mono _ _ bh p' u),
    )

-- nothing is known where one of two tests fails, whatever the third says
all_of : (zero low high : Bool) (i : Interval) → (low ≡ false) ⊎ (high ≡ false) → (if (zero || not (low && high)) then All else i) ≡ All
all_of true low high i h = refl
all_of false false high i h = refl
all_of false true false i h = refl
all_of false true true i (inl e) = absurd (cc)
all_of false true true i (inr e) = absurd (cc)

pub quotient_of_ends-large : (al ah bl bh : ℤ) → (2 ^ 94 ≤ unsigned_abs al) ⊎ (2 ^ 94 ≤ unsigned_abs ah) → quotient_of_ends al ah bl bh ≡ All
quotient_of_ends-large al ah bl bh (inl h) = all_of (holds_zero bl bh) _ _ _ (inl (nat_lt-no (unsigned_abs al) (2 ^ 94) h))
quotient_of_ends-large al ah bl bh (inr h) = all_of (holds_zero bl bh) _ _ _ (inr (nat_lt-no (unsigned_abs ah) (2 ^ 94) h))

pub quotient_of_ends-zero : (al ah bl bh : ℤ) → bl ≤ℤ pos 0 → pos 0 ≤ℤ bh → quotient_of_ends al ah bl bh ≡ All
quotient_of_ends-zero al ah bl bh h k = rw (int_le-yes bl (pos 0) h, int_le-yes (pos 0) bh k)

floor_of_corner : (x y : ℤ) → y <ℤ pos 0 → floor_quotient (neg_ℤ x *ℤ pos unit) (neg_ℤ y) ≡ floor_quotient (x *ℤ pos unit) y
floor_of_corner x y h = rw (neg_ℤ-*ℤ x unit) (sym (floor_quotient-neg_ℤ (x *ℤ pos unit) y h))

ceil_of_corner : (x y : ℤ) → y <ℤ pos 0 → ceil_quotient (neg_ℤ x *ℤ pos unit) (neg_ℤ y) ≡ ceil_quotient (x *ℤ pos unit) y
ceil_of_corner x y h = rw (neg_ℤ-*ℤ x unit) (sym (ceil_quotient-neg_ℤ (x *ℤ pos unit) y h))

pub quotient_of_ends-negative : (al ah bl bh : ℤ) → bh <ℤ pos 0 → bl ≤ℤ bh → unsigned_abs al < 2 ^ 94 → unsigned_abs ah < 2 ^ 94 → quotient_of_ends al ah bl bh ≡ quotient_of_ends (neg_ℤ ah) (neg_ℤ al) (neg_ℤ bh) (neg_ℤ bl)
quotient_of_ends-negative al ah bl bh n o low high =
    let n' : bl <ℤ pos 0 = omega (arith, ints) in
    let low' : unsigned_abs (neg_ℤ al) < 2 ^ 94 = rw (unsigned_abs-neg_ℤ al) low in
    let high' : unsigned_abs (neg_ℤ ah) < 2 ^ 94 = rw (unsigned_abs-neg_ℤ ah) high in
    rw (
      int_le-yes bl (pos 0) (omega (arith, ints)),
      int_le-no (pos 0) bh n,
      int_le-no (neg_ℤ bh) (pos 0) (omega (arith, ints)),
      nat_lt-yes (unsigned_abs al) (2 ^ 94) low,
      nat_lt-yes (unsigned_abs ah) (2 ^ 94) high,
      nat_lt-yes (unsigned_abs (neg_ℤ al)) (2 ^ 94) low',
      nat_lt-yes (unsigned_abs (neg_ℤ ah)) (2 ^ 94) high',
      floor_of_corner ah bh n,
      floor_of_corner ah bl n',
      floor_of_corner al bh n,
      floor_of_corner al bl n',
      ceil_of_corner ah bh n,
      ceil_of_corner ah bl n',
      ceil_of_corner al bh n,
      ceil_of_corner al bl n',
    )
    (same_ends (floor_quotient (al *ℤ pos unit) bl) (floor_quotient (al *ℤ pos unit) bh) (floor_quotient (ah *ℤ pos unit) bl) (floor_quotient (ah *ℤ pos unit) bh)
    (ceil_quotient (al *ℤ pos unit) bl) (ceil_quotient (al *ℤ pos unit) bh) (ceil_quotient (ah *ℤ pos unit) bl) (ceil_quotient (ah *ℤ pos unit) bh)) where
      same_ends : (p q r s p' q' r' s' : ℤ) → ◌≡◌ {A = Interval} (record { lo = Some (least_of p q r s); hi = Some (greatest_of p' q' r' s') }) (record { lo = Some (least_of s r q p); hi = Some (greatest_of s' r' q' p') })
      same_ends p q r s p' q' r' s' = rw (least_of-turned p q r s, greatest_of-turned p' q' r' s')

-- ---- the value is an interval

unsigned_abs-floor_quotient : (x y : ℤ) → pos 0 <ℤ y → unsigned_abs (floor_quotient x y) ≤ unsigned_abs x
unsigned_abs-floor_quotient x (pos d) h = unsigned_abs-floor_of x d (omega (arith, ints))
unsigned_abs-floor_quotient x (negsuc d) h = absurd (omega (arith, ints))

unsigned_abs-ceil_quotient : (x y : ℤ) → pos 0 <ℤ y → unsigned_abs (ceil_quotient x y) ≤ unsigned_abs x
unsigned_abs-ceil_quotient x (pos d) h = unsigned_abs-ceil_of x d (omega (arith, ints))
unsigned_abs-ceil_quotient x (negsuc d) h = absurd (omega (arith, ints))

floor_quotient-le-ceil_quotient : (x y : ℤ) → pos 0 <ℤ y → floor_quotient x y ≤ℤ ceil_quotient x y
floor_quotient-le-ceil_quotient x (pos d) h = floor_of-le-ceil_of x d (omega (arith, ints))
floor_quotient-le-ceil_quotient x (negsuc d) h = absurd (omega (arith, ints))

least-le-greatest : (p q r s : ℤ) → p ≤ℤ r → int_min p q ≤ℤ int_max r s
least-le-greatest p q r s h = omega (arith, ints, clamps)

pub ≤ℤ_trans : (x y z : ℤ) → x ≤ℤ y → y ≤ℤ z → x ≤ℤ z
≤ℤ_trans x y z h k = omega (arith, ints)

pub IsInterval-quotient_by_positive : (al ah bl bh : ℤ) → pos 0 <ℤ bl → bl ≤ℤ bh → al ≤ℤ ah → unsigned_abs al < 2 ^ 94 → unsigned_abs ah < 2 ^ 94 → IsInterval (quotient_of_ends al ah bl bh)
IsInterval-quotient_by_positive al ah bl bh p o h low high =
    let p' : pos 0 <ℤ bh = omega (arith, ints) in
    let u : (al *ℤ pos unit) ≤ℤ (ah *ℤ pos unit) = units-mono al ah h in
    let l : ℤ = al *ℤ pos unit in
    let g : ℤ = ah *ℤ pos unit in
    let down : unsigned_abs (floor_quotient l bl) < 2 ^ 126 = omega (arith, units-small al low, unsigned_abs-floor_quotient l bl p) in
    let down' : unsigned_abs (floor_quotient l bh) < 2 ^ 126 = omega (arith, units-small al low, unsigned_abs-floor_quotient l bh p') in
    let up : unsigned_abs (ceil_quotient g bl) < 2 ^ 126 = omega (arith, units-small ah high, unsigned_abs-ceil_quotient g bl p) in
    let up' : unsigned_abs (ceil_quotient g bh) < 2 ^ 126 = omega (arith, units-small ah high, unsigned_abs-ceil_quotient g bh p') in
    rw (quotient_of_ends-positive al ah bl bh p o h low high) (record {
      low_end = int_min-keeps (λ z. unsigned_abs z < 2 ^ 126) (floor_quotient l bl) (floor_quotient l bh) down down';
      high_end = int_max-keeps (λ z. unsigned_abs z < 2 ^ 126) (ceil_quotient g bl) (ceil_quotient g bh) up up';
      ordered = least-le-greatest (floor_quotient l bl) (floor_quotient l bh) (ceil_quotient g bl) (ceil_quotient g bh)
          (≤ℤ_trans (floor_quotient l bl) (ceil_quotient l bl) (ceil_quotient g bl) (floor_quotient-le-ceil_quotient l bl p) (ceil_quotient-mono l g bl p u));
    })

pub IsInterval-quotient : (al ah bl bh : ℤ) → al ≤ℤ ah → bl ≤ℤ bh → unsigned_abs al < 2 ^ 94 → unsigned_abs ah < 2 ^ 94 → IsInterval (quotient_of_ends al ah bl bh)
IsInterval-quotient al ah bl bh a b low high = quotient_by (int_le bl (pos 0)) (int_le (pos 0) bh) refl refl where
  quotient_by : (x y : Bool) → int_le bl (pos 0) ≡ x → int_le (pos 0) bh ≡ y → IsInterval (quotient_of_ends al ah bl bh)
  quotient_by false y e f = IsInterval-quotient_by_positive al ah bl bh (grind (arith, ints)) b a low high
  quotient_by true true e f = rw (quotient_of_ends-zero al ah bl bh (grind (arith, ints)) (grind (arith, ints))) IsInterval-All
  quotient_by true false e f =
      let n : bh <ℤ pos 0 = grind (arith, ints) in
      let low' : unsigned_abs (neg_ℤ al) < 2 ^ 94 = rw (unsigned_abs-neg_ℤ al) low in
      let high' : unsigned_abs (neg_ℤ ah) < 2 ^ 94 = rw (unsigned_abs-neg_ℤ ah) high in
      rw (quotient_of_ends-negative al ah bl bh n b low high)
      (IsInterval-quotient_by_positive (neg_ℤ ah) (neg_ℤ al) (neg_ℤ bh) (neg_ℤ bl) (omega (arith, ints)) (omega (arith, ints)) (omega (arith, ints)) high' low')
