-- What encloses a formula at an interval encloses it at every interval that holds that one.
use Rattle.std.proofs.Common.{◌≡◌, ℕ, suc, ◌*◌, ◌≤◌, ◌^◌, ℤ, pos, negsuc, ◌*ℤ◌, neg_ℤ, ◌≤ℤ◌, arith, refl, inl, inr}
use Rattle.std.specs.Prelude.{unsigned_abs, Option, Some, None, IfSome, IsSomeAnd, ◌⊎◌, unwrap_or}
use Rattle.std.specs.Option.{option_map}
use Rattle.std.specs.Int.{int_max}
use Rattle.std.proofs.Math.Nat.{mul-le-mul, mul-le-mul_left, mul-le-mul_right, le_trans, pow-le-pow_left, pow-le-pow_right, one-le-pow}
use Rattle.std.proofs.lemmas.Int.{ints}
use Rattle.fix_interval.specs.Interval.{Interval, All}
use Rattle.fix_interval.specs.Units.{unit}
use Rattle.fix_interval.specs.Lg.{IsAtMostLg, IsAtLeastLg}
use Rattle.fix_interval.specs.Powers.{IsAtMostDecay, IsAtLeastDecay, exponential_sum}
use Rattle.fix_interval.specs.Rules.{EndMeets, NotAbove, NotBelow, IsAtMostQuotient, IsAtLeastQuotient, exact_sum, Holds, HoldsRatio, HoldsSum, HoldsNegation, HoldsGreater, HoldsLesser, HoldsProduct, HoldsQuotient, HoldsRoot, HoldsLogarithm, HoldsTenPower, HoldsDecay}
use Rattle.fix_interval.specs.Tree.{Tree}
use Rattle.fix_interval.specs.Encloses.{Encloses, everything, known, constant, sum, negation, product, quotient, greater, lesser, square_root, logarithm, ten_power, decay, pick_first, pick_second, pick_both}
use Rattle.fix_interval.proofs.Dividing.{≤ℤ_trans}
use Rattle.fix_interval.proofs.Multiplying.{times-mono, times-anti}

-- ---- ends

meets_lower : (R : ℤ → ℤ → Type 0) (k w x : Option ℤ) → ((l m y : ℤ) → m ≤ℤ l → R l y → R m y) → NotAbove w k → EndMeets R k x → EndMeets R w x
meets_lower R k None x mono h r = tt
meets_lower R None (Some m) x mono h r = absurd h
meets_lower R (Some l) (Some m) None mono h r = r
meets_lower R (Some l) (Some m) (Some y) mono h r = mono l m y h r

meets_higher : (R : ℤ → ℤ → Type 0) (k w x : Option ℤ) → ((l m y : ℤ) → l ≤ℤ m → R l y → R m y) → NotBelow w k → EndMeets R k x → EndMeets R w x
meets_higher R k None x mono h r = tt
meets_higher R None (Some m) x mono h r = absurd h
meets_higher R (Some l) (Some m) None mono h r = r
meets_higher R (Some l) (Some m) (Some y) mono h r = mono l m y h r

some_lower : (P : ℤ → Type 0) (k w : Option ℤ) → ((l m : ℤ) → m ≤ℤ l → P l → P m) → NotAbove w k → IfSome k P → IfSome w P
some_lower P k None mono h p = tt
some_lower P None (Some m) mono h p = absurd h
some_lower P (Some l) (Some m) mono h p = mono l m h p

some_higher : (P : ℤ → Type 0) (k w : Option ℤ) → ((l m : ℤ) → l ≤ℤ m → P l → P m) → NotBelow w k → IfSome k P → IfSome w P
some_higher P k None mono h p = tt
some_higher P None (Some m) mono h p = absurd h
some_higher P (Some l) (Some m) mono h p = mono l m h p

pub NotAbove_trans : (k w x : Option ℤ) → NotAbove w k → NotAbove k x → NotAbove w x
NotAbove_trans k w x h r = meets_lower (λ l y. l ≤ℤ y) k w x (λ l m y. ≤ℤ_trans m l y) h r

pub NotBelow_trans : (k w x : Option ℤ) → NotBelow w k → NotBelow k x → NotBelow w x
NotBelow_trans k w x h r = meets_higher (λ l y. y ≤ℤ l) k w x (λ l m y h r. ≤ℤ_trans y l m r h) h r

-- an end at most 0, or else one of which P holds; P holds of lesser positive ends too
or_lower : (P : ℤ → Type 0) → ((l m : ℤ) → pos 0 ≤ℤ m → m ≤ℤ l → P l → P m) → (l m : ℤ) → m ≤ℤ l → (l ≤ℤ pos 0) ⊎ P l → (m ≤ℤ pos 0) ⊎ P m
or_lower P mono l m h (inl z) = inl (≤ℤ_trans m l (pos 0) h z)
or_lower P mono l (negsuc m) h (inr p) = inl (omega (arith, ints))
or_lower P mono l (pos m) h (inr p) = inr (mono l (pos m) (omega (arith, ints)) h p)

-- ---- powers

one_le_ten : (n : ℕ) → 1 ≤ 10 ^ n
one_le_ten n = one-le-pow n 10 (omega arith)

at_least_once : (c x : ℕ) → 1 ≤ c → x ≤ c * x
at_least_once c x h = omega (arith, mul-le-mul_right x h)

AtMostLg-lower : (l m : ℤ) (n : ℕ) → m ≤ℤ l → IsAtMostLg l n → IsAtMostLg m n
AtMostLg-lower (pos l) (pos m) n h p =
    le_trans (mul-le-mul_right (unit ^ unit) (pow-le-pow_right {n = 10} (omega arith) {i = m} {j = l} (omega (arith, ints)))) p
AtMostLg-lower (pos l) (negsuc m) n h p =
    le_trans (at_least_once (10 ^ l) (unit ^ unit) (one_le_ten l)) (le_trans p (at_least_once (10 ^ suc m) (n ^ unit) (one_le_ten (suc m))))
AtMostLg-lower (negsuc l) (pos m) n h p = absurd (omega (arith, ints))
AtMostLg-lower (negsuc l) (negsuc m) n h p =
    le_trans p (mul-le-mul_right (n ^ unit) (pow-le-pow_right {n = 10} (omega arith) {i = suc l} {j = suc m} (omega (arith, ints))))

AtLeastLg-higher : (l m : ℤ) (n : ℕ) → l ≤ℤ m → IsAtLeastLg l n → IsAtLeastLg m n
AtLeastLg-higher (pos l) (pos m) n h p =
    le_trans p (mul-le-mul_right (unit ^ unit) (pow-le-pow_right {n = 10} (omega arith) {i = l} {j = m} (omega (arith, ints))))
AtLeastLg-higher (negsuc l) (pos m) n h p =
    le_trans (at_least_once (10 ^ suc l) (n ^ unit) (one_le_ten (suc l))) (le_trans p (at_least_once (10 ^ m) (unit ^ unit) (one_le_ten m)))
AtLeastLg-higher (pos l) (negsuc m) n h p = absurd (omega (arith, ints))
AtLeastLg-higher (negsuc l) (negsuc m) n h p =
    le_trans (mul-le-mul_right (n ^ unit) (pow-le-pow_right {n = 10} (omega arith) {i = suc m} {j = suc l} (omega (arith, ints)))) p

-- a lesser number is below the same powers, and a greater one above
AtLeastLg-lesser : (n : ℤ) (x y : ℕ) → y ≤ x → IsAtLeastLg n x → IsAtLeastLg n y
AtLeastLg-lesser (pos n) x y h p = le_trans (pow-le-pow_left h unit) p
AtLeastLg-lesser (negsuc n) x y h p = le_trans (mul-le-mul_left (10 ^ suc n) (pow-le-pow_left h unit)) p

AtMostLg-greater : (n : ℤ) (x y : ℕ) → x ≤ y → IsAtMostLg n x → IsAtMostLg n y
AtMostLg-greater (pos n) x y h p = le_trans p (pow-le-pow_left h unit)
AtMostLg-greater (negsuc n) x y h p = le_trans p (mul-le-mul_left (10 ^ suc n) (pow-le-pow_left h unit))

AtMostDecay-lesser : (n l m : ℤ) → pos 0 ≤ℤ m → m ≤ℤ l → IsAtMostDecay l n → IsAtMostDecay m n
AtMostDecay-lesser (pos n) (pos l) (pos m) z h p =
    le_trans (mul-le-mul_right (suc exponential_sum ^ n) (pow-le-pow_left {n = m} {m = l} (omega (arith, ints)) unit)) p
AtMostDecay-lesser (negsuc n) (pos l) (pos m) z h p = absurd p
AtMostDecay-lesser n (negsuc l) m z h p = absurd p
AtMostDecay-lesser n (pos l) (negsuc m) z h p = absurd (omega (arith, ints))

AtLeastDecay-greater : (l m n : ℤ) → l ≤ℤ m → IsAtLeastDecay l n → IsAtLeastDecay m n
AtLeastDecay-greater (pos l) (pos m) (pos n) h p =
    le_trans p (mul-le-mul_right (exponential_sum ^ n) (pow-le-pow_left {n = l} {m = m} (omega (arith, ints)) unit))
AtLeastDecay-greater (pos l) (pos m) (negsuc n) h p = absurd p
AtLeastDecay-greater (negsuc l) m n h p = absurd p
AtLeastDecay-greater (pos l) (negsuc m) n h p = absurd (omega (arith, ints))

-- ---- quotients and squares

pub AtMostQuotient-lower : (n y l m : ℤ) → m ≤ℤ l → IsAtMostQuotient l n y → IsAtMostQuotient m n y
AtMostQuotient-lower n (pos d) l m h p = ≤ℤ_trans (m *ℤ pos d) (l *ℤ pos d) n (times-mono m l (pos d) (omega (arith, ints)) h) p
AtMostQuotient-lower n (negsuc d) l m h p = ≤ℤ_trans n (l *ℤ negsuc d) (m *ℤ negsuc d) p (times-anti m l (negsuc d) (omega (arith, ints)) h)

pub AtLeastQuotient-higher : (n y l m : ℤ) → l ≤ℤ m → IsAtLeastQuotient l n y → IsAtLeastQuotient m n y
AtLeastQuotient-higher n (pos d) l m h p = ≤ℤ_trans n (l *ℤ pos d) (m *ℤ pos d) p (times-mono l m (pos d) (omega (arith, ints)) h)
AtLeastQuotient-higher n (negsuc d) l m h p = ≤ℤ_trans (m *ℤ negsuc d) (l *ℤ negsuc d) n (times-anti l m (negsuc d) (omega (arith, ints)) h) p

square-mono : (l m : ℤ) → pos 0 ≤ℤ l → l ≤ℤ m → (l *ℤ l) ≤ℤ (m *ℤ m)
square-mono (pos l) (pos m) z h = omega (arith, ints, mul-le-mul {n₁ = l} {m₁ = l} {n₂ = m} {m₂ = m} (omega (arith, ints)) (omega (arith, ints)))
square-mono (pos l) (negsuc m) z h = absurd (omega (arith, ints))
square-mono (negsuc l) m z h = absurd (omega (arith, ints))

pub unsigned_abs-mono : (l m : ℤ) → pos 0 ≤ℤ l → l ≤ℤ m → unsigned_abs l ≤ unsigned_abs m
unsigned_abs-mono l m z h = omega (arith, ints)

times_pos : (l m : ℤ) (d : ℕ) → l ≤ℤ m → (l *ℤ pos d) ≤ℤ (m *ℤ pos d)
times_pos l m d h = times-mono l m (pos d) (omega (arith, ints)) h

-- ---- rule by rule

Holds-wider : (i k w : Interval) → Holds k w → Holds i k → Holds i w
Holds-wider i k w h r = record {
  low = NotAbove_trans k.lo w.lo i.lo h.low r.low;
  high = NotBelow_trans k.hi w.hi i.hi h.high r.high;
}

HoldsRatio-wider : (p : ℤ) (q : ℕ) (k w : Interval) → Holds k w → HoldsRatio p q k → HoldsRatio p q w
HoldsRatio-wider p q k w h r = record {
  low = some_lower (λ l. (l *ℤ pos q) ≤ℤ (p *ℤ pos unit)) k.lo w.lo (λ l m o s. ≤ℤ_trans (m *ℤ pos q) (l *ℤ pos q) (p *ℤ pos unit) (times_pos m l q o) s) h.low r.low;
  high = some_higher (λ l. (p *ℤ pos unit) ≤ℤ (l *ℤ pos q)) k.hi w.hi (λ l m o s. ≤ℤ_trans (p *ℤ pos unit) (l *ℤ pos q) (m *ℤ pos q) s (times_pos l m q o)) h.high r.high;
}

HoldsSum-wider : (i j k w : Interval) → Holds k w → HoldsSum i j k → HoldsSum i j w
HoldsSum-wider i j k w h r = record {
  low = NotAbove_trans k.lo w.lo (exact_sum i.lo j.lo) h.low r.low;
  high = NotBelow_trans k.hi w.hi (exact_sum i.hi j.hi) h.high r.high;
}

HoldsNegation-wider : (i k w : Interval) → Holds k w → HoldsNegation i k → HoldsNegation i w
HoldsNegation-wider i k w h r = record {
  low = NotAbove_trans k.lo w.lo (option_map neg_ℤ i.hi) h.low r.low;
  high = NotBelow_trans k.hi w.hi (option_map neg_ℤ i.lo) h.high r.high;
}

either_low : (k w x y : Option ℤ) → NotAbove w k → NotAbove k x ⊎ NotAbove k y → NotAbove w x ⊎ NotAbove w y
either_low k w x y h (inl r) = inl (NotAbove_trans k w x h r)
either_low k w x y h (inr r) = inr (NotAbove_trans k w y h r)

either_high : (k w x y : Option ℤ) → NotBelow w k → NotBelow k x ⊎ NotBelow k y → NotBelow w x ⊎ NotBelow w y
either_high k w x y h (inl r) = inl (NotBelow_trans k w x h r)
either_high k w x y h (inr r) = inr (NotBelow_trans k w y h r)

HoldsGreater-wider : (i j k w : Interval) → Holds k w → HoldsGreater i j k → HoldsGreater i j w
HoldsGreater-wider i j k w h r = record {
  low = either_low k.lo w.lo i.lo j.lo h.low r.low;
  high = (NotBelow_trans k.hi w.hi i.hi h.high r.high.0, NotBelow_trans k.hi w.hi j.hi h.high r.high.1);
}

HoldsLesser-wider : (i j k w : Interval) → Holds k w → HoldsLesser i j k → HoldsLesser i j w
HoldsLesser-wider i j k w h r = record {
  low = (NotAbove_trans k.lo w.lo i.lo h.low r.low.0, NotAbove_trans k.lo w.lo j.lo h.low r.low.1);
  high = either_high k.hi w.hi i.hi j.hi h.high r.high;
}

HoldsProduct-wider : (i j k w : Interval) → Holds k w → HoldsProduct i j k → HoldsProduct i j w
HoldsProduct-wider i j k w h r = record {
  first_bounded = r.first_bounded;
  second_bounded = r.second_bounded;
  low = λ x y a b. some_lower (λ l. (l *ℤ pos unit) ≤ℤ (x *ℤ y)) k.lo w.lo (λ l m o s. ≤ℤ_trans (m *ℤ pos unit) (l *ℤ pos unit) (x *ℤ y) (times_pos m l unit o) s) h.low (r.low x y a b);
  high = λ x y a b. some_higher (λ l. (x *ℤ y) ≤ℤ (l *ℤ pos unit)) k.hi w.hi (λ l m o s. ≤ℤ_trans (x *ℤ y) (l *ℤ pos unit) (m *ℤ pos unit) s (times_pos l m unit o)) h.high (r.high x y a b);
}

HoldsQuotient-wider : (i j k w : Interval) → Holds k w → HoldsQuotient i j k → HoldsQuotient i j w
HoldsQuotient-wider i j k w h r = record {
  dividend_bounded = r.dividend_bounded;
  divisor_bounded = r.divisor_bounded;
  apart_from_zero = r.apart_from_zero;
  low = λ x y a b. some_lower (λ l. IsAtMostQuotient l (x *ℤ pos unit) y) k.lo w.lo (λ l m. AtMostQuotient-lower (x *ℤ pos unit) y l m) h.low (r.low x y a b);
  high = λ x y a b. some_higher (λ l. IsAtLeastQuotient l (x *ℤ pos unit) y) k.hi w.hi (λ l m. AtLeastQuotient-higher (x *ℤ pos unit) y l m) h.high (r.high x y a b);
}

square_lower : (n l m : ℤ) → pos 0 ≤ℤ m → m ≤ℤ l → (l *ℤ l) ≤ℤ n → (m *ℤ m) ≤ℤ n
square_lower n l m z o s = ≤ℤ_trans (m *ℤ m) (l *ℤ l) n (square-mono m l z o) s

square_higher : (l m x : ℤ) → l ≤ℤ m → (pos 0 ≤ℤ l) × ((x *ℤ pos unit) ≤ℤ (l *ℤ l)) → (pos 0 ≤ℤ m) × ((x *ℤ pos unit) ≤ℤ (m *ℤ m))
square_higher l m x o (z, s) = (≤ℤ_trans (pos 0) l m z o, ≤ℤ_trans (x *ℤ pos unit) (l *ℤ l) (m *ℤ m) s (square-mono l m z o))

HoldsRoot-wider : (i k w : Interval) → Holds k w → HoldsRoot i k → HoldsRoot i w
HoldsRoot-wider i k w h r =
    let n : ℤ = int_max (unwrap_or i.lo (pos 0)) (pos 0) *ℤ pos unit in
    record {
      not_negative = r.not_negative;
      low = some_lower (λ l. (l ≤ℤ pos 0) ⊎ (l *ℤ l) ≤ℤ n) k.lo w.lo (or_lower (λ l. (l *ℤ l) ≤ℤ n) (square_lower n)) h.low r.low;
      high = meets_higher (λ l x. (pos 0 ≤ℤ l) × ((x *ℤ pos unit) ≤ℤ (l *ℤ l))) k.hi w.hi i.hi square_higher h.high r.high;
    }

HoldsLogarithm-wider : (i k w : Interval) → Holds k w → HoldsLogarithm i k → HoldsLogarithm i w
HoldsLogarithm-wider i k w h r = record {
  positive = r.positive;
  low = meets_lower (λ l x. IsAtMostLg l (unsigned_abs x)) k.lo w.lo i.lo (λ l m x. AtMostLg-lower l m (unsigned_abs x)) h.low r.low;
  high = meets_higher (λ l x. IsAtLeastLg l (unsigned_abs x)) k.hi w.hi i.hi (λ l m x. AtLeastLg-higher l m (unsigned_abs x)) h.high r.high;
}

some_power : (x : Option ℤ) (l m : ℤ) → pos 0 ≤ℤ m → m ≤ℤ l → IsSomeAnd x (λ n. IsAtLeastLg n (unsigned_abs l)) → IsSomeAnd x (λ n. IsAtLeastLg n (unsigned_abs m))
some_power None l m z o p = p
some_power (Some n) l m z o p = AtLeastLg-lesser n (unsigned_abs l) (unsigned_abs m) (unsigned_abs-mono m l z o) p

HoldsTenPower-wider : (i k w : Interval) → Holds k w → HoldsTenPower i k → HoldsTenPower i w
HoldsTenPower-wider i k w h r = record {
  low = some_lower (λ l. (l ≤ℤ pos 0) ⊎ IsSomeAnd i.lo (λ n. IsAtLeastLg n (unsigned_abs l))) k.lo w.lo
      (or_lower (λ l. IsSomeAnd i.lo (λ n. IsAtLeastLg n (unsigned_abs l))) (some_power i.lo)) h.low r.low;
  high = meets_higher (λ l n. (pos 0 ≤ℤ l) × IsAtMostLg n (unsigned_abs l)) k.hi w.hi i.hi
      (λ l m n o p. (≤ℤ_trans (pos 0) l m p.0 o, AtMostLg-greater n (unsigned_abs l) (unsigned_abs m) (unsigned_abs-mono l m p.0 o) p.1)) h.high r.high;
}

some_decay : (x : Option ℤ) (l m : ℤ) → pos 0 ≤ℤ m → m ≤ℤ l → IsSomeAnd x (λ n. IsAtMostDecay l n) → IsSomeAnd x (λ n. IsAtMostDecay m n)
some_decay None l m z o p = p
some_decay (Some n) l m z o p = AtMostDecay-lesser n l m z o p

HoldsDecay-wider : (i k w : Interval) → Holds k w → HoldsDecay i k → HoldsDecay i w
HoldsDecay-wider i k w h r = record {
  not_negative = r.not_negative;
  low = some_lower (λ l. (l ≤ℤ pos 0) ⊎ IsSomeAnd i.hi (λ n. IsAtMostDecay l n)) k.lo w.lo
      (or_lower (λ l. IsSomeAnd i.hi (λ n. IsAtMostDecay l n)) (some_decay i.hi)) h.low r.low;
  high = meets_higher IsAtLeastDecay k.hi w.hi i.lo AtLeastDecay-greater h.high r.high;
}

-- ---- all rules

All-wider : (w : Interval) → Holds All w → w ≡ All
All-wider w h = All_of w.lo w.hi h.low h.high where
  All_of : (lo hi : Option ℤ) → NotAbove lo None → NotBelow hi None → ◌≡◌ {A = Interval} (record { lo = lo; hi = hi }) All
  All_of None None l g = refl
  All_of (Some l) hi p g = absurd p
  All_of None (Some g) l p = absurd p

pub Encloses-wider : (t : Tree) (k w : Interval) → Encloses t k → Holds k w → Encloses t w
Encloses-wider t k w everything h = rw (All-wider w h) everything
Encloses-wider t k w (known {i} r) h = known (Holds-wider i k w h r)
Encloses-wider t k w (constant {p} {q} r) h = constant (HoldsRatio-wider p q k w h r)
Encloses-wider t k w (sum {a} {b} {i} {j} x y r) h = sum x y (HoldsSum-wider i j k w h r)
Encloses-wider t k w (negation {a} {i} x r) h = negation x (HoldsNegation-wider i k w h r)
Encloses-wider t k w (product {a} {b} {i} {j} x y r) h = product x y (HoldsProduct-wider i j k w h r)
Encloses-wider t k w (quotient {a} {b} {i} {j} x y r) h = quotient x y (HoldsQuotient-wider i j k w h r)
Encloses-wider t k w (greater {a} {b} {i} {j} x y r) h = greater x y (HoldsGreater-wider i j k w h r)
Encloses-wider t k w (lesser {a} {b} {i} {j} x y r) h = lesser x y (HoldsLesser-wider i j k w h r)
Encloses-wider t k w (square_root {a} {i} x r) h = square_root x (HoldsRoot-wider i k w h r)
Encloses-wider t k w (logarithm {a} {i} x r) h = logarithm x (HoldsLogarithm-wider i k w h r)
Encloses-wider t k w (ten_power {a} {i} x r) h = ten_power x (HoldsTenPower-wider i k w h r)
Encloses-wider t k w (decay {a} {i} x r) h = decay x (HoldsDecay-wider i k w h r)
Encloses-wider t k w (pick_first {x} {y} {a} {b} p q e r) h = pick_first p q e (Encloses-wider a k w r h)
Encloses-wider t k w (pick_second {x} {y} {a} {b} p q e r) h = pick_second p q e (Encloses-wider b k w r h)
Encloses-wider t k w (pick_both {x} {y} {a} {b} p q e r s) h = pick_both p q e (Encloses-wider a k w r h) (Encloses-wider b k w s h)
