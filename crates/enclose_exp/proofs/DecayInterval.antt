-- The decay of a whole interval, from those of its ends.
use Rattle.std.proofs.Common.{◌≡◌, ◌^◌, ◌⊎◌, inl, inr, true, refl, sym, arith, ℤ, pos, negsuc, ◌≤ℤ◌, unsigned_abs, Option, Some, None, IsSomeAnd, min, ◌*◌, ap}
use Rattle.std.proofs.lemmas.Int.{ints}
use Rattle.std.specs.Option.{option_map, option_map_or}
use Rattle.std.specs.Prelude.{int_le}
use Rattle.fix_interval.specs.Interval.{Interval, IsInterval}
use Rattle.fix_interval.specs.Powers.{IsAtMostDecay, IsAtLeastDecay}
use Rattle.fix_interval.specs.Rules.{HoldsDecay}
use Rattle.fix_interval.specs.ExpNeg.{exp_neg_low, exp_neg_high, exp_neg_of}
use Rattle.fix_interval.proofs.Widening.{unsigned_abs-mono}
use Rattle.enclose_exp.proofs.DecayLaw.{low_end-law, high_end-law, ends-ordered, exp_neg_high-le, exp_neg_low-past, exp_neg_low-kept, exp_neg_high-kept}

abbrev pub IsNotNegative : Option ℤ → Type 0
IsNotNegative end = IsSomeAnd end (λ x. pos 0 ≤ℤ x)

-- the definition, from 0 on
abbrev pub ends : Option ℤ → Option ℤ → Interval
ends lo hi = record {
  lo = Some (pos (option_map_or (λ z. exp_neg_low (unsigned_abs z)) hi 0));
  hi = option_map (λ z. pos (exp_neg_high (unsigned_abs z))) lo;
}

pub exp_neg_of-ends : (lo hi : Option ℤ) → IsNotNegative lo → exp_neg_of (record { lo = lo; hi = hi }) ≡ ends lo hi
unfolding exp_neg_of
exp_neg_of-ends None hi start = absurd start
exp_neg_of-ends (Some z) hi start = (let e : int_le (pos 0) z ≡ true = grind (arith, ints) in rw e refl)

-- the lower exponent as a natural number
ends-interval : (lo hi : Option ℤ) → IsInterval (record { lo = lo; hi = hi }) → IsNotNegative lo → IsInterval (ends lo hi)
ends-interval None hi i start = absurd start
ends-interval (Some l) None i start =
    let high = exp_neg_high-le (unsigned_abs l) in
    record { low_end = omega arith; high_end = omega (arith, high); ordered = omega (arith, ints) }
ends-interval (Some l) (Some h) i start =
    let high = exp_neg_high-le (unsigned_abs l) in
    let order = ends-ordered (unsigned_abs l) (unsigned_abs h) (unsigned_abs-mono l h start i.ordered) in
    record { low_end = omega (arith, high, order); high_end = omega (arith, high); ordered = omega (arith, ints, order) }

-- the ends against the powers of the two fractions next to e
at_most : (z : ℤ) → pos 0 ≤ℤ z → (pos (exp_neg_low (unsigned_abs z)) ≤ℤ pos 0) ⊎ IsAtMostDecay (pos (exp_neg_low (unsigned_abs z))) z
at_most (pos n) start = elim (low_end-law n) [ inl none ↦ inl (omega (arith, ints, none)) | inr law ↦ inr law ]
at_most (negsuc n) start = absurd (omega (arith, ints, start))

at_least : (z : ℤ) → pos 0 ≤ℤ z → IsAtLeastDecay (pos (exp_neg_high (unsigned_abs z))) z
at_least (pos n) start = high_end-law n
at_least (negsuc n) start = absurd (omega (arith, ints, start))

ends-hold : (lo hi : Option ℤ) → IsInterval (record { lo = lo; hi = hi }) → IsNotNegative lo → HoldsDecay (record { lo = lo; hi = hi }) (ends lo hi)
ends-hold None hi i start = absurd start
ends-hold (Some l) None i start = record { not_negative = start; low = inl (omega (arith, ints)); high = at_least l start }
ends-hold (Some l) (Some h) i start =
    let later : pos 0 ≤ℤ h = (let order = i.ordered in omega (arith, ints)) in
    record { not_negative = start; low = at_most h later; high = at_least l start }

pub exp_neg_of-interval : (i : Interval) → IsInterval i → IsNotNegative i.lo → IsInterval (exp_neg_of i)
exp_neg_of-interval i whole start = rw (exp_neg_of-ends i.lo i.hi start) (ends-interval i.lo i.hi whole start)

pub exp_neg_of-holds : (i : Interval) → IsInterval i → IsNotNegative i.lo → HoldsDecay i (exp_neg_of i)
exp_neg_of-holds i whole start = rw (exp_neg_of-ends i.lo i.hi start) (ends-hold i.lo i.hi whole start)

ends-high : (lo : Option ℤ) → IsNotNegative lo → IsSomeAnd (option_map (λ z. pos (exp_neg_high (unsigned_abs z))) lo) (λ z. z ≤ℤ pos (2 ^ 32))
ends-high None start = absurd start
ends-high (Some l) start = omega (arith, ints, exp_neg_high-le (unsigned_abs l))

pub exp_neg_of-high : (i : Interval) → IsNotNegative i.lo → IsSomeAnd (exp_neg_of i).hi (λ z. z ≤ℤ pos (2 ^ 32))
exp_neg_of-high i start = rw (exp_neg_of-ends i.lo i.hi start) (ends-high i.lo start)

pub exp_neg_of-low : (i : Interval) → IsNotNegative i.lo → IsSomeAnd (exp_neg_of i).lo (λ z. pos 0 ≤ℤ z)
exp_neg_of-low i start = rw (exp_neg_of-ends i.lo i.hi start) (omega (arith, ints))

-- what the code makes
pub made-is : (i : Interval) (low high : Option ℤ) → IsNotNegative i.lo → low ≡ Some (pos (option_map_or (λ z. exp_neg_low (unsigned_abs z)) i.hi 0)) →
    high ≡ option_map (λ z. pos (exp_neg_high (unsigned_abs z))) i.lo → record { lo = low; hi = high } ≡ exp_neg_of i
made-is i low high start below above = rw (below, above) (sym (exp_neg_of-ends i.lo i.hi start))

-- the same by exponents that are kept within 23
pub low-kept : (hi : Option ℤ) → exp_neg_low (option_map_or (λ z. min (unsigned_abs z) (23 * 2 ^ 32)) hi (23 * 2 ^ 32)) ≡ option_map_or (λ z. exp_neg_low (unsigned_abs z)) hi 0
low-kept None = exp_neg_low-past (23 * 2 ^ 32) (omega arith)
low-kept (Some z) = exp_neg_low-kept (unsigned_abs z)

pub high-kept : (lo : Option ℤ) → IsNotNegative lo →
    Some (pos (exp_neg_high (option_map_or (λ z. min (unsigned_abs z) (23 * 2 ^ 32)) lo (23 * 2 ^ 32)))) ≡ option_map (λ z. pos (exp_neg_high (unsigned_abs z))) lo
high-kept None start = absurd start
high-kept (Some z) start = ap (λ n. Some (pos n)) (exp_neg_high-kept (unsigned_abs z))
