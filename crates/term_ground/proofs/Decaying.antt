-- What is negated in an exponent isn't negative.
use Rattle.std.proofs.Common.{◌≡◌, ℕ, ◌*◌, ◌<◌, ◌^◌, ℤ, pos, negsuc, ◌*ℤ◌, ◌≤ℤ◌, ◌<ℤ◌, unsigned_abs, refl, sym, ap, ◌∙◌, subst, arith}
use Rattle.std.specs.Prelude.{IsSomeAnd}
use Rattle.std.proofs.lemmas.Int.{ints}
use Rattle.fix_interval.specs.Units.{unit}
use Rattle.fix_interval.specs.Interval.{Interval}
use Rattle.fix_interval.specs.Round.{ceil_of, floor_quotient}
use Rattle.fix_interval.specs.Values.{ratio_of, mul_of, div_of, quotient_of_ends}
use Rattle.fix_interval.proofs.Ratios.{ratio_of-small, ratio_of-one}
use Rattle.fix_interval.proofs.Ends.{on_ends-bounded}
use Rattle.fix_interval.proofs.Order.{int_min-keeps}
use Rattle.fix_interval.proofs.Dividing.{quotient_of_ends-positive, ≤ℤ_trans}
use Rattle.fix_interval.proofs.Spans.{Span, Within, span-mul, span-exact, units-is}

IsNotNegative : ℤ → Type 0
IsNotNegative z = pos 0 ≤ℤ z

-- a fraction
pub ratio-low : (p q : ℕ) → p < 2 ^ 94 → IsSomeAnd (ratio_of (pos p) q).lo (λ z. pos 0 ≤ℤ z)
ratio-low p q h = rw (ratio_of-small (pos p) q h) (omega (arith, ints))

-- a quotient by a whole number
below_94 : (limit : ℕ) (x : ℤ) → limit < 2 ^ 94 → Within (pos limit) x → unsigned_abs x < 2 ^ 94
below_94 limit (pos n) h w = omega (arith, ints, w.1)
below_94 limit (negsuc n) h w = absurd (omega (arith, ints, w.0))

floor-low : (x d : ℤ) → pos 0 <ℤ d → pos 0 ≤ℤ x → pos 0 ≤ℤ floor_quotient (x *ℤ pos unit) d
floor-low (pos n) (pos d) positive h = omega (arith, ints)
floor-low (pos n) (negsuc d) positive h = absurd (omega (arith, ints))
floor-low (negsuc n) d positive h = absurd (omega (arith, ints))

pub div-low : (i : Interval) (limit n : ℕ) → Span (pos limit) i → limit < 2 ^ 94 → 0 < n → n < 2 ^ 60 → IsSomeAnd (div_of i (ratio_of (pos n) 1)).lo (λ z. pos 0 ≤ℤ z)
unfolding div_of
div-low i limit n span small positive few =
    let by = ratio_of-one (pos n) (omega arith) in
    let d : ℤ = pos n *ℤ pos unit in
    let above : pos 0 <ℤ (pos n *ℤ pos unit) = rw (units-is n) (omega (arith, ints)) in
    let low : Within (pos limit) span.lo = (span.not_negative, ≤ℤ_trans span.lo span.hi (pos limit) span.ordered span.below) in
    let high : Within (pos limit) span.hi = (≤ℤ_trans (pos 0) span.lo span.hi span.not_negative span.ordered, span.below) in
    let ends = on_ends-bounded quotient_of_ends i (ratio_of (pos n) 1) span.lo span.hi (pos n *ℤ pos unit) (pos n *ℤ pos unit) (span.lo_is, span.hi_is) (ap (λ (k : Interval). k.lo) by, ap (λ (k : Interval). k.hi) by) in
    let found = quotient_of_ends-positive span.lo span.hi (pos n *ℤ pos unit) (pos n *ℤ pos unit) above (omega (arith, ints)) span.ordered (below_94 limit span.lo small low) (below_94 limit span.hi small high) in
    let bound = floor-low span.lo (pos n *ℤ pos unit) above span.not_negative in
    subst (λ (k : Interval). IsSomeAnd k.lo (λ z. pos 0 ≤ℤ z)) (sym (ends ∙ found))
    (int_min-keeps (λ z. pos 0 ≤ℤ z) (floor_quotient (span.lo *ℤ pos unit) (pos n *ℤ pos unit)) (floor_quotient (span.lo *ℤ pos unit) (pos n *ℤ pos unit)) bound bound)

-- ---- the exponents of the growths

pub near-low : (dp : Interval) → Span (pos (2 ^ 56)) dp → IsSomeAnd (div_of dp (ratio_of (pos 50) 1)).lo (λ z. pos 0 ≤ℤ z)
near-low dp span = div-low dp (2 ^ 56) 50 span (omega arith) (omega arith) (omega arith)

square-limit : ceil_of (pos (2 ^ 56) *ℤ pos (2 ^ 56)) unit ≡ pos (2 ^ 80)
unfolding unit
square-limit = refl

product-limit : ceil_of (pos (2 ^ 80) *ℤ pos (28 * 2 ^ 32)) unit ≡ pos (28 * 2 ^ 80)
unfolding unit
product-limit = refl

pub far-low : (dp : Interval) → Span (pos (2 ^ 56)) dp → IsSomeAnd (div_of (mul_of (mul_of dp dp) (ratio_of (pos 28) 1)) (ratio_of (pos 10000000) 1)).lo (λ z. pos 0 ≤ℤ z)
far-low dp span =
    let square = subst (λ (z : ℤ). Span z (mul_of dp dp)) square-limit (span-mul dp dp (pos (2 ^ 56)) (pos (2 ^ 56)) span span (omega (arith, ints))) in
    let product = span-mul (mul_of dp dp) (ratio_of (pos 28) 1) (pos (2 ^ 80)) (pos (28 * 2 ^ 32)) square (span-exact 28 (pos (28 * 2 ^ 32)) (omega arith) (omega (arith, ints))) (omega (arith, ints)) in
    div-low (mul_of (mul_of dp dp) (ratio_of (pos 28) 1)) (28 * 2 ^ 80) 10000000 (subst (λ (z : ℤ). Span z (mul_of (mul_of dp dp) (ratio_of (pos 28) 1))) product-limit product) (omega arith) (omega arith) (omega arith)
