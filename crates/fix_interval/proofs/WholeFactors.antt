-- Products and quotients of short ends are those of the table of enclosures.
use Rattle.std.proofs.Common.{◌≡◌, ℕ, suc, ◌-◌, ◌*◌, ◌<◌, ◌^◌, ℤ, pos, negsuc, neg_ℤ, subst, ◌*ℤ◌, ◌≤ℤ◌, unsigned_abs, sym, ap, ◌∙◌, ◌-ℤ◌, to_z, of_z, arith}
use Rattle.std.specs.Prelude.{Some}
use Rattle.std.specs.Int.{w64, w128, int_min, int_max, int_div_euclid}
use Rattle.std.proofs.lemmas.Int.{ints, clamps, unsigned_abs-mul, to_z-of_z, fits_signed_from_abs}
use Rattle.std.proofs.lemmas.Nat.{mul-le}
use Rattle.std.proofs.Math.Nat.{mul_assoc}
use Rattle.fix_interval.specs.Interval.{IsInterval}
use Rattle.fix_interval.specs.Units.{unit}
use Rattle.fix_interval.specs.Round.{floor_of, ceil_of, floor_quotient, ceil_quotient}
use Rattle.fix_interval.specs.Values.{ratio_of, mul_of, div_of, least_of, greatest_of}
use Rattle.fix_interval.proofs.Ratios.{ratio_of-one, units-small, passed}
use Rattle.fix_interval.proofs.Order.{unsigned_abs-neg_ℤ}
use Rattle.fix_interval.proofs.Spans.{unit-pos, units-is}
use Rattle.fix_interval.proofs.Multiplying.{times-mono, end_of-small}
use Rattle.fix_interval.proofs.Dividing.{quotient_of_ends-positive}
use Rattle.fix_interval.proofs.Rounding.{neg_ℤ-*ℤ, floor_of-scaled, ceil_of-scaled, floor_of-one, ceil_of-one, unsigned_abs-floor_of, unsigned_abs-ceil_of, floor_of-mono, floor_of-le-ceil_of}

-- ---- products

least-of-two : (p r : ℤ) → p ≤ℤ r → least_of p p r r ≡ p
least-of-two p r h = omega (arith, ints, clamps)

greatest-of-two : (p r : ℤ) → p ≤ℤ r → greatest_of p p r r ≡ r
greatest-of-two p r h = omega (arith, ints, clamps)

-- a whole number of units, times a short end
factored : (x : ℤ) (n : ℕ) → x *ℤ pos (n * unit) ≡ (x *ℤ pos n) *ℤ pos unit
factored (pos a) n = ap pos (sym (mul_assoc a n unit))
factored (negsuc a) n = sym (neg_ℤ-*ℤ (pos (suc a * n)) unit ∙ ap (λ m. neg_ℤ (pos m)) (mul_assoc (suc a) n unit))

small-factor : (x : ℤ) (n : ℕ) → unsigned_abs x < 2 ^ 62 → n < 2 ^ 32 → unsigned_abs (x *ℤ pos n) < 2 ^ 94
small-factor x n h k = omega (arith, unsigned_abs-mul x (pos n), mul-le (unsigned_abs x) n (2 ^ 62) (2 ^ 32 - 1) (omega arith) (omega arith))

small-product : (x : ℤ) (n : ℕ) → unsigned_abs x < 2 ^ 62 → n < 2 ^ 32 → unsigned_abs ((x *ℤ pos n) *ℤ pos unit) < 2 ^ 126
small-product x n h k = units-small (x *ℤ pos n) (small-factor x n h k)

floor-unit : (z : ℤ) → floor_of (z *ℤ pos unit) unit ≡ z
floor-unit z = subst (λ (m : ℕ). floor_of (z *ℤ pos unit) m ≡ z) (omega arith) (floor_of-scaled z 1 unit (omega arith) unit-pos ∙ floor_of-one z)

ceil-unit : (z : ℤ) → ceil_of (z *ℤ pos unit) unit ≡ z
ceil-unit z = subst (λ (m : ℕ). ceil_of (z *ℤ pos unit) m ≡ z) (omega arith) (ceil_of-scaled z 1 unit (omega arith) unit-pos ∙ ceil_of-one z)

pub product-short : (l h : ℤ) (n : ℕ) → l ≤ℤ h → unsigned_abs l < 2 ^ 62 → unsigned_abs h < 2 ^ 62 → n < 2 ^ 32
    → mul_of (record { lo = Some l; hi = Some h }) (ratio_of (pos n) 1) ≡ record { lo = Some (l *ℤ pos n); hi = Some (h *ℤ pos n) }
unfolding mul_of
product-short l h n ordered low high few =
    let p : ℤ = (l *ℤ pos n) *ℤ pos unit in
    let r : ℤ = (h *ℤ pos n) *ℤ pos unit in
    let order : p ≤ℤ r = times-mono (l *ℤ pos n) (h *ℤ pos n) (pos unit) (omega (arith, ints)) (times-mono l h (pos n) (omega (arith, ints)) ordered) in
    rw (ratio_of-one (pos n) (omega arith), factored l n, factored h n, least-of-two p r order, greatest-of-two p r order, end_of-small p (small-product l n low few), end_of-small r (small-product h n high few), floor-unit (l *ℤ pos n), ceil-unit (h *ℤ pos n))

pub product-interval : (l h : ℤ) (n : ℕ) → l ≤ℤ h → unsigned_abs l < 2 ^ 62 → unsigned_abs h < 2 ^ 62 → n < 2 ^ 32 → IsInterval (record { lo = Some (l *ℤ pos n); hi = Some (h *ℤ pos n) })
product-interval l h n ordered low high few = record {
  low_end = omega (arith, small-factor l n low few);
  high_end = omega (arith, small-factor h n high few);
  ordered = times-mono l h (pos n) (omega (arith, ints)) ordered;
}

-- ---- quotients

same-least : (p : ℤ) → int_min p p ≡ p
same-least p = omega (arith, ints, clamps)

same-greatest : (p : ℤ) → int_max p p ≡ p
same-greatest p = omega (arith, ints, clamps)

pub quotient-short : (l h : ℤ) (n : ℕ) → l ≤ℤ h → unsigned_abs l < 2 ^ 62 → unsigned_abs h < 2 ^ 62 → 0 < n → n < 2 ^ 32
    → div_of (record { lo = Some l; hi = Some h }) (ratio_of (pos n) 1) ≡ record { lo = Some (floor_of l n); hi = Some (ceil_of h n) }
unfolding div_of
quotient-short l h n ordered low high some few =
    let by : ℤ = pos n *ℤ pos unit in
    rw (
      ratio_of-one (pos n) (omega arith),
      quotient_of_ends-positive l h by by (rw (units-is n) (omega (arith, ints))) (omega (arith, ints)) ordered (omega (arith, low)) (omega (arith, high)),
      same-least (floor_quotient (l *ℤ pos unit) by),
      same-greatest (ceil_quotient (h *ℤ pos unit) by),
      floor_of-scaled l n unit some unit-pos,
      ceil_of-scaled h n unit some unit-pos,
    )

pub quotient-interval : (l h : ℤ) (n : ℕ) → l ≤ℤ h → unsigned_abs l < 2 ^ 62 → unsigned_abs h < 2 ^ 62 → 0 < n → IsInterval (record { lo = Some (floor_of l n); hi = Some (ceil_of h n) })
quotient-interval l h n ordered low high some = record {
  low_end = omega (arith, unsigned_abs-floor_of l n some, low);
  high_end = omega (arith, unsigned_abs-ceil_of h n some, high);
  ordered = omega (arith, ints, floor_of-mono l h n some ordered, floor_of-le-ceil_of h n some);
}

-- ---- ends as the code finds them

pub within-64 : (z : ℤ) → unsigned_abs z < 2 ^ 63 → to_z w64 (of_z w64 z) ≡ z
within-64 z h = to_z-of_z w64 z (fits_signed_from_abs w64 z (omega arith))

pub product-found : (x : ℤ) (n : ℕ) (end by : ℤ) → unsigned_abs x < 2 ^ 62 → n < 2 ^ 32 → end ≡ to_z w64 (of_z w64 x) → by ≡ pos n
    → to_z w128 (of_z w128 (to_z w128 (of_z w128 end) *ℤ to_z w128 (of_z w128 by))) ≡ x *ℤ pos n
product-found x n end by small few passes factor =
    let size : unsigned_abs (x *ℤ pos n) < 2 ^ 94 = small-factor x n small few in
    rw (
      passes,
      factor,
      within-64 x (omega (arith, small)),
      passed x (omega (arith, small)),
      passed (pos n) (omega (arith, few)),
      passed (x *ℤ pos n) (omega (arith, size)),
    )

floor-found : (x : ℤ) (n : ℕ) (by q : ℤ) → unsigned_abs x < 2 ^ 62 → n < 2 ^ 32 → by ≡ pos n → q ≡ int_div_euclid (to_z w64 (of_z w64 x)) (to_z w64 (of_z w64 by)) → q ≡ floor_of x n
floor-found x n by q small few divisor is = is ∙ rw (divisor, within-64 x (omega (arith, small)), within-64 (pos n) (omega (arith, few)))

pub low-found : (x : ℤ) (n : ℕ) (by q end : ℤ) → unsigned_abs x < 2 ^ 62 → 0 < n → n < 2 ^ 32 → by ≡ pos n → q ≡ int_div_euclid (to_z w64 (of_z w64 x)) (to_z w64 (of_z w64 by)) → end ≡ to_z w64 (of_z w64 q)
    → to_z w128 (of_z w128 end) ≡ floor_of x n
low-found x n by q end small some few divisor is passes =
    let size : unsigned_abs (floor_of x n) < 2 ^ 62 = omega (arith, unsigned_abs-floor_of x n some, small) in
    rw (passes, floor-found x n by q small few divisor is, within-64 (floor_of x n) (omega (arith, size)), passed (floor_of x n) (omega (arith, size)))

minus : (z : ℤ) → pos 0 -ℤ z ≡ neg_ℤ z
minus z = omega (arith, ints)

pub high-found : (x : ℤ) (n : ℕ) (by q end : ℤ) → unsigned_abs x < 2 ^ 62 → 0 < n → n < 2 ^ 32 → by ≡ pos n
    → q ≡ int_div_euclid (to_z w64 (of_z w64 (pos 0 -ℤ to_z w64 (of_z w64 x)))) (to_z w64 (of_z w64 by)) → end ≡ to_z w64 (of_z w64 (pos 0 -ℤ to_z w64 (of_z w64 q)))
    → to_z w128 (of_z w128 end) ≡ ceil_of x n
high-found x n by q end small some few divisor is passes =
    let back : unsigned_abs (neg_ℤ x) < 2 ^ 62 = omega (arith, unsigned_abs-neg_ℤ x, small) in
    let turned : q ≡ int_div_euclid (to_z w64 (of_z w64 (neg_ℤ x))) (to_z w64 (of_z w64 by)) = is ∙ rw (within-64 x (omega (arith, small)), minus x) in
    let low : unsigned_abs (floor_of (neg_ℤ x) n) < 2 ^ 62 = omega (arith, unsigned_abs-floor_of (neg_ℤ x) n some, back) in
    let high : unsigned_abs (ceil_of x n) < 2 ^ 62 = omega (arith, unsigned_abs-ceil_of x n some, small) in
    rw (
      passes,
      floor-found (neg_ℤ x) n by q back few divisor turned,
      within-64 (floor_of (neg_ℤ x) n) (omega (arith, low)),
      minus (floor_of (neg_ℤ x) n),
      within-64 (ceil_of x n) (omega (arith, high)),
      passed (ceil_of x n) (omega (arith, high)),
    )
