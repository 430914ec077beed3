-- Lemmas on the interval of a fraction.
use Rattle.std.proofs.Common.{◌≡◌, ℕ, ◌<◌, ◌≤◌, ◌^◌, ℤ, pos, ◌*ℤ◌, arith, sym, ap, ◌∙◌, ◌*◌, ◌/◌, ◌%◌, true, false, to_z, of_z}
use Rattle.std.specs.Prelude.{unsigned_abs, Some, nat_lt}
use Rattle.std.proofs.lemmas.Int.{unsigned_abs-mul, to_z-of_z, fits_signed_from_abs}
use Rattle.std.specs.Int.{w128}
use Rattle.std.proofs.Math.Nat.{div-add-mod'}
use Rattle.fix_interval.specs.Interval.{All, IsInterval}
use Rattle.fix_interval.specs.Units.{unit, unit-is}
use Rattle.fix_interval.specs.Round.{floor_of, ceil_of}
use Rattle.fix_interval.specs.Values.{ratio_of}
use Rattle.std.proofs.Common.{inl, inr}
use Rattle.std.specs.Prelude.{◌⊎◌}
use Rattle.std.proofs.lemmas.Bool.{cases_lt}
use Rattle.fix_interval.proofs.Intervals.{IsInterval-All}
use Rattle.fix_interval.proofs.Rounding.{floor_of-scaled, ceil_of-scaled, floor_of-one, ceil_of-one, floor_of-le-ceil_of, unsigned_abs-floor_of, unsigned_abs-ceil_of}

pub nat_lt-yes : (a b : ℕ) → a < b → nat_lt a b ≡ true
nat_lt-yes a b h = grind arith

pub nat_lt-no : (a b : ℕ) → b ≤ a → nat_lt a b ≡ false
nat_lt-no a b h = grind arith

pub ratio_of-small : (p : ℤ) (q : ℕ) → unsigned_abs p < 2 ^ 94 → ratio_of p q ≡ record { lo = Some (floor_of (p *ℤ pos unit) q); hi = Some (ceil_of (p *ℤ pos unit) q) }
unfolding ratio_of
ratio_of-small p q h = rw (nat_lt-yes (unsigned_abs p) (2 ^ 94) h)

pub ratio_of-large : (p : ℤ) (q : ℕ) → 2 ^ 94 ≤ unsigned_abs p → ratio_of p q ≡ All
unfolding ratio_of
ratio_of-large p q h = rw (nat_lt-no (unsigned_abs p) (2 ^ 94) h)

pub ratio_of-one : (n : ℤ) → unsigned_abs n < 2 ^ 94 → ratio_of n 1 ≡ record { lo = Some (n *ℤ pos unit); hi = Some (n *ℤ pos unit) }
ratio_of-one n h = rw (ratio_of-small n 1 h, floor_of-one (n *ℤ pos unit), ceil_of-one (n *ℤ pos unit))

-- ---- the ends

pub unsigned_abs-units : (p : ℤ) → unsigned_abs (p *ℤ pos unit) ≡ unsigned_abs p * 2 ^ 32
unsigned_abs-units p = rw (unsigned_abs-mul p (pos unit), unit-is)

pub units-small : (p : ℤ) → unsigned_abs p < 2 ^ 94 → unsigned_abs (p *ℤ pos unit) < 2 ^ 126
units-small p h = omega (arith, unsigned_abs-units p)

pub IsInterval-fraction : (p : ℤ) (q : ℕ) → unsigned_abs p < 2 ^ 94 → 0 < q → IsInterval (record { lo = Some (floor_of (p *ℤ pos unit) q); hi = Some (ceil_of (p *ℤ pos unit) q) })
IsInterval-fraction p q small h = record {
  low_end = omega (arith, units-small p small, unsigned_abs-floor_of (p *ℤ pos unit) q h);
  high_end = omega (arith, units-small p small, unsigned_abs-ceil_of (p *ℤ pos unit) q h);
  ordered = floor_of-le-ceil_of (p *ℤ pos unit) q h;
}

-- ends as the code passes them
pub passed : (z : ℤ) → unsigned_abs z < 2 ^ 126 → to_z w128 (of_z w128 z) ≡ z
passed z h = to_z-of_z w128 z (fits_signed_from_abs w128 z (omega arith))

pub fraction_is : (p : ℤ) (q : ℕ) (n l h : ℤ) → unsigned_abs p < 2 ^ 94 → 0 < q → n ≡ p *ℤ pos unit → l ≡ floor_of n q → h ≡ ceil_of n q → record { lo = Some (to_z w128 (of_z w128 l)); hi = Some (to_z w128 (of_z w128 h)) } ≡ ratio_of p q
fraction_is p q n l h small positive e low high =
    let i : IsInterval (record { lo = Some (floor_of (p *ℤ pos unit) q); hi = Some (ceil_of (p *ℤ pos unit) q) }) = IsInterval-fraction p q small positive in
    rw (low, high, e, passed (floor_of (p *ℤ pos unit) q) i.low_end, passed (ceil_of (p *ℤ pos unit) q) i.high_end) (sym (ratio_of-small p q small))

pub IsInterval-ratio_of : (p : ℤ) (q : ℕ) → unsigned_abs p < 2 ^ 94 → 0 < q → IsInterval (ratio_of p q)
IsInterval-ratio_of p q small h = rw (ratio_of-small p q small) (IsInterval-fraction p q small h)

pub IsInterval-Const : (p : ℤ) (q : ℕ) → 0 < q → IsInterval (ratio_of p q)
IsInterval-Const p q h = const_by (cases_lt (unsigned_abs p) (2 ^ 94)) where
  const_by : (unsigned_abs p < 2 ^ 94) ⊎ (2 ^ 94 ≤ unsigned_abs p) → IsInterval (ratio_of p q)
  const_by (inl k) = IsInterval-ratio_of p q k h
  const_by (inr k) = rw (ratio_of-large p q k) IsInterval-All

-- ---- a divisor that is a whole number of units

whole_divisor : (d : ℕ) → d % 2 ^ 32 ≡ 0 → d / 2 ^ 32 * 2 ^ 32 ≡ d
whole_divisor d h = omega (arith, div-add-mod' d (2 ^ 32))

pub floor_of-whole : (x y : ℤ) (d e : ℕ) → y ≡ x → e ≡ d / 2 ^ 32 → d % 2 ^ 32 ≡ 0 → 0 < d → floor_of y e ≡ floor_of (x *ℤ pos unit) d
floor_of-whole x y d e same divisor whole h =
    rw (same, divisor, unit-is)
    (sym (floor_of-scaled x (d / 2 ^ 32) (2 ^ 32) (omega (arith, whole_divisor d whole)) (omega arith))
    ∙ ap (λ (n : ℕ). floor_of (x *ℤ pos (2 ^ 32)) n) (whole_divisor d whole))

pub ceil_of-whole : (x y : ℤ) (d e : ℕ) → y ≡ x → e ≡ d / 2 ^ 32 → d % 2 ^ 32 ≡ 0 → 0 < d → ceil_of y e ≡ ceil_of (x *ℤ pos unit) d
ceil_of-whole x y d e same divisor whole h =
    rw (same, divisor, unit-is)
    (sym (ceil_of-scaled x (d / 2 ^ 32) (2 ^ 32) (omega (arith, whole_divisor d whole)) (omega arith))
    ∙ ap (λ (n : ℕ). ceil_of (x *ℤ pos (2 ^ 32)) n) (whole_divisor d whole))
