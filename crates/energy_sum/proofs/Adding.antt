-- Adding an energy to a sum adds its ends.
use Rattle.std.proofs.Common.{◌≡◌, ℕ, ◌+◌, ◌-◌, ◌<◌, ◌≤◌, ◌^◌, ℤ, pos, negsuc, ◌≤ℤ◌, unsigned_abs, Option, refl, sym, ap, ◌∙◌, subst, arith, lit<, to_z, of_z}
use Rattle.std.specs.Int.{w128}
use Rattle.std.proofs.Math.IntN.{zero-*ℤ}
use Rattle.fix_interval.specs.Units.{unit}
use Rattle.energy_sum.specs.Sums.{units_of}
use Rattle.std.specs.Prelude.{Some, None, IsSomeAnd}
use Rattle.std.proofs.lemmas.Int.{ints}
use Rattle.fix_interval.specs.Interval.{Interval, IsInterval}
use Rattle.fix_interval.specs.Values.{ratio_of, add_of}
use Rattle.fix_interval.proofs.Ratios.{ratio_of-one, passed}
use Rattle.fix_interval.proofs.Multiplying.{end_of-small}

pub added : (a b : ℕ) (x y : ℤ) → pos 0 ≤ℤ x → pos 0 ≤ℤ y → a + unsigned_abs x < 2 ^ 126 → b + unsigned_abs y < 2 ^ 126 → record { lo = Some (pos (a + unsigned_abs x)); hi = Some (pos (b + unsigned_abs y)) } ≡ add_of (record { lo = Some (pos a); hi = Some (pos b) }) (record { lo = Some x; hi = Some y })
unfolding add_of
added a b (pos m) (pos n) h k small fits = rw (end_of-small (pos (a + m)) small, end_of-small (pos (b + n)) fits)
added a b (pos m) (negsuc n) h k small fits = absurd (omega (arith, ints))
added a b (negsuc m) y h k small fits = absurd (omega (arith, ints))

abbrev bounds : Option ℤ → Option ℤ → Interval
bounds lo hi = record { lo = lo; hi = hi }

-- what the ends of two intervals say
record Adds (a b : ℕ) (x y : ℤ) : Type 0 where
  pub from : pos 0 ≤ℤ x
  pub up : pos 0 ≤ℤ y
  pub low : a + unsigned_abs x < 2 ^ 126
  pub high : b + unsigned_abs y < 2 ^ 126
  pub small : unsigned_abs x < 2 ^ 126
  pub fits : unsigned_abs y < 2 ^ 126

adds : (a b : ℕ) (x y : ℤ) → a ≤ b → x ≤ℤ y → pos 0 ≤ℤ x → pos 0 ≤ℤ y → b + unsigned_abs y < 2 ^ 126 → Adds a b x y
adds a b (pos m) (pos n) h k from up below = record { from = from; up = up; low = omega (arith, ints); high = below; small = omega (arith, ints); fits = omega (arith, ints) }
adds a b (pos m) (negsuc n) h k from up below = absurd (omega (arith, ints))
adds a b (negsuc m) y h k from up below = absurd (omega (arith, ints))

made : (a b : ℕ) (lo hi : Option ℤ) (x y : ℤ) → lo ≡ Some x → hi ≡ Some y → IsInterval (record { lo = lo; hi = hi }) → a ≤ b → IsSomeAnd lo (λ z. pos 0 ≤ℤ z) → IsSomeAnd hi (λ z. pos 0 ≤ℤ z) → b + units_of hi < 2 ^ 126 → Adds a b x y
made a b None hi x y lo_is hi_is whole ordered low high below = absurd low
made a b (Some l) None x y lo_is hi_is whole ordered low high below = absurd high
made a b (Some l) (Some h) x y lo_is hi_is whole ordered low high below =
    let first : l ≡ x = cc in let second : h ≡ y = cc in
    subst (Adds a b x) second (subst (λ (z : ℤ). Adds a b z h) first (adds a b l h ordered whole.ordered low high below))

pub added-made : (a b : ℕ) (s e : Interval) (x y : ℤ) → record { lo = Some (pos a); hi = Some (pos b) } ≡ s → e.lo ≡ Some x → e.hi ≡ Some y → IsInterval e → a ≤ b → IsSomeAnd e.lo (λ z. pos 0 ≤ℤ z) → IsSomeAnd e.hi (λ z. pos 0 ≤ℤ z) → units_of s.hi + units_of e.hi < 2 ^ 126 → record { lo = Some (pos (a + unsigned_abs (to_z w128 (of_z w128 x)))); hi = Some (pos (b + unsigned_abs (to_z w128 (of_z w128 y)))) } ≡ add_of s e
added-made a b s e x y is lo_is hi_is whole ordered low high below =
    let parts = made a b e.lo e.hi x y lo_is hi_is whole ordered low high (subst (λ (i : Interval). units_of i.hi + units_of e.hi < 2 ^ 126) (sym is) below) in
    rw (passed x parts.small, passed y parts.fits) (added a b x y parts.from parts.up parts.low parts.high ∙ ap (λ (i : Interval). add_of i (bounds (Some x) (Some y))) is ∙ ap (add_of s) (interval-of e.lo e.hi x y lo_is hi_is))
  where
    interval-of : (lo hi : Option ℤ) (x y : ℤ) → lo ≡ Some x → hi ≡ Some y → bounds (Some x) (Some y) ≡ bounds lo hi
    interval-of lo hi x y p q = ap (λ (o : Option ℤ). bounds o (Some y)) (sym p) ∙ ap (bounds lo) (sym q)

-- what is left of a sum where an energy is taken off: where the energy is added, it is the sum again
pub left-made : (a b : ℕ) (s e : Interval) (x y : ℤ) → record { lo = Some (pos a); hi = Some (pos b) } ≡ s → e.lo ≡ Some x → e.hi ≡ Some y → IsInterval e → a ≤ b → b < 2 ^ 126 → IsSomeAnd e.lo (λ z. pos 0 ≤ℤ z) → IsSomeAnd e.hi (λ z. pos 0 ≤ℤ z) → units_of e.lo ≤ units_of s.lo → units_of s.lo + units_of e.hi ≤ units_of s.hi + units_of e.lo
    → add_of (record { lo = Some (pos (a - unsigned_abs (to_z w128 (of_z w128 x)))); hi = Some (pos (b - unsigned_abs (to_z w128 (of_z w128 y)))) }) e ≡ s
left-made a b s e x y is lo_is hi_is whole ordered bounded low high part left =
    let m_is : units_of e.lo ≡ unsigned_abs x = ap units_of lo_is in
    let n_is : units_of e.hi ≡ unsigned_abs y = ap units_of hi_is in
    let a_is : units_of s.lo ≡ a = ap (λ (i : Interval). units_of i.lo) (sym is) in
    let b_is : units_of s.hi ≡ b = ap (λ (i : Interval). units_of i.hi) (sym is) in
    let m_small : unsigned_abs x < 2 ^ 126 = omega (arith, ordered, bounded, part, m_is, a_is) in
    let n_small : unsigned_abs y < 2 ^ 126 = omega (arith, ordered, bounded, part, left, m_is, n_is, a_is, b_is) in
    let m = unsigned_abs x in
    let n = unsigned_abs y in
    let low_again : a - m + m ≡ a = omega (arith, part, m_is, a_is) in
    let high_again : b - n + n ≡ b = omega (arith, part, left, m_is, n_is, a_is, b_is) in
    let again = added-made (a - m) (b - n) (bounds (Some (pos (a - m))) (Some (pos (b - n)))) e x y refl lo_is hi_is whole (omega (arith, part, left, m_is, n_is, a_is, b_is)) low high (omega (arith, part, left, bounded, m_is, n_is, a_is, b_is)) in
    rw (passed x m_small, passed y n_small)
    (sym (rw (passed x m_small, passed y n_small) at again)
    ∙ ap (λ k. bounds (Some (pos k)) (Some (pos (b - n + n)))) low_again
    ∙ ap (λ k. bounds (Some (pos a)) (Some (pos k))) high_again
    ∙ is)

abbrev point : ℤ → Interval
point z = record { lo = Some z; hi = Some z }

pub zero-is : point (pos 0) ≡ ratio_of (pos 0) 1
zero-is = sym (ratio_of-one (pos 0) (lit< tt) ∙ ap point (zero-*ℤ (pos unit)))
