-- Powers of ten with a signed exponent: a power of ten that is moved to the other side of an inequality.
use Rattle.std.proofs.Common.{◌≡◌, ℕ, suc, ◌+◌, ◌-◌, ◌*◌, ◌^◌, ◌≤◌, inl, inr, ap, ◌∙◌, arith, pos, negsuc, ◌-ℤ◌}
use Rattle.std.proofs.lemmas.Int.{ints}
use Rattle.std.proofs.lemmas.Bool.{cases_lt}
use Rattle.std.proofs.lemmas.Nat.{pow-add}
use Rattle.std.proofs.Math.Nat.{one-le-pow, le_of_mul-le-mul_left}
use Rattle.fix_interval.specs.Units.{unit}
use Rattle.fix_interval.specs.Lg.{IsAtMostLg, IsAtLeastLg}

-- how two exponents differ, and their powers of ten
data Difference (s t : ℕ) : Type 0 where
  below : (k : ℕ) → pos s -ℤ pos t ≡ negsuc k → 10 ^ t ≡ 10 ^ s * 10 ^ suc k → Difference s t
  above : (k : ℕ) → pos s -ℤ pos t ≡ pos k → 10 ^ s ≡ 10 ^ t * 10 ^ k → Difference s t

difference : (s t : ℕ) → Difference s t
difference s t =
    elim (cases_lt s t) [
      | inl less ↦ (let parts : t ≡ s + suc (t - s - 1) = omega arith in
          below (t - s - 1) (omega (arith, ints)) (ap (λ i. 10 ^ i) parts ∙ pow-add 10 s (suc (t - s - 1))))
      | inr more ↦ (let parts : s ≡ t + (s - t) = omega arith in
          above (s - t) (omega (arith, ints)) (ap (λ i. 10 ^ i) parts ∙ pow-add 10 t (s - t)))
    ]

positive : (s : ℕ) → 1 ≤ 10 ^ s
positive s = one-le-pow s 10 (omega arith)

pub at_most-shifted : (s t n : ℕ) → 10 ^ s * unit ^ unit ≤ 10 ^ t * n ^ unit → IsAtMostLg (pos s -ℤ pos t) n
at_most-shifted s t n h = elim (difference s t) [
  | below k is power ↦ rw is (le_of_mul-le-mul_left {k = 10 ^ s} (omega (arith, rw power at h)) (positive s))
  | above k is power ↦ rw is (le_of_mul-le-mul_left {k = 10 ^ t} (omega (arith, rw power at h)) (positive t))
]

pub at_least-shifted : (s t n : ℕ) → 10 ^ t * n ^ unit ≤ 10 ^ s * unit ^ unit → IsAtLeastLg (pos s -ℤ pos t) n
at_least-shifted s t n h = elim (difference s t) [
  | below k is power ↦ rw is (le_of_mul-le-mul_left {k = 10 ^ s} (omega (arith, rw power at h)) (positive s))
  | above k is power ↦ rw is (le_of_mul-le-mul_left {k = 10 ^ t} (omega (arith, rw power at h)) (positive t))
]
