-- Lemmas on the order of whole numbers, and on the least and the greatest of some.
use Rattle.std.proofs.Common.{◌≡◌, ℤ, neg_ℤ, ◌≤ℤ◌, arith}
use Rattle.std.specs.Prelude.{int_lt, unsigned_abs, true, false, if◌then◌else◌}
use Rattle.std.specs.Int.{int_min, int_max}
use Rattle.std.proofs.lemmas.Int.{ints, clamps}

-- what holds of two numbers holds of the greater and of the lesser
pub int_max-keeps : (P : ℤ → Type 0) (x y : ℤ) → P x → P y → P (int_max x y)
int_max-keeps P x y h k = elim (int_lt y x) as (λ b. P (if b then x else y)) [ true ↦ h | false ↦ k ]

pub int_min-keeps : (P : ℤ → Type 0) (x y : ℤ) → P x → P y → P (int_min x y)
int_min-keeps P x y h k = elim (int_lt y x) as (λ b. P (if b then y else x)) [ true ↦ k | false ↦ h ]

pub int_max-mono : (x y z w : ℤ) → x ≤ℤ z → y ≤ℤ w → int_max x y ≤ℤ int_max z w
int_max-mono x y z w h k = omega (arith, ints, clamps)

pub int_min-mono : (x y z w : ℤ) → x ≤ℤ z → y ≤ℤ w → int_min x y ≤ℤ int_min z w
int_min-mono x y z w h k = omega (arith, ints, clamps)

pub neg_ℤ-mono : (x y : ℤ) → x ≤ℤ y → neg_ℤ y ≤ℤ neg_ℤ x
neg_ℤ-mono x y h = omega (arith, ints)

pub unsigned_abs-neg_ℤ : (z : ℤ) → unsigned_abs (neg_ℤ z) ≡ unsigned_abs z
unsigned_abs-neg_ℤ z = omega (arith, ints)
