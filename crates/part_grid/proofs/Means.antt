-- Weighted means, and the lines of cells in which they lie.
use Rattle.std.proofs.Common.{◌≡◌, ℕ, ◌+◌, ◌-◌, ◌*◌, ◌/◌, ◌<◌, ◌≤◌, min, max, refl, sym, ap, subst, inl, inr, arith, add_comm, mul_comm}
use Rattle.std.proofs.Math.Nat.{mul-le-mul_left, mul-le-mul_right}
use Rattle.std.proofs.lemmas.Nat.{le-div}
use Rattle.std.proofs.lemmas.Bool.{cases_lt}
use Rattle.part_grid.specs.Cells.{cell}

-- the line in which the mean of two numbers lies, with these weights
abbrev pub mean : ℕ → ℕ → ℕ → ℕ → ℕ
mean y z m n = (y * m + z * n) / ((m + n) * cell)

-- a number lies between two others, in either order
pub record IsAmid (low n high : ℕ) : Type 0 where
  pub least : min low high ≤ n
  pub greatest : n ≤ max low high

pub quotient-le : (a b : ℕ) → 0 < b → a / b * b ≤ a
quotient-le a b h = omega arith

-- a lesser fraction has no greater quotient
quotients : (a b c e : ℕ) → 0 < b → 0 < e → a * e ≤ c * b → a / b ≤ c / e
quotients a b c e hb he h = le-div (a / b) c e he (elim (cases_lt c (a / b * e)) [ inl above ↦ absurd (beyond above) | inr within ↦ within ])
  where
    beyond : c < a / b * e → ⊥
    beyond above =
        let q = a / b in
        let more : (c + 1) * b ≤ q * e * b = mul-le-mul_right b (omega arith) in
        let less : q * b * e ≤ a * e = mul-le-mul_right e (quotient-le a b hb) in
        omega (arith, more, less, h)

-- the mean rises with the weight of the greater number
mean-le : (y t g e m n : ℕ) → 0 < e + g → 0 < m + n → g * m ≤ n * e → mean y (y + t) e g ≤ mean y (y + t) m n
mean-le y t g e m n hg hm h =
    quotients (y * e + (y + t) * g) ((e + g) * cell) (y * m + (y + t) * n) ((m + n) * cell) (omega arith) (omega arith)
    (omega (arith, mul-le-mul_left (t * cell) h))

mean-ge : (y t g e m n : ℕ) → 0 < e + g → 0 < m + n → n * e ≤ g * m → mean y (y + t) m n ≤ mean y (y + t) e g
mean-ge y t g e m n hg hm h =
    quotients (y * m + (y + t) * n) ((m + n) * cell) (y * e + (y + t) * g) ((e + g) * cell) (omega arith) (omega arith)
    (omega (arith, mul-le-mul_left (t * cell) h))

mean-turned : (y z m n : ℕ) → mean y z m n ≡ mean z y n m
mean-turned y z m n = rw (add_comm (y * m) (z * n), add_comm m n) refl

-- a mean lies between the means on either hand of it
pub mean-amid : (y z m n e g f h : ℕ) → 0 < m + n → 0 < e + g → 0 < f + h → g * m ≤ n * e → n * f ≤ h * m → IsAmid (mean y z e g) (mean y z m n) (mean y z f h)
mean-amid y z m n e g f h some some_before some_behind before behind =
    elim (cases_lt y z) [
      | inl rising ↦
          (let is : z ≡ y + (z - y) = omega arith in
          let low : mean y z e g ≤ mean y z m n = subst (λ (w : ℕ). mean y w e g ≤ mean y w m n) (sym is) (mean-le y (z - y) g e m n some_before some before) in
          let high : mean y z m n ≤ mean y z f h = subst (λ (w : ℕ). mean y w m n ≤ mean y w f h) (sym is) (mean-ge y (z - y) h f m n some_behind some behind) in
          record { least = omega arith; greatest = omega arith })
      | inr falling ↦
          (let is : y ≡ z + (y - z) = omega arith in
          let low : mean z y h f ≤ mean z y n m =
          subst (λ (w : ℕ). mean z w h f ≤ mean z w n m) (sym is) (mean-le z (y - z) f h n m (omega arith) (omega arith) (omega (arith, mul_comm f n, mul_comm h m, behind))) in
          let high : mean z y n m ≤ mean z y g e =
          subst (λ (w : ℕ). mean z w n m ≤ mean z w g e) (sym is) (mean-ge z (y - z) e g n m (omega arith) (omega arith) (omega (arith, mul_comm g m, mul_comm e n, before))) in
          record { least = omega (arith, mean-turned y z m n, mean-turned y z f h, mean-turned y z e g); greatest = omega (arith, mean-turned y z m n, mean-turned y z f h, mean-turned y z e g) })
    ]

-- and between the lines of the two numbers
pub mean-between : (y z m n : ℕ) → 0 < m + n → IsAmid (y / cell) (mean y z m n) (z / cell)
mean-between y z m n some =
    let first : mean y z 1 0 ≡ y / cell = ap (λ (w : ℕ). w / cell) (omega arith) in
    let last : mean y z 0 1 ≡ z / cell = ap (λ (w : ℕ). w / cell) (omega arith) in
    let amid = mean-amid y z m n 1 0 0 1 some (omega arith) (omega arith) (omega arith) (omega arith) in
    record { least = omega (arith, amid.least, first, last); greatest = omega (arith, amid.greatest, first, last) }
