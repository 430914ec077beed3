-- Whole numbers: products over sums, and bounds by absolute values.
use Rattle.std.proofs.Common.{◌≡◌, ℕ, ◌+◌, ◌*◌, ◌^◌, ◌≤◌, ◌<◌, arith, ap, ◌∙◌}
use Rattle.std.specs.Prelude.{ℤ, ◌+ℤ◌, ◌-ℤ◌, ◌*ℤ◌, unsigned_abs}
use Rattle.std.proofs.lemmas.Int.{ints, clamps, to_z-of_z, unsigned_abs-mul, fits_signed_from_abs}
use Rattle.std.specs.Int.{int_min, int_max}
use Rattle.std.proofs.Math.Nat.{mul-le-mul}
use borrow.Author.Differences.{up, down, sum_is_lem}
use mir.Syntax.{Width, w64, w128}
use mir.Val.{SFits, to_z, of_z, hbits}

-- a product over a sum or a difference
pub add_mul : (a b c : ℤ) → (a +ℤ b) *ℤ c ≡ a *ℤ c +ℤ b *ℤ c
add_mul a b c =
    omega (arith, ints, ap (λ (n : ℕ). n * up c) (sum_is_lem a b), ap (λ (n : ℕ). n * down c) (sum_is_lem a b))

pub mul_add : (a b c : ℤ) → c *ℤ (a +ℤ b) ≡ c *ℤ a +ℤ c *ℤ b
mul_add a b c =
    omega (arith, ints, ap (λ (n : ℕ). n * up c) (sum_is_lem a b), ap (λ (n : ℕ). n * down c) (sum_is_lem a b))

parts : (a b : ℤ) → up (a -ℤ b) + down a + up b ≡ down (a -ℤ b) + up a + down b
parts a b = omega (arith, ints)

pub sub_mul : (a b c : ℤ) → (a -ℤ b) *ℤ c ≡ a *ℤ c -ℤ b *ℤ c
sub_mul a b c =
    omega (arith, ints, ap (λ (n : ℕ). n * up c) (parts a b), ap (λ (n : ℕ). n * down c) (parts a b))

pub mul_sub : (a b c : ℤ) → c *ℤ (a -ℤ b) ≡ c *ℤ a -ℤ c *ℤ b
mul_sub a b c =
    omega (arith, ints, ap (λ (n : ℕ). n * up c) (parts a b), ap (λ (n : ℕ). n * down c) (parts a b))

-- the absolute value of a difference and of a product
pub abs-sub : (a b : ℤ) (m n : ℕ) → unsigned_abs a ≤ m → unsigned_abs b ≤ n → unsigned_abs (a -ℤ b) ≤ m + n
abs-sub a b m n h k = omega (arith, ints)

pub abs-mul : (a b : ℤ) (m n : ℕ) → unsigned_abs a ≤ m → unsigned_abs b ≤ n → unsigned_abs (a *ℤ b) ≤ m * n
abs-mul a b m n h k = omega (arith, unsigned_abs-mul a b, mul-le-mul h k)

pub abs-cross : (a b c d : ℤ) (m n : ℕ) → unsigned_abs a ≤ m → unsigned_abs b ≤ n → unsigned_abs c ≤ m → unsigned_abs d ≤ n → unsigned_abs (a *ℤ b -ℤ c *ℤ d) ≤ m * n + m * n
abs-cross a b c d m n ha hb hc hd = abs-sub (a *ℤ b) (c *ℤ d) (m * n) (m * n) (abs-mul a b m n ha hb) (abs-mul c d m n hc hd)

-- ---- what the code's `a * b - c * d` gives at a width that holds it
pub record FitsCross (w : Width) (a b c d : ℤ) : Type 0 where
  pub a_fits : SFits w a
  pub b_fits : SFits w b
  pub c_fits : SFits w c
  pub d_fits : SFits w d
  pub left : SFits w (a *ℤ b)
  pub right : SFits w (c *ℤ d)
  pub all : SFits w (a *ℤ b -ℤ c *ℤ d)

pub cross_fits : (w : Width) (a b c d : ℤ) (m n : ℕ) → unsigned_abs a ≤ m → unsigned_abs b ≤ n → unsigned_abs c ≤ m → unsigned_abs d ≤ n
    → m < 2 ^ hbits w → n < 2 ^ hbits w → m * n + m * n < 2 ^ hbits w → FitsCross w a b c d
cross_fits w a b c d m n ha hb hc hd hm hn h = record {
  a_fits = fits_signed_from_abs w a (omega arith);
  b_fits = fits_signed_from_abs w b (omega arith);
  c_fits = fits_signed_from_abs w c (omega arith);
  d_fits = fits_signed_from_abs w d (omega arith);
  left = fits_signed_from_abs w (a *ℤ b) (omega (arith, abs-mul a b m n ha hb));
  right = fits_signed_from_abs w (c *ℤ d) (omega (arith, abs-mul c d m n hc hd));
  all = fits_signed_from_abs w (a *ℤ b -ℤ c *ℤ d) (omega (arith, abs-cross a b c d m n ha hb hc hd));
}

pub cross_left : (w : Width) (a b c d : ℤ) → FitsCross w a b c d → SFits w (to_z w (of_z w a) *ℤ to_z w (of_z w b))
cross_left w a b c d f =
    let fa = f.a_fits in let fb = f.b_fits in simp to_z-of_z f.left

pub cross_right : (w : Width) (a b c d : ℤ) → FitsCross w a b c d → SFits w (to_z w (of_z w c) *ℤ to_z w (of_z w d))
cross_right w a b c d f =
    let fa = f.c_fits in let fb = f.d_fits in simp to_z-of_z f.right

pub cross_all : (w : Width) (a b c d : ℤ) → FitsCross w a b c d
    → SFits w (to_z w (of_z w (to_z w (of_z w a) *ℤ to_z w (of_z w b))) -ℤ to_z w (of_z w (to_z w (of_z w c) *ℤ to_z w (of_z w d))))
cross_all w a b c d f =
    let fa = f.a_fits in let fb = f.b_fits in let fc = f.c_fits in let fd = f.d_fits in let l = f.left in let r = f.right in simp to_z-of_z f.all

pub cross_is : (w : Width) (a b c d : ℤ) → FitsCross w a b c d
    → to_z w (of_z w (to_z w (of_z w (to_z w (of_z w a) *ℤ to_z w (of_z w b))) -ℤ to_z w (of_z w (to_z w (of_z w c) *ℤ to_z w (of_z w d))))) ≡ a *ℤ b -ℤ c *ℤ d
cross_is w a b c d f =
    let fa = f.a_fits in let fb = f.b_fits in let fc = f.c_fits in let fd = f.d_fits in let l = f.left in let r = f.right in let t = f.all in simp to_z-of_z

pub cross_along : (a b c d b' d' : ℤ) → b ≡ b' → d ≡ d' → a *ℤ b -ℤ c *ℤ d ≡ a *ℤ b' -ℤ c *ℤ d'
cross_along a b c d b' d' e f = ap (λ (z : ℤ). a *ℤ z -ℤ c *ℤ d) e ∙ ap (λ (z : ℤ). a *ℤ b' -ℤ c *ℤ z) f

-- a number of 64 bits that was widened
pub widened : (r z : ℤ) (n : ℕ) → unsigned_abs z ≤ n → n < 2 ^ 63 → r ≡ to_z w64 (of_z w64 z) → r ≡ z
widened r z n h k e = let f : SFits w64 z = fits_signed_from_abs w64 z (omega arith) in e ∙ to_z-of_z w64 z f

-- an orientation that was passed on in 64 bits
pub restored : (z : ℤ) → unsigned_abs z ≤ 128000000000000 → to_z w64 (of_z w64 z) ≡ z
restored z h = omega (arith, ints)

-- two of them subtracted in 64 bits and passed on in 128
pub restored_difference : (r a b : ℤ) → unsigned_abs a ≤ 128000000000000 → unsigned_abs b ≤ 128000000000000
    → r ≡ to_z w64 (of_z w64 (to_z w64 (of_z w64 a) -ℤ to_z w64 (of_z w64 b))) → to_z w128 (of_z w128 r) ≡ a -ℤ b
restored_difference r a b ha hb e = omega (arith, ints)

pub restored_spread : (r a b : ℤ) → unsigned_abs a ≤ 128000000000000 → unsigned_abs b ≤ 128000000000000
    → r ≡ to_z w64 (of_z w64 (a -ℤ b)) → to_z w128 (of_z w128 r) ≡ a -ℤ b
restored_spread r a b ha hb e = omega (arith, ints)

-- the lesser and the greater of two, passed on in 64 bits
pub restored_min : (r m t h : ℤ) → unsigned_abs m ≤ 128000000000000 → unsigned_abs t ≤ 128000000000000
    → r ≡ int_min m (to_z w64 (of_z w64 t)) → t ≡ h → (unsigned_abs r ≤ 128000000000000) × (to_z w64 (of_z w64 r) ≡ int_min m h)
restored_min r m t h hm ht e f =
    let r_is : r ≡ int_min m t = e ∙ ap (int_min m) (restored t ht) in
    let within : unsigned_abs r ≤ 128000000000000 = omega (arith, ints, clamps) in
    (within, restored r within ∙ r_is ∙ ap (int_min m) f)

pub restored_max : (r m t h : ℤ) → unsigned_abs m ≤ 128000000000000 → unsigned_abs t ≤ 128000000000000
    → r ≡ int_max m (to_z w64 (of_z w64 t)) → t ≡ h → (unsigned_abs r ≤ 128000000000000) × (to_z w64 (of_z w64 r) ≡ int_max m h)
restored_max r m t h hm ht e f =
    let r_is : r ≡ int_max m t = e ∙ ap (int_max m) (restored t ht) in
    let within : unsigned_abs r ≤ 128000000000000 = omega (arith, ints, clamps) in
    (within, restored r within ∙ r_is ∙ ap (int_max m) f)

-- a number of 128 bits that is read again, and a product of two
pub kept : (z : ℤ) (m : ℕ) → unsigned_abs z ≤ m → m < 2 ^ 127 → to_z w128 (of_z w128 z) ≡ z
kept z m h k = to_z-of_z w128 z (fits_signed_from_abs w128 z (omega arith))

pub product_fits : (a b : ℤ) (m n : ℕ) → unsigned_abs a ≤ m → unsigned_abs b ≤ n → m < 2 ^ 127 → n < 2 ^ 127 → m * n < 2 ^ 127
    → SFits w128 (to_z w128 (of_z w128 a) *ℤ to_z w128 (of_z w128 b))
product_fits a b m n ha hb hm hn h =
    rw (kept a m ha hm, kept b n hb hn) (fits_signed_from_abs w128 (a *ℤ b) (omega (arith, abs-mul a b m n ha hb)))

pub product_is : (a b : ℤ) (m n : ℕ) → unsigned_abs a ≤ m → unsigned_abs b ≤ n → m < 2 ^ 127 → n < 2 ^ 127 → m * n < 2 ^ 127
    → to_z w128 (of_z w128 (to_z w128 (of_z w128 a) *ℤ to_z w128 (of_z w128 b))) ≡ a *ℤ b
product_is a b m n ha hb hm hn h =
    rw (kept a m ha hm, kept b n hb hn) (kept (a *ℤ b) (m * n) (abs-mul a b m n ha hb) h)

-- a difference of two divisors of a hit
pub difference_kept : (a b : ℤ) → unsigned_abs a ≤ 33760000000000000000000000 → unsigned_abs b ≤ 33760000000000000000000000
    → to_z w128 (of_z w128 (to_z w128 (of_z w128 a) -ℤ to_z w128 (of_z w128 b))) ≡ a -ℤ b
difference_kept a b ha hb = omega (arith, ints)

pub difference_fits : (a b : ℤ) → unsigned_abs a ≤ 33760000000000000000000000 → unsigned_abs b ≤ 33760000000000000000000000
    → SFits w128 (to_z w128 (of_z w128 a) -ℤ to_z w128 (of_z w128 b))
difference_fits a b ha hb = omega (arith, ints)

pub difference_within : (a b : ℤ) → unsigned_abs a ≤ 33760000000000000000000000 → unsigned_abs b ≤ 33760000000000000000000000
    → unsigned_abs (a -ℤ b) < 2 ^ 127
difference_within a b ha hb = omega (arith, ints)
