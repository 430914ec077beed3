-- Lemmas on quotients rounded down and up.
use Rattle.std.proofs.Common.{◌≡◌, ℕ, zero, suc, ◌+◌, ◌*◌, ◌/◌, ◌%◌, ◌<◌, ◌≤◌, ℤ, pos, negsuc, ◌*ℤ◌, neg_ℤ, ◌≤ℤ◌, ◌<ℤ◌, arith, refl, sym, ap, ◌∙◌, min}
use Rattle.std.proofs.Math.Nat.{div-mul-le_self, lt-div-mul-add, div-le_of_le-mul, div-one, div-le_self, mul-le-mul_left, zero-div, le_trans, div-eq_of_lt-le, div-add-mod', mod-lt, zero-mod, mul-div-mul_right, mul-pos}
use Rattle.std.proofs.lemmas.Nat.{le-div}
use Rattle.std.specs.Prelude.{unsigned_abs}
use Rattle.std.specs.Int.{div_ceil}
use Rattle.std.proofs.lemmas.Int.{ints, unsigned_abs-mul}
use Rattle.fix_interval.specs.Round.{floor_of, ceil_of}

-- ---- quotients of naturals

pub div-mono : (a b d : ℕ) → 0 < d → a ≤ b → a / d ≤ b / d
div-mono a b d h k = le-div (a / d) b d h (le_trans (div-mul-le_self a d) k)

pub div-anti : (a d e : ℕ) → 0 < d → d ≤ e → a / e ≤ a / d
div-anti a d e h k = le-div (a / e) a d h (le_trans (mul-le-mul_left (a / e) k) (div-mul-le_self a e))

-- the quotient of the predecessor, where the divisor divides, and where it doesn't
pub suc-div_exact : (a d q : ℕ) → 0 < d → q * d ≡ suc a → suc (a / d) ≡ q
suc-div_exact a d zero h e = absurd (omega arith)
suc-div_exact a d (suc p) h e =
    let m : suc p * d ≡ p * d + d = omega arith in
    ap suc (div-eq_of_lt-le {k = p} d {m = a} (omega arith) (omega arith))

pub suc-div_inexact : (a d : ℕ) → 0 < d → suc a / d * d < suc a → a / d ≡ suc a / d
suc-div_inexact a d h k =
    div-eq_of_lt-le {k = suc a / d} d {m = a} (omega arith) (omega (arith, lt-div-mul-add {a = suc a} {b = d} h))

pub suc-div-le : (a d : ℕ) → 0 < d → suc a / d ≤ suc (a / d)
suc-div-le a d h = div-le_of_le-mul d (omega (arith, lt-div-mul-add {a = a} {b = d} h))

-- ---- order

pub floor_of-mono : (x y : ℤ) (d : ℕ) → 0 < d → x ≤ℤ y → floor_of x d ≤ℤ floor_of y d
floor_of-mono (pos a) (pos b) d h k = omega (arith, ints, div-mono a b d h (omega (arith, ints)))
floor_of-mono (pos a) (negsuc b) d h k = absurd (omega (arith, ints))
floor_of-mono (negsuc a) (pos b) d h k = omega (arith, ints)
floor_of-mono (negsuc a) (negsuc b) d h k = omega (arith, ints, div-mono b a d h (omega (arith, ints)))

pub ceil_of-mono : (x y : ℤ) (d : ℕ) → 0 < d → x ≤ℤ y → ceil_of x d ≤ℤ ceil_of y d
ceil_of-mono x y d h k = omega (arith, ints, floor_of-mono (neg_ℤ y) (neg_ℤ x) d h (omega (arith, ints)))

-- a quotient rounded down is greatest for the least divisor where it isn't negative, and else the other way
pub floor_of-anti : (a d e : ℕ) → 0 < d → d ≤ e → floor_of (pos a) e ≤ℤ floor_of (pos a) d
floor_of-anti a d e h k = omega (arith, ints, div-anti a d e h k)

pub floor_of-anti_negative : (a d e : ℕ) → 0 < d → d ≤ e → floor_of (negsuc a) d ≤ℤ floor_of (negsuc a) e
floor_of-anti_negative a d e h k = omega (arith, ints, div-anti a d e h k)

pub floor_of-le-ceil_of : (x : ℤ) (d : ℕ) → 0 < d → floor_of x d ≤ℤ ceil_of x d
floor_of-le-ceil_of (pos zero) d h = omega (arith, ints, zero-div d)
floor_of-le-ceil_of (pos (suc a)) d h = omega (arith, ints, suc-div-le a d h)
floor_of-le-ceil_of (negsuc a) d h = omega (arith, ints, suc-div-le a d h)

-- ---- by the quotient of the absolute value

pub div_ceil_suc : (a d : ℕ) → 0 < d → div_ceil (suc a) d ≡ suc (a / d)
div_ceil_suc a d h = div_ceil_by (suc a % d) refl where
  div_ceil_by : (r : ℕ) → suc a % d ≡ r → div_ceil (suc a) d ≡ suc (a / d)
  div_ceil_by zero e =
      let exact : suc a / d * d ≡ suc a = omega (arith, div-add-mod' (suc a) d) in
      let same : suc (a / d) ≡ suc a / d = suc-div_exact a d (suc a / d) h exact in
      omega arith
  div_ceil_by (suc r) e =
      let inexact : suc a / d * d < suc a = omega (arith, div-add-mod' (suc a) d) in
      let same : a / d ≡ suc a / d = suc-div_inexact a d h inexact in
      omega arith

pub div_ceil_zero : (d : ℕ) → 0 < d → div_ceil 0 d ≡ 0
div_ceil_zero d h = omega (arith, zero-div d, mod-lt 0 {m = d} h, zero-mod d)

pub ceil_of-pos : (x : ℤ) (d : ℕ) → 0 < d → pos 0 ≤ℤ x → ceil_of x d ≡ pos (div_ceil (unsigned_abs x) d)
ceil_of-pos (pos zero) d h k = omega (arith, ints, zero-div d, div_ceil_zero d h)
ceil_of-pos (pos (suc a)) d h k = ap pos (sym (div_ceil_suc a d h))
ceil_of-pos (negsuc a) d h k = absurd (omega (arith, ints))

pub floor_of-negative : (x : ℤ) (d : ℕ) → 0 < d → x <ℤ pos 0 → floor_of x d ≡ neg_ℤ (pos (div_ceil (unsigned_abs x) d))
floor_of-negative (pos a) d h k = absurd (omega (arith, ints))
floor_of-negative (negsuc a) d h k = rw (div_ceil_suc a d h)

-- ---- bounds

pub floor_of-times : (x : ℤ) (d : ℕ) → 0 < d → (floor_of x d *ℤ pos d) ≤ℤ x
floor_of-times (pos a) d h = omega (arith, ints, div-mul-le_self a d)
floor_of-times (negsuc a) d h = omega (arith, ints, lt-div-mul-add {a = a} {b = d} h)

pub neg_ℤ-*ℤ : (x : ℤ) (d : ℕ) → neg_ℤ x *ℤ pos d ≡ neg_ℤ (x *ℤ pos d)
neg_ℤ-*ℤ (pos zero) d = omega (arith, ints)
neg_ℤ-*ℤ (pos (suc n)) d = omega (arith, ints)
neg_ℤ-*ℤ (negsuc n) d = omega (arith, ints)

pub ceil_of-times : (x : ℤ) (d : ℕ) → 0 < d → x ≤ℤ (ceil_of x d *ℤ pos d)
ceil_of-times x d h = rw (neg_ℤ-*ℤ (floor_of (neg_ℤ x) d) d) (omega (arith, ints, floor_of-times (neg_ℤ x) d h))

pub unsigned_abs-floor_of : (x : ℤ) (d : ℕ) → 0 < d → unsigned_abs (floor_of x d) ≤ unsigned_abs x
unsigned_abs-floor_of (pos a) d h = div-le_self a d
unsigned_abs-floor_of (negsuc a) d h = omega (arith, div-le_self a d)

pub unsigned_abs-ceil_of : (x : ℤ) (d : ℕ) → 0 < d → unsigned_abs (ceil_of x d) ≤ unsigned_abs x
unsigned_abs-ceil_of x d h = omega (arith, ints, unsigned_abs-floor_of (neg_ℤ x) d h)

-- ---- by 1

pub floor_of-one : (x : ℤ) → floor_of x 1 ≡ x
floor_of-one (pos a) = ap pos (div-one a)
floor_of-one (negsuc a) = ap negsuc (div-one a)

pub ceil_of-one : (x : ℤ) → ceil_of x 1 ≡ x
ceil_of-one x = ap neg_ℤ (floor_of-one (neg_ℤ x)) ∙ omega (arith, ints)

-- ---- both by a common factor

div_ceil-scaled : (n m u : ℕ) → 0 < m → 0 < u → div_ceil (n * u) (m * u) ≡ div_ceil n m
div_ceil-scaled n m u h k =
    let quotient : n * u / (m * u) ≡ n / m = mul-div-mul_right {m = u} n m k in
    let whole : n / m * (m * u) + n * u % (m * u) ≡ n * u =
    ap (λ (z : ℕ). z * (m * u) + n * u % (m * u)) (sym quotient) ∙ div-add-mod' (n * u) (m * u) in
    let part : (n / m * m + n % m) * u ≡ n * u = ap (λ (z : ℕ). z * u) (div-add-mod' n m) in
    let rest : n * u % (m * u) ≡ n % m * u = omega (arith, whole, part) in
    rw (quotient, rest, one_at_most (n % m) u k)
    refl where
      one_at_most : (r u : ℕ) → 0 < u → min 1 (r * u) ≡ min 1 r
      one_at_most zero u k = omega arith
      one_at_most (suc r) u k = omega (arith, mul-le-mul_left (suc r) k)

pub floor_of-scaled : (x : ℤ) (m u : ℕ) → 0 < m → 0 < u → floor_of (x *ℤ pos u) (m * u) ≡ floor_of x m
floor_of-scaled (pos a) m u h k = ap pos (mul-div-mul_right {m = u} a m k)
floor_of-scaled (negsuc a) m u h k =
    let scaled : 0 < m * u = mul-pos h k in
    let size : unsigned_abs (negsuc a *ℤ pos u) ≡ suc a * u = unsigned_abs-mul (negsuc a) (pos u) in
    let negative : (negsuc a *ℤ pos u) <ℤ pos 0 = omega (arith, ints, mul-le-mul_left (suc a) k) in
    floor_of-negative (negsuc a *ℤ pos u) (m * u) scaled negative
    ∙ ap (λ (n : ℕ). neg_ℤ (pos (div_ceil n (m * u)))) size
    ∙ ap (λ (n : ℕ). neg_ℤ (pos n)) (div_ceil-scaled (suc a) m u h k)
    ∙ sym (floor_of-negative (negsuc a) m h (omega (arith, ints)))

pub ceil_of-scaled : (x : ℤ) (m u : ℕ) → 0 < m → 0 < u → ceil_of (x *ℤ pos u) (m * u) ≡ ceil_of x m
ceil_of-scaled x m u h k =
    ap (λ (z : ℤ). neg_ℤ (floor_of z (m * u))) (sym (neg_ℤ-*ℤ x u)) ∙ ap neg_ℤ (floor_of-scaled (neg_ℤ x) m u h k)

-- ---- in two steps

-- the quotient of all but the last places of a number, and then that of the remainder and those
pub div-parts : (n d b : ℕ) → 0 < d → 0 < b → n / b / d * b + (n / b % d * b + n % b) / d ≡ n / d
div-parts n d b h k =
    let whole : n / b * b + n % b ≡ n = div-add-mod' n b in
    let upper : n / b / d * d + n / b % d ≡ n / b = div-add-mod' (n / b) d in
    let parts : (n / b / d * d + n / b % d) * b ≡ n / b * b = ap (λ (z : ℕ). z * b) upper in
    let rest = n / b % d * b + n % b in
    sym (div-eq_of_lt-le {k = n / b / d * b + rest / d} d {m = n}
    (omega (arith, div-mul-le_self rest d))
    (omega (arith, lt-div-mul-add {a = rest} {b = d} h)))
