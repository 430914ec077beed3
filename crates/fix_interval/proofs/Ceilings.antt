-- Quotients rounded up.
use Rattle.std.proofs.Common.{◌≡◌, ℕ, ◌+◌, ◌-◌, ◌*◌, ◌/◌, ◌<◌, ◌≤◌, sym, arith}
use Rattle.std.proofs.Math.Nat.{mul-le-mul_left, mul-le-mul_right, mul-lt-mul_of_pos_left, lt_of_mul-lt-mul_right, lt-div-mul-add, div-mul-le_self}
use Rattle.std.proofs.lemmas.Grind.{div_ceil_times}
use Rattle.std.specs.Int.{div_ceil}

-- the quotient rounded up is the only number in its place
pub div_ceil-is : (a b r : ℕ) → 0 < b → a ≤ r * b → r * b < a + b → div_ceil a b ≡ r
div_ceil-is a b r positive above below =
    let d = div_ceil_times a b positive in
    let first : div_ceil a b < r + 1 = lt_of_mul-lt-mul_right b (omega (arith, d.0, d.1)) in
    let second : r < div_ceil a b + 1 = lt_of_mul-lt-mul_right b (omega (arith, d.0, d.1)) in
    omega (arith, first, second)

-- a common factor changes neither quotient
pub div_ceil-scaled : (c m n : ℕ) → 0 < c → 0 < n → div_ceil (c * m) (c * n) ≡ div_ceil m n
div_ceil-scaled c m n positive above =
    let d = div_ceil_times m n above in
    div_ceil-is (c * m) (c * n) (div_ceil m n) (omega (arith, mul-lt-mul_of_pos_left {k = c} above positive))
    (omega (arith, mul-le-mul_left c d.0))
    (omega (arith, mul-lt-mul_of_pos_left {k = c} d.1 positive))

-- a quotient without remainder
pub div_ceil-whole : (r b : ℕ) → 0 < b → div_ceil (b * r) b ≡ r
div_ceil-whole r b positive = div_ceil-is (b * r) b r positive (omega arith) (omega arith)

-- rounded up twice is rounded up once
pub div_ceil-nested : (n a b : ℕ) → 0 < a → 0 < b → div_ceil (div_ceil n a) b ≡ div_ceil n (a * b)
div_ceil-nested n a b pa pb =
    let first = div_ceil_times n a pa in
    let second = div_ceil_times (div_ceil n a) b pb in
    let r = div_ceil (div_ceil n a) b in
    let upper = mul-le-mul_right a second.0 in
    let room : r * b + 1 ≤ div_ceil n a + b = omega (arith, second.1) in
    let lower = mul-le-mul_right a room in
    sym (div_ceil-is n (a * b) r (omega (arith, mul-lt-mul_of_pos_left {k = a} pb pa))
    (omega (arith, first.0, upper))
    (omega (arith, first.1, lower)))

-- the two ways in which the code rounds up
pub div_ceil-added : (n d : ℕ) → 0 < d → (n + (d - 1)) / d ≡ div_ceil n d
div_ceil-added n d positive =
    let over = lt-div-mul-add {a = n + (d - 1)} {b = d} positive in
    let under = div-mul-le_self (n + (d - 1)) d in
    sym (div_ceil-is n d ((n + (d - 1)) / d) positive (omega (arith, over)) (omega (arith, under)))

-- what a multiple of the divisor reaches, the quotient is not above
pub quotient_up-le : (a b d : ℕ) → 0 < d → a ≤ b * d → div_ceil a d ≤ b
quotient_up-le a b d positive h =
    let bounds = div_ceil_times a d positive in
    let less : div_ceil a d < b + 1 = lt_of_mul-lt-mul_right d (omega (arith, bounds.1, h)) in
    omega (arith, less)

-- it grows with what is divided
pub div_ceil-mono : (a b d : ℕ) → 0 < d → a ≤ b → div_ceil a d ≤ div_ceil b d
div_ceil-mono a b d positive h = grind arith
