-- How near the digits of a logarithm are to it. By its rounding a turn changes a mantissa by at most one or two parts in
-- 2^58, so all turns together change the power that they stand for by less than a factor of ten. No power is ever evaluated.
use Rattle.std.proofs.Common.{◌≡◌, ℕ, zero, suc, ◌+◌, ◌-◌, ◌*◌, ◌/◌, ◌^◌, ◌<◌, ◌≤◌, inl, inr, sym, ap, ◌∙◌, subst, arith}
use Rattle.std.specs.Int.{div_ceil}
use Rattle.std.proofs.lemmas.Nat.{mul-le, pow-add, mul-pow}
use Rattle.std.proofs.lemmas.Grind.{div_ceil_times}
use Rattle.std.proofs.Math.Nat.{pow-suc, pow-zero, one-le-pow, pow-le-pow_right, mul-le-mul_left, mul-le-mul_right, le_of_mul-le-mul_right, lt-div-mul-add}
use Rattle.fix_interval.specs.Lg.{LgTurn, turn_low, turn_high, turns, one_mantissa, rounded_up}
use Rattle.fix_interval.proofs.Powers.{pow-one}
use Rattle.enclose_log.proofs.Turns.{turn_low-cases, turn_high-cases, turns_low-in_range, turns_high-in_range}
use Rattle.enclose_log.proofs.Law.{doubled, doubled-one, rounded_up-le}

-- ---- powers of a number that is little greater

-- (1 + t/s)^i is at most s / (s - t i)
grown-little : (s t r i : ℕ) → s ≡ r + t * i → (s + t) ^ i * r ≤ s ^ i * s
grown-little s t r zero e = rw (pow-zero (s + t), pow-zero s) (omega (arith, e))
grown-little s t r (suc i) e =
    let before : (s + t) ^ i * (r + t) ≤ s ^ i * s = grown-little s t (r + t) i (omega (arith, e)) in
    let less : r ≤ s = omega (arith, e) in
    let step : (s + t) * r ≤ s * (r + t) = omega (arith, mul-le-mul_left t less) in
    rw (pow-suc (s + t) i, pow-suc s i) (omega (arith, mul-le-mul_left ((s + t) ^ i) step, mul-le-mul_left s before))

-- less than a factor of ten in as many turns as there are
changed-little : (s t u : ℕ) → t ≤ 2 → u ≤ 2 ^ 32 → 2 ^ 57 ≤ s → ((s + t) * (s + t)) ^ u ≤ 10 * (s * s) ^ u
changed-little s t u few turns large =
    let loss : t * (u + u) ≤ 2 * 2 ^ 33 = mul-le t (u + u) 2 (2 ^ 33) few (omega (arith, turns)) in
    let r = s - t * (u + u) in
    let whole : s ≡ r + t * (u + u) = omega (arith, loss, large) in
    let most : s ≤ 10 * r = omega (arith, loss, large) in
    let some : 0 < r = omega (arith, loss, large) in
    let grown = grown-little s t r (u + u) whole in
    let scaled = mul-le-mul_left (s ^ (u + u)) most in
    let left : ((s + t) * (s + t)) ^ u ≡ (s + t) ^ (u + u) = mul-pow (s + t) (s + t) u ∙ sym (pow-add (s + t) u u) in
    let right : (s * s) ^ u ≡ s ^ (u + u) = mul-pow s s u ∙ sym (pow-add s u u) in
    rw (left, right) (le_of_mul-le-mul_right {k = r} (omega (arith, grown, scaled)) some)

-- ---- one turn

-- a quotient rounded down loses less than one part in its divisor
rounded-low : (m m' e s : ℕ) → m * m ≤ e * (m' + 1) * (s + 1) → s ≤ m' → m * m * s ≤ e * m' * ((s + 1) * (s + 1))
rounded-low m m' e s square least =
    let scaled = mul-le-mul_right s square in
    let part : (m' + 1) * s ≤ m' * (s + 1) = omega (arith, least) in
    let whole = mul-le-mul_left (e * (s + 1)) part in
    omega (arith, scaled, whole)

-- and one rounded up gains less than two
rounded-high : (m m' e s : ℕ) → 1 ≤ s → e * m' * (s + 1) ≤ m * m + e * (s + 1) → s + 1 ≤ m' → e * m' * ((s + 1) * (s + 1)) ≤ m * m * (s + 3)
rounded-high m m' e s some square least =
    let one : e * m' * s ≤ m * m = omega (arith, square, mul-le-mul_left e least) in
    let scaled = mul-le-mul_right (s + 3) one in
    let rest = mul-le-mul_left (e * m') some in
    omega (arith, scaled, rest)

-- a turn squares both sides
squared-low : (a m x p s e m' : ℕ) → 0 < p → x * (p * p) ≤ a * m * s → m * m * s ≤ e * m' * (p * p) → x * x * (p * p) ≤ a * a * e * m' * s
squared-low a m x p s e m' positive before turn =
    let sides = mul-le (x * (p * p)) (x * (p * p)) (a * m * s) (a * m * s) before before in
    let inner = mul-le-mul_left (a * a * s) turn in
    le_of_mul-le-mul_right {k = p * p} (omega (arith, sides, inner)) (mul-le 1 1 p p positive positive)

squared-high : (a m x p s e m' : ℕ) → 0 < p → a * m * s ≤ x * (p * p) → e * m' * (p * p) ≤ m * m * s → a * a * e * m' * s ≤ x * x * (p * p)
squared-high a m x p s e m' positive before turn =
    let sides = mul-le (a * m * s) (a * m * s) (x * (p * p)) (x * (p * p)) before before in
    let inner = mul-le-mul_left (a * a * s) turn in
    le_of_mul-le-mul_right {k = p * p} (omega (arith, sides, inner)) (mul-le 1 1 p p positive positive)

-- Between two turns that have raised to the power q, where c and y are the start's numbers with room for the rounding
record NearLow (c y q : ℕ) (turn : LgTurn) : Type 0 where
  holds : y ^ q * (one_mantissa * one_mantissa) ≤ c ^ q * 10 ^ turn.digits * turn.mantissa * (one_mantissa - 1)

record NearHigh (c y q : ℕ) (turn : LgTurn) : Type 0 where
  holds : c ^ q * 10 ^ turn.digits * turn.mantissa * (one_mantissa + 2) ≤ y ^ q * (one_mantissa * one_mantissa)

turn_low-near : (c y q m f : ℕ) → one_mantissa ≤ (turn_low (record { mantissa = m; digits = f })).mantissa →
    NearLow c y q (record { mantissa = m; digits = f }) → NearLow c y (q + q) (turn_low (record { mantissa = m; digits = f }))
turn_low-near c y q m f least before =
    let square = lt-div-mul-add {a = m * m} {b = one_mantissa} (omega arith) in
    let sides = pow-add y q q in
    elim (turn_low-cases m f) [
      | inl t ↦ (let large = rw t.1 at least in rw t.1 (record {
        holds =
            let turn = rounded-low m (m * m / one_mantissa) 1 (one_mantissa - 1) (omega (arith, square)) (omega (arith, large)) in
            let s = squared-low (c ^ q * 10 ^ f) m (y ^ q) one_mantissa (one_mantissa - 1) 1 (m * m / one_mantissa) (omega arith) before.holds turn in
            rw (sides, ← doubled c q f) (omega (arith, s));
      }))
      | inr t ↦ (let large = rw t.1 at least in rw t.1 (record {
        holds =
            let turn = rounded-low m (m * m / one_mantissa / 10) 10 (one_mantissa - 1) (omega (arith, square)) (omega (arith, large)) in
            let s = squared-low (c ^ q * 10 ^ f) m (y ^ q) one_mantissa (one_mantissa - 1) 10 (m * m / one_mantissa / 10) (omega arith) before.holds turn in
            rw (sides, ← doubled-one c q f) s;
      }))
    ]

turn_high-near : (c y q m f : ℕ) → one_mantissa ≤ (turn_high (record { mantissa = m; digits = f })).mantissa →
    NearHigh c y q (record { mantissa = m; digits = f }) → NearHigh c y (q + q) (turn_high (record { mantissa = m; digits = f }))
turn_high-near c y q m f least before =
    let square = (div_ceil_times (m * m) one_mantissa (omega arith)).1 in
    let tenth = (div_ceil_times (div_ceil (m * m) one_mantissa) 10 (omega arith)).1 in
    let sides = pow-add y q q in
    elim (turn_high-cases m f) [
      | inl t ↦ (let large = rw t.1 at least in rw t.1 (record {
        holds =
            let turn = rounded-high m (div_ceil (m * m) one_mantissa) 1 (one_mantissa - 1) (omega arith) (omega (arith, square)) (omega (arith, large)) in
            let s = squared-high (c ^ q * 10 ^ f) m (y ^ q) one_mantissa (one_mantissa + 2) 1 (div_ceil (m * m) one_mantissa) (omega arith) before.holds turn in
            rw (sides, ← doubled c q f) (omega (arith, s));
      }))
      | inr t ↦ (let large = rw t.1 at least in rw t.1 (record {
        holds =
            let turn = rounded-high m (div_ceil (div_ceil (m * m) one_mantissa) 10) 10 (one_mantissa - 1) (omega arith) (omega (arith, square, tenth)) (omega (arith, large)) in
            let s = squared-high (c ^ q * 10 ^ f) m (y ^ q) one_mantissa (one_mantissa + 2) 10 (div_ceil (div_ceil (m * m) one_mantissa) 10) (omega arith) before.holds turn in
            rw (sides, ← doubled-one c q f) s;
      }))
    ]

-- ---- all turns

turns_low-near : (c y m i : ℕ) → one_mantissa ≤ m → m < 10 * one_mantissa → y * (one_mantissa * one_mantissa) ≤ c * m * (one_mantissa - 1) →
    NearLow c y (2 ^ i) (turns turn_low i (record { mantissa = m; digits = 0 }))
unfolding turns
turns_low-near c y m zero least below start = record { holds = rw (pow-one c, pow-one y) (omega (arith, start)) }
turns_low-near c y m (suc i) least below start =
    let power : 2 ^ suc i ≡ 2 ^ i + 2 ^ i = omega (arith, pow-suc 2 i) in
    rw power (turn_low-near c y (2 ^ i) _ _ (turns_low-in_range m (suc i) least below).least (turns_low-near c y m i least below start))

turns_high-near : (c y m i : ℕ) → one_mantissa ≤ m → m ≤ 10 * one_mantissa → c * m * (one_mantissa + 2) ≤ y * (one_mantissa * one_mantissa) →
    NearHigh c y (2 ^ i) (turns turn_high i (record { mantissa = m; digits = 0 }))
unfolding turns
turns_high-near c y m zero least most start = record { holds = rw (pow-one c, pow-one y) (omega (arith, start)) }
turns_high-near c y m (suc i) least most start =
    let power : 2 ^ suc i ≡ 2 ^ i + 2 ^ i = omega (arith, pow-suc 2 i) in
    rw power (turn_high-near c y (2 ^ i) _ _ (turns_high-in_range m (suc i) least most).least (turns_high-near c y m i least most start))

-- the room for the rounding is less than a factor of ten, and so is what is left of the mantissa
low-cancelled : (x s b p d t : ℕ) → 0 < s → p ≤ 10 * s → t ≤ 10 * one_mantissa →
    x * s * (one_mantissa * one_mantissa) ≤ b * p * d * t * (one_mantissa - 1) → x ≤ b * (d * 100)
low-cancelled x s b p d t positive few most kept =
    let grown = mul-le-mul_left (b * p * d) most in
    let within : x * s ≤ b * p * d * 10 = omega (arith, kept, grown) in
    let scaled = mul-le-mul_left (b * d) few in
    le_of_mul-le-mul_right {k = s} (omega (arith, within, scaled)) positive

high-cancelled : (x s b p d t : ℕ) → 0 < p → s ≤ 10 * p → one_mantissa ≤ t →
    b * p * d * t * (one_mantissa + 2) ≤ x * s * (one_mantissa * one_mantissa) → b * d ≤ 10 * x
high-cancelled x s b p d t positive few least kept =
    let grown = mul-le-mul_left (b * p * d) least in
    let within : b * p * d ≤ x * s = omega (arith, kept, grown) in
    let scaled = mul-le-mul_left x few in
    le_of_mul-le-mul_right {k = p} (omega (arith, within, scaled)) positive

-- The digits of a number x that is measured by b: two more are not below its logarithm
pub low-near : (b x m i u : ℕ) → u ≡ 2 ^ i → u ≤ 2 ^ 32 → one_mantissa ≤ m → m < 10 * one_mantissa → x * (one_mantissa - 1) ≤ b * m →
    x ^ u ≤ b ^ u * 10 ^ ((turns turn_low i (record { mantissa = m; digits = 0 })).digits + 2)
low-near b x m i u e small least below start =
    let t = turns turn_low i (record { mantissa = m; digits = 0 }) in
    let s : ℕ = (one_mantissa - 1) * (one_mantissa - 1) in
    let p : ℕ = one_mantissa * one_mantissa in
    let kept : (x * s) ^ u * p ≤ (b * p) ^ u * 10 ^ t.digits * t.mantissa * (one_mantissa - 1) =
    (let P : ℕ → Type 0 = λ q. (x * s) ^ q * p ≤ (b * p) ^ q * 10 ^ t.digits * t.mantissa * (one_mantissa - 1) in
    subst P (sym e) (turns_low-near (b * p) (x * s) m i least below (omega (arith, start))).holds) in
    let last : t.mantissa ≤ 10 * one_mantissa = omega (arith, (turns_low-in_range m i least below).below) in
    let room : p ^ u ≤ 10 * s ^ u = changed-little (one_mantissa - 1) 1 u (omega arith) small (omega arith) in
    let digits = pow-add 10 t.digits 2 in
    rw digits (low-cancelled (x ^ u) (s ^ u) (b ^ u) (p ^ u) (10 ^ t.digits) t.mantissa (one-le-pow u s (omega arith)) room last (rw (← mul-pow x s u, ← mul-pow b p u) kept))

-- The digits rounded up: two less are not above it
pub high-near : (b x m i u : ℕ) → u ≡ 2 ^ i → u ≤ 2 ^ 32 → one_mantissa ≤ m → m ≤ 10 * one_mantissa → b * m ≤ x * (one_mantissa + 1) →
    b ^ u * 10 ^ rounded_up (turns turn_high i (record { mantissa = m; digits = 0 })) ≤ 100 * x ^ u
high-near b x m i u e small least most start =
    let t = turns turn_high i (record { mantissa = m; digits = 0 }) in
    let s : ℕ = (one_mantissa + 2) * (one_mantissa + 2) in
    let p : ℕ = one_mantissa * one_mantissa in
    let kept : (b * p) ^ u * 10 ^ t.digits * t.mantissa * (one_mantissa + 2) ≤ (x * s) ^ u * p =
    (let P : ℕ → Type 0 = λ q. (b * p) ^ q * 10 ^ t.digits * t.mantissa * (one_mantissa + 2) ≤ (x * s) ^ q * p in
    subst P (sym e) (turns_high-near (b * p) (x * s) m i least most (omega (arith, start))).holds) in
    let last = (turns_high-in_range m i least most).least in
    let room : s ^ u ≤ 10 * p ^ u = changed-little one_mantissa 2 u (omega arith) small (omega arith) in
    let whole = high-cancelled (x ^ u) (s ^ u) (b ^ u) (p ^ u) (10 ^ t.digits) t.mantissa (one-le-pow u p (omega arith)) room last (rw (← mul-pow x s u, ← mul-pow b p u) kept) in
    let up : 10 ^ rounded_up t ≤ 10 ^ (t.digits + 1) = pow-le-pow_right {n = 10} (omega arith) (rounded_up-le t) in
    let one : 10 ^ (t.digits + 1) ≡ 10 ^ t.digits * 10 = pow-add 10 t.digits 1 in
    omega (arith, whole, one, mul-le-mul_left (b ^ u) up, ap (λ z. b ^ u * z) one)
