-- The law of the logarithm's value: an induction over the turns. No power is ever evaluated, so the number
-- of turns is i and their exponent u, of which it is known only that u ≡ 2^i.
use Rattle.std.proofs.Common.{◌≡◌, ℕ, zero, suc, ◌+◌, ◌*◌, ◌/◌, ◌^◌, ◌<◌, ◌≤◌, ◌⊎◌, inl, inr, refl, sym, ap, ◌∙◌, subst, arith, rules, tests, true, false, ◌==◌, add_assoc}
use Rattle.std.specs.Int.{div_ceil}
use Rattle.std.proofs.lemmas.Bool.{cases_eq}
use Rattle.std.proofs.lemmas.Nat.{mul-le, pow-add, mul-pow}
use Rattle.std.proofs.lemmas.Grind.{div_ceil_times}
use Rattle.std.proofs.Math.Nat.{pow-suc, mul-le-mul_left, le_of_mul-le-mul_right, div-mul-le_self}
use Rattle.fix_interval.specs.Lg.{LgTurn, turn_low, turn_high, turns, one_mantissa, rounded_up}
use Rattle.fix_interval.proofs.Powers.{pow-one, pow-mul}
use Rattle.enclose_log.proofs.Turns.{turn_low-cases, turn_high-cases, turns_low-in_range, turns_high-in_range}

-- Between two turns that have raised to the power q: the start b and the digits are at most x
pub record AtMost (b x q : ℕ) (turn : LgTurn) : Type 0 where
  pub holds : b ^ q * 10 ^ turn.digits * turn.mantissa ≤ x ^ q * one_mantissa

pub record AtLeast (b x q : ℕ) (turn : LgTurn) : Type 0 where
  pub holds : x ^ q * one_mantissa ≤ b ^ q * 10 ^ turn.digits * turn.mantissa

-- a turn squares both sides
pub squared-at_most : (a m x p e m' : ℕ) → 0 < p → a * m ≤ x * p → e * m' * p ≤ m * m → a * a * e * m' ≤ x * x * p
squared-at_most a m x p e m' positive before turn =
    let sides = mul-le (a * m) (a * m) (x * p) (x * p) before before in
    let inner = mul-le-mul_left (a * a) turn in
    le_of_mul-le-mul_right {k = p} (omega (arith, sides, inner)) positive

pub squared-at_least : (a m x p e m' : ℕ) → 0 < p → x * p ≤ a * m → m * m ≤ e * m' * p → x * x * p ≤ a * a * e * m'
squared-at_least a m x p e m' positive before turn =
    let sides = mul-le (x * p) (x * p) (a * m) (a * m) before before in
    let inner = mul-le-mul_left (a * a) turn in
    le_of_mul-le-mul_right {k = p} (omega (arith, sides, inner)) positive

-- the powers after one more turn with the digit 0 or 1
pub doubled : (b q f : ℕ) → (b ^ q * 10 ^ f) * (b ^ q * 10 ^ f) ≡ b ^ (q + q) * 10 ^ (2 * f)
doubled b q f =
    let base = pow-add b q q in
    let twice : 2 * f ≡ f + f = omega arith in
    let ten : 10 ^ (2 * f) ≡ 10 ^ f * 10 ^ f = ap (λ i. 10 ^ i) twice ∙ pow-add 10 f f in
    rw (base, ten) (omega arith)

pub doubled-one : (b q f : ℕ) → (b ^ q * 10 ^ f) * (b ^ q * 10 ^ f) * 10 ≡ b ^ (q + q) * 10 ^ (2 * f + 1)
doubled-one b q f =
    let one : 10 ^ (2 * f + 1) ≡ 10 ^ (2 * f) * 10 = pow-add 10 (2 * f) 1 in
    ap (λ x. x * 10) (doubled b q f) ∙ rw one (omega arith)

turn_low-at_most : (b x q m f : ℕ) → AtMost b x q (record { mantissa = m; digits = f }) → AtMost b x (q + q) (turn_low (record { mantissa = m; digits = f }))
turn_low-at_most b x q m f before =
    let square = div-mul-le_self (m * m) one_mantissa in
    let tenth = div-mul-le_self (m * m / one_mantissa) 10 in
    let sides = pow-add x q q in
    elim (turn_low-cases m f) [
      | inl c ↦ rw c.1 (record {
        holds =
            rw (sides, ← doubled b q f)
            (let s = squared-at_most (b ^ q * 10 ^ f) m (x ^ q) one_mantissa 1 (m * m / one_mantissa) (omega arith) before.holds (omega (arith, square)) in omega (arith, s));
      })
      | inr c ↦ rw c.1 (record {
        holds =
            rw (sides, ← doubled-one b q f)
            (squared-at_most (b ^ q * 10 ^ f) m (x ^ q) one_mantissa 10 (m * m / one_mantissa / 10) (omega arith) before.holds (omega (arith, square, tenth)));
      })
    ]

turn_high-at_least : (b x q m f : ℕ) → AtLeast b x q (record { mantissa = m; digits = f }) → AtLeast b x (q + q) (turn_high (record { mantissa = m; digits = f }))
turn_high-at_least b x q m f before =
    let square = (div_ceil_times (m * m) one_mantissa (omega arith)).0 in
    let tenth = (div_ceil_times (div_ceil (m * m) one_mantissa) 10 (omega arith)).0 in
    let sides = pow-add x q q in
    elim (turn_high-cases m f) [
      | inl c ↦ rw c.1 (record {
        holds =
            rw (sides, ← doubled b q f)
            (let s = squared-at_least (b ^ q * 10 ^ f) m (x ^ q) one_mantissa 1 (div_ceil (m * m) one_mantissa) (omega arith) before.holds (omega (arith, square)) in omega (arith, s));
      })
      | inr c ↦ rw c.1 (record {
        holds =
            rw (sides, ← doubled-one b q f)
            (squared-at_least (b ^ q * 10 ^ f) m (x ^ q) one_mantissa 10 (div_ceil (div_ceil (m * m) one_mantissa) 10) (omega arith) before.holds (omega (arith, square, tenth)));
      })
    ]

pub turns_low-at_most : (b x m i : ℕ) → b * m ≤ x * one_mantissa → AtMost b x (2 ^ i) (turns turn_low i (record { mantissa = m; digits = 0 }))
unfolding turns
turns_low-at_most b x m zero start = record { holds = rw (pow-one b, pow-one x) (omega (arith, start)) }
turns_low-at_most b x m (suc i) start =
    let power : 2 ^ suc i ≡ 2 ^ i + 2 ^ i = omega (arith, pow-suc 2 i) in
    rw power (turn_low-at_most b x (2 ^ i) _ _ (turns_low-at_most b x m i start))

pub turns_high-at_least : (b x m i : ℕ) → x * one_mantissa ≤ b * m → AtLeast b x (2 ^ i) (turns turn_high i (record { mantissa = m; digits = 0 }))
unfolding turns
turns_high-at_least b x m zero start = record { holds = rw (pow-one b, pow-one x) (omega (arith, start)) }
turns_high-at_least b x m (suc i) start =
    let power : 2 ^ suc i ≡ 2 ^ i + 2 ^ i = omega (arith, pow-suc 2 i) in
    rw power (turn_high-at_least b x (2 ^ i) _ _ (turns_high-at_least b x m i start))

-- the digits rounded up: as they are where nothing is left, or else one more
pub rounded_up-cases : (t : LgTurn) → ((t.mantissa ≡ one_mantissa) × (rounded_up t ≡ t.digits)) ⊎ (rounded_up t ≡ t.digits + 1)
rounded_up-cases t =
    elim (cases_eq t.mantissa one_mantissa) [
      | inl same ↦ (let e : (t.mantissa == one_mantissa) ≡ true = search (rules, tests, same) in inl (same, rw e (omega arith)))
      | inr other ↦ (let e : (t.mantissa == one_mantissa) ≡ false = search (rules, tests, other) in inr (rw e refl))
    ]

pub rounded_up-le : (t : LgTurn) → rounded_up t ≤ t.digits + 1
rounded_up-le t = elim (rounded_up-cases t) [ inl c ↦ rw c.1 (omega arith) | inr c ↦ rw c (omega arith) ]

-- The whole law, of a number x whose decade is k and of the 10^k u that it is measured by
pub low-law : (k x m i u : ℕ) → u ≡ 2 ^ i → 10 ^ k * u * m ≤ x * one_mantissa → one_mantissa ≤ m → m < 10 * one_mantissa →
    10 ^ (k * u + (turns turn_low i (record { mantissa = m; digits = 0 })).digits) * u ^ u ≤ x ^ u
low-law k x m i u e start least below =
    let t = turns turn_low i (record { mantissa = m; digits = 0 }) in
    let kept = (turns_low-at_most (10 ^ k * u) x m i start).holds in
    let last = (turns_low-in_range m i least below).least in
    let base : (10 ^ k * u) ^ u ≡ 10 ^ (k * u) * u ^ u = mul-pow (10 ^ k) u u ∙ ap (λ y. y * u ^ u) (sym (pow-mul 10 k u)) in
    let digits = pow-add 10 (k * u) t.digits in
    let kept_u : (10 ^ k * u) ^ u * 10 ^ t.digits * t.mantissa ≤ x ^ u * one_mantissa =
    (let P : ℕ → Type 0 = λ q. (10 ^ k * u) ^ q * 10 ^ t.digits * t.mantissa ≤ x ^ q * one_mantissa in subst P (sym e) kept) in
    let grown = mul-le-mul_left (10 ^ (k * u) * u ^ u * 10 ^ t.digits) last in
    le_of_mul-le-mul_right {k = one_mantissa} (rw digits (omega (arith, grown, rw base at kept_u))) (omega arith)

-- the same of the digits rounded up, one more where something is left
pub high-law : (k x m i u : ℕ) → u ≡ 2 ^ i → x * one_mantissa ≤ 10 ^ k * u * m → one_mantissa ≤ m → m ≤ 10 * one_mantissa →
    x ^ u ≤ 10 ^ (k * u + rounded_up (turns turn_high i (record { mantissa = m; digits = 0 }))) * u ^ u
high-law k x m i u e start least most =
    let t = turns turn_high i (record { mantissa = m; digits = 0 }) in
    let kept = (turns_high-at_least (10 ^ k * u) x m i start).holds in
    let last = (turns_high-in_range m i least most).most in
    let base : (10 ^ k * u) ^ u ≡ 10 ^ (k * u) * u ^ u = mul-pow (10 ^ k) u u ∙ ap (λ y. y * u ^ u) (sym (pow-mul 10 k u)) in
    let digits = pow-add 10 (k * u) t.digits in
    let more = pow-add 10 (k * u + t.digits) 1 in
    let kept_u : x ^ u * one_mantissa ≤ (10 ^ k * u) ^ u * 10 ^ t.digits * t.mantissa =
    (let P : ℕ → Type 0 = λ q. x ^ q * one_mantissa ≤ (10 ^ k * u) ^ q * 10 ^ t.digits * t.mantissa in subst P (sym e) kept) in
    let known = rw base at kept_u in
    let grown = mul-le-mul_left (10 ^ (k * u) * u ^ u * 10 ^ t.digits) last in
    elim (rounded_up-cases t) [
      | inl c ↦ (let equal = ap (λ z. 10 ^ (k * u) * u ^ u * 10 ^ t.digits * z) c.0 in
          rw c.1 (le_of_mul-le-mul_right {k = one_mantissa} (rw digits (omega (arith, known, equal))) (omega arith)))
      | inr c ↦
          rw (c, ← add_assoc (k * u) t.digits 1, more) (le_of_mul-le-mul_right {k = one_mantissa} (rw digits (omega (arith, known, grown))) (omega arith))
    ]
