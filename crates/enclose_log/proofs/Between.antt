-- Digits by the powers of ten on both sides of a mantissa. What a turn rounds is less than what one unit more or less in
-- the number 1 makes of a mantissa, since no mantissa is below 1. So no turn has to be taken to know what all of them give.
use Rattle.std.proofs.Common.{◌≡◌, ℕ, zero, suc, ◌+◌, ◌-◌, ◌*◌, ◌/◌, ◌^◌, ◌<◌, ◌≤◌, inl, inr, sym, ap, subst, arith}
use Rattle.std.specs.Int.{div_ceil}
use Rattle.std.proofs.lemmas.Bool.{cases_lt}
use Rattle.std.proofs.lemmas.Nat.{mul-le, pow-add, mul-pow}
use Rattle.std.proofs.lemmas.Grind.{div_ceil_times}
use Rattle.std.proofs.Math.Nat.{pow-suc, one-le-pow, pow-le-pow_left, pow-lt-pow_left, pow-le-pow_right, mul-le-mul_left, mul-le-mul_right, le_of_mul-le-mul_right, lt_of_mul-lt-mul_right, lt-div-mul-add}
use Rattle.fix_interval.specs.Lg.{LgTurn, turn_low, turn_high, turns, one_mantissa, rounded_up}
use Rattle.fix_interval.proofs.Powers.{pow-one}
use Rattle.enclose_log.proofs.Turns.{turn_low-cases, turn_high-cases, turns_low-in_range, turns_high-in_range}
use Rattle.enclose_log.proofs.Law.{squared-at_most, squared-at_least, doubled, doubled-one, turns_low-at_most, turns_high-at_least, rounded_up-cases}

-- Between two turns, with p for the number 1 and b for the start's
record FromAbove (b x p q : ℕ) (turn : LgTurn) : Type 0 where
  holds : x ^ q * p ≤ b ^ q * 10 ^ turn.digits * turn.mantissa

record FromBelow (b x p q : ℕ) (turn : LgTurn) : Type 0 where
  holds : b ^ q * 10 ^ turn.digits * turn.mantissa ≤ x ^ q * p

turn_low-from_above : (b x q m f : ℕ) → one_mantissa ≤ (turn_low (record { mantissa = m; digits = f })).mantissa →
    FromAbove b x (one_mantissa + 1) q (record { mantissa = m; digits = f }) → FromAbove b x (one_mantissa + 1) (q + q) (turn_low (record { mantissa = m; digits = f }))
turn_low-from_above b x q m f least before =
    let square = lt-div-mul-add {a = m * m} {b = one_mantissa} (omega arith) in
    let sides = pow-add x q q in
    elim (turn_low-cases m f) [
      | inl c ↦ (let large = rw c.1 at least in rw c.1 (record {
        holds =
            rw (sides, ← doubled b q f)
            (let s = squared-at_least (b ^ q * 10 ^ f) m (x ^ q) (one_mantissa + 1) 1 (m * m / one_mantissa) (omega arith) before.holds (omega (arith, square, large)) in omega (arith, s));
      }))
      | inr c ↦ (let large = rw c.1 at least in rw c.1 (record {
        holds =
            rw (sides, ← doubled-one b q f)
            (squared-at_least (b ^ q * 10 ^ f) m (x ^ q) (one_mantissa + 1) 10 (m * m / one_mantissa / 10) (omega arith) before.holds (omega (arith, square, large)));
      }))
    ]

turn_high-from_below : (b x q m f : ℕ) → one_mantissa ≤ (turn_high (record { mantissa = m; digits = f })).mantissa →
    FromBelow b x (one_mantissa - 1) q (record { mantissa = m; digits = f }) → FromBelow b x (one_mantissa - 1) (q + q) (turn_high (record { mantissa = m; digits = f }))
turn_high-from_below b x q m f least before =
    let square = (div_ceil_times (m * m) one_mantissa (omega arith)).1 in
    let tenth = (div_ceil_times (div_ceil (m * m) one_mantissa) 10 (omega arith)).1 in
    let sides = pow-add x q q in
    elim (turn_high-cases m f) [
      | inl c ↦ (let large = rw c.1 at least in rw c.1 (record {
        holds =
            rw (sides, ← doubled b q f)
            (let s = squared-at_most (b ^ q * 10 ^ f) m (x ^ q) (one_mantissa - 1) 1 (div_ceil (m * m) one_mantissa) (omega arith) before.holds (omega (arith, square, large)) in omega (arith, s));
      }))
      | inr c ↦ (let large = rw c.1 at least in rw c.1 (record {
        holds =
            rw (sides, ← doubled-one b q f)
            (squared-at_most (b ^ q * 10 ^ f) m (x ^ q) (one_mantissa - 1) 10 (div_ceil (div_ceil (m * m) one_mantissa) 10) (omega arith) before.holds (omega (arith, square, tenth, large)));
      }))
    ]

turns_low-from_above : (b x m i : ℕ) → one_mantissa ≤ m → m < 10 * one_mantissa → x * (one_mantissa + 1) ≤ b * m →
    FromAbove b x (one_mantissa + 1) (2 ^ i) (turns turn_low i (record { mantissa = m; digits = 0 }))
unfolding turns
turns_low-from_above b x m zero least below start = record { holds = rw (pow-one b, pow-one x) (omega (arith, start)) }
turns_low-from_above b x m (suc i) least below start =
    let power : 2 ^ suc i ≡ 2 ^ i + 2 ^ i = omega (arith, pow-suc 2 i) in
    rw power (turn_low-from_above b x (2 ^ i) _ _ (turns_low-in_range m (suc i) least below).least (turns_low-from_above b x m i least below start))

turns_high-from_below : (b x m i : ℕ) → one_mantissa ≤ m → m ≤ 10 * one_mantissa → b * m ≤ x * (one_mantissa - 1) →
    FromBelow b x (one_mantissa - 1) (2 ^ i) (turns turn_high i (record { mantissa = m; digits = 0 }))
unfolding turns
turns_high-from_below b x m zero least most start = record { holds = rw (pow-one b, pow-one x) (omega (arith, start)) }
turns_high-from_below b x m (suc i) least most start =
    let power : 2 ^ suc i ≡ 2 ^ i + 2 ^ i = omega (arith, pow-suc 2 i) in
    rw power (turn_high-from_below b x (2 ^ i) _ _ (turns_high-in_range m (suc i) least most).least (turns_high-from_below b x m i least most start))

-- ---- what all turns give

-- a power of ten that isn't below one has an exponent that isn't
exponents : (a b c : ℕ) → 0 < c → 10 ^ a * c < 10 ^ b * c → a < b
exponents a b c positive less =
    elim (cases_lt a b) [
      | inl enough ↦ enough
      | inr more ↦ absurd (omega (arith, less, mul-le-mul_right c (pow-le-pow_right {n = 10} (omega arith) {i = b} {j = a} more)))
    ]

pub low-is : (m g i u : ℕ) → u ≡ 2 ^ i → one_mantissa ≤ m → m < 10 * one_mantissa → 10 ^ g * (one_mantissa + 1) ^ u ≤ m ^ u → m ^ u < 10 ^ suc g * one_mantissa ^ u →
    (turns turn_low i (record { mantissa = m; digits = 0 })).digits ≡ g
low-is m g i u e least below from to =
    let t = turns turn_low i (record { mantissa = m; digits = 0 }) in
    let range = turns_low-in_range m i least below in
    let above : m ^ u * (one_mantissa + 1) ≤ (one_mantissa + 1) ^ u * 10 ^ t.digits * t.mantissa =
    (let P : ℕ → Type 0 = λ q. m ^ q * (one_mantissa + 1) ≤ (one_mantissa + 1) ^ q * 10 ^ t.digits * t.mantissa in
    subst P (sym e) (turns_low-from_above (one_mantissa + 1) m m i least below (omega arith)).holds) in
    let under : one_mantissa ^ u * 10 ^ t.digits * t.mantissa ≤ m ^ u * one_mantissa =
    (let P : ℕ → Type 0 = λ q. one_mantissa ^ q * 10 ^ t.digits * t.mantissa ≤ m ^ q * one_mantissa in
    subst P (sym e) (turns_low-at_most one_mantissa m m i (omega arith)).holds) in
    low-between m g t.digits t.mantissa (one_mantissa ^ u) ((one_mantissa + 1) ^ u) (m ^ u) (one-le-pow u one_mantissa (omega arith)) (one-le-pow u (one_mantissa + 1) (omega arith))
    range.least range.below above under from to
  where
    low-between : (m g d t a b x : ℕ) → 0 < a → 0 < b → one_mantissa ≤ t → t < 10 * one_mantissa → x * (one_mantissa + 1) ≤ b * 10 ^ d * t →
        a * 10 ^ d * t ≤ x * one_mantissa → 10 ^ g * b ≤ x → x < 10 ^ suc g * a → d ≡ g
    low-between m g d t a b x some whole least below above under from to =
        let most : t ≤ 10 * one_mantissa = omega (arith, below) in
        let first = mul-le-mul_left (b * 10 ^ d) most in
        let second = mul-le-mul_left (a * 10 ^ d) least in
        let ten = pow-suc 10 d in
        let positive : 0 < b * 10 ^ d = mul-le 1 1 b (10 ^ d) whole (one-le-pow d 10 (omega arith)) in
        let high : g < suc d = exponents g (suc d) b whole (rw ten (omega (arith, first, above, from, positive))) in
        let low : d < suc g = exponents d (suc g) a some (omega (arith, second, under, to)) in
        omega (arith, high, low)

pub high-is : (m g i u : ℕ) → u ≡ 2 ^ i → one_mantissa ≤ m → m ≤ 10 * one_mantissa → 10 ^ g * one_mantissa ^ u < m ^ u → m ^ u ≤ 10 ^ suc g * (one_mantissa - 1) ^ u →
    rounded_up (turns turn_high i (record { mantissa = m; digits = 0 })) ≡ g + 1
high-is m g i u e least most from to =
    let t = turns turn_high i (record { mantissa = m; digits = 0 }) in
    let range = turns_high-in_range m i least most in
    let under : (one_mantissa - 1) ^ u * 10 ^ t.digits * t.mantissa ≤ m ^ u * (one_mantissa - 1) =
    (let P : ℕ → Type 0 = λ q. (one_mantissa - 1) ^ q * 10 ^ t.digits * t.mantissa ≤ m ^ q * (one_mantissa - 1) in
    subst P (sym e) (turns_high-from_below (one_mantissa - 1) m m i least most (omega arith)).holds) in
    let above : m ^ u * one_mantissa ≤ one_mantissa ^ u * 10 ^ t.digits * t.mantissa =
    (let P : ℕ → Type 0 = λ q. m ^ q * one_mantissa ≤ one_mantissa ^ q * 10 ^ t.digits * t.mantissa in
    subst P (sym e) (turns_high-at_least one_mantissa m m i (omega arith)).holds) in
    let low = high-least g t.digits t.mantissa (one_mantissa ^ u) (m ^ u) (rounded_up t) (one-le-pow u one_mantissa (omega arith)) above from in
    let last = high-most g t.digits t.mantissa ((one_mantissa - 1) ^ u) (m ^ u) (one-le-pow u (one_mantissa - 1) (omega arith)) range.least under to in
    elim (rounded_up-cases t) [
      | inl c ↦ (let more = low.0 c.0 in omega (arith, c.1, last, more))
      | inr c ↦ (let more = low.1 range.most in omega (arith, c, last, more))
    ]
  where
    -- the digits are above g where nothing is left, and else not below it
    high-least : (g d t a x r : ℕ) → 0 < a → x * one_mantissa ≤ a * 10 ^ d * t → 10 ^ g * a < x → (t ≡ one_mantissa → g < d) × (t ≤ 10 * one_mantissa → g ≤ d)
    high-least g d t a x r some above from =
        let ten = pow-suc 10 d in (
          λ same. exponents g d a some (let equal = ap (λ (n : ℕ). a * 10 ^ d * n) same in omega (arith, equal, above, from)),
          λ most. (let first = mul-le-mul_left (a * 10 ^ d) most in
              let less : g < suc d = exponents g (suc d) a some (rw ten (omega (arith, first, above, from))) in omega (arith, less)),
        )

    high-most : (g d t a x : ℕ) → 0 < a → one_mantissa ≤ t → a * 10 ^ d * t ≤ x * (one_mantissa - 1) → x ≤ 10 ^ suc g * a → d < suc g
    high-most g d t a x some least under to =
        let first = mul-le-mul_left (a * 10 ^ d) least in
        let positive : 0 < a * 10 ^ d = mul-le 1 1 a (10 ^ d) some (one-le-pow d 10 (omega arith)) in
        exponents d (suc g) a some (omega (arith, first, under, to, positive))

-- ---- the powers of ten by what encloses them

-- `a` is at most a power of h
pub from-power : (u a h b m one : ℕ) → 0 < one → a * one ^ u ≤ h ^ u → h * b ≤ m * one → a * b ^ u ≤ m ^ u
from-power u a h b m one positive power le =
    let powers : (h * b) ^ u ≤ (m * one) ^ u = pow-le-pow_left le u in
    let scaled = mul-le-mul_right (b ^ u) power in
    le_of_mul-le-mul_right {k = one ^ u} (omega (arith, powers, scaled, mul-pow h b u, mul-pow m one u)) (one-le-pow u one positive)

pub past-power : (u a h b m one : ℕ) → 0 < u → 0 < one → a * one ^ u ≤ h ^ u → h * b < m * one → a * b ^ u < m ^ u
past-power u a h b m one some positive power less =
    let powers : (h * b) ^ u < (m * one) ^ u = pow-lt-pow_left {a = h * b} {b = m * one} {n = u} less (λ e. omega (arith, some, e)) in
    let scaled = mul-le-mul_right (b ^ u) power in
    lt_of_mul-lt-mul_right (one ^ u) (omega (arith, powers, scaled, mul-pow h b u, mul-pow m one u))

-- and at least one
pub to-power : (u a l b m one : ℕ) → 0 < one → l ^ u ≤ a * one ^ u → m * one ≤ l * b → m ^ u ≤ a * b ^ u
to-power u a l b m one positive power le =
    let powers : (m * one) ^ u ≤ (l * b) ^ u = pow-le-pow_left le u in
    let scaled = mul-le-mul_right (b ^ u) power in
    le_of_mul-le-mul_right {k = one ^ u} (omega (arith, powers, scaled, mul-pow l b u, mul-pow m one u)) (one-le-pow u one positive)

pub before-power : (u a l b m one : ℕ) → 0 < u → 0 < one → l ^ u ≤ a * one ^ u → m * one < l * b → m ^ u < a * b ^ u
before-power u a l b m one some positive power less =
    let powers : (m * one) ^ u < (l * b) ^ u = pow-lt-pow_left {a = m * one} {b = l * b} {n = u} less (λ e. omega (arith, some, e)) in
    let scaled = mul-le-mul_right (b ^ u) power in
    lt_of_mul-lt-mul_right (one ^ u) (omega (arith, powers, scaled, mul-pow l b u, mul-pow m one u))
