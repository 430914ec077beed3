-- What every turn keeps: the mantissa stays between 1 and 10, and each turn adds one digit.
use Rattle.std.proofs.Common.{◌≡◌, ℕ, zero, suc, ◌+◌, ◌-◌, ◌*◌, ◌/◌, ◌^◌, ◌<◌, ◌≤◌, ◌⊎◌, true, false, nat_le, nat_lt, inl, inr, refl, arith, tests, rules}
use Rattle.std.specs.Int.{div_ceil}
use Rattle.std.proofs.lemmas.Bool.{cases_lt}
use Rattle.std.proofs.lemmas.Nat.{mul-le}
use Rattle.std.proofs.lemmas.Grind.{div_ceil_times}
use Rattle.std.proofs.Math.Nat.{pow-suc, pow-le-pow_right}
use Rattle.fix_interval.specs.Lg.{LgTurn, turn_low, turn_high, turns, one_mantissa}

-- no turn is taken, and one more is taken last
pub turns-zero : (turn : LgTurn → LgTurn) (start : LgTurn) → turns turn 0 start ≡ start
unfolding turns
turns-zero turn start = refl

pub turns-suc : (turn : LgTurn → LgTurn) (i : ℕ) (start : LgTurn) → turns turn (suc i) start ≡ turn (turns turn i start)
unfolding turns
turns-suc turn i start = refl

-- the two ways that a turn goes
pub turn_low-cases : (m f : ℕ) →
    ((m * m / one_mantissa < 10 * one_mantissa)
    × (turn_low (record { mantissa = m; digits = f }) ≡ record { mantissa = m * m / one_mantissa; digits = 2 * f }))
    ⊎ ((10 * one_mantissa ≤ m * m / one_mantissa)
    × (turn_low (record { mantissa = m; digits = f }) ≡ record { mantissa = m * m / one_mantissa / 10; digits = 2 * f + 1 }))
turn_low-cases m f =
    elim (cases_lt (m * m / one_mantissa) (10 * one_mantissa)) [
      | inl short ↦ (let e : nat_le (10 * one_mantissa) (m * m / one_mantissa) ≡ false = search (rules, tests, short) in inl (short, rw e refl))
      | inr reached ↦ (let e : nat_le (10 * one_mantissa) (m * m / one_mantissa) ≡ true = search (rules, tests, reached) in inr (reached, rw e refl))
    ]

pub turn_high-cases : (m f : ℕ) →
    ((div_ceil (m * m) one_mantissa ≤ 10 * one_mantissa)
    × (turn_high (record { mantissa = m; digits = f }) ≡ record { mantissa = div_ceil (m * m) one_mantissa; digits = 2 * f }))
    ⊎ ((10 * one_mantissa < div_ceil (m * m) one_mantissa)
    × (turn_high (record { mantissa = m; digits = f }) ≡ record { mantissa = div_ceil (div_ceil (m * m) one_mantissa) 10; digits = 2 * f + 1 }))
turn_high-cases m f =
    elim (cases_lt (10 * one_mantissa) (div_ceil (m * m) one_mantissa)) [
      | inl passed ↦ (let e : nat_lt (10 * one_mantissa) (div_ceil (m * m) one_mantissa) ≡ true = search (rules, tests, passed) in inr (passed, rw e refl))
      | inr within ↦ (let e : nat_lt (10 * one_mantissa) (div_ceil (m * m) one_mantissa) ≡ false = search (rules, tests, within) in inl (within, rw e refl))
    ]

-- Between two turns, after the first i: rounded down the mantissa is below 10, rounded up at most 10
pub record InRangeLow (i : ℕ) (turn : LgTurn) : Type 0 where
  pub least : one_mantissa ≤ turn.mantissa
  pub below : turn.mantissa < 10 * one_mantissa
  pub digits : turn.digits < 2 ^ i

pub record InRangeHigh (i : ℕ) (turn : LgTurn) : Type 0 where
  pub least : one_mantissa ≤ turn.mantissa
  pub most : turn.mantissa ≤ 10 * one_mantissa
  pub digits : turn.digits < 2 ^ i

turn_low-in_range : (i m f : ℕ) → InRangeLow i (record { mantissa = m; digits = f }) → InRangeLow (suc i) (turn_low (record { mantissa = m; digits = f }))
turn_low-in_range i m f r =
    let least = mul-le one_mantissa one_mantissa m m r.least r.least in
    let most = mul-le m m (10 * one_mantissa) (10 * one_mantissa) (omega (arith, r.below)) (omega (arith, r.below)) in
    let strict : m * m < 10 * one_mantissa * (10 * one_mantissa) = omega (arith, mul-le m m (10 * one_mantissa - 1) (10 * one_mantissa - 1) (omega (arith, r.below)) (omega (arith, r.below))) in
    let power = pow-suc 2 i in
    let start = r.digits in
    elim (turn_low-cases m f) [
      | inl c ↦ rw c.1 (record { least = omega arith; below = c.0; digits = omega arith })
      | inr c ↦ rw c.1 (record { least = omega arith; below = omega arith; digits = omega arith })
    ]

turn_high-in_range : (i m f : ℕ) → InRangeHigh i (record { mantissa = m; digits = f }) → InRangeHigh (suc i) (turn_high (record { mantissa = m; digits = f }))
turn_high-in_range i m f r =
    let least = mul-le one_mantissa one_mantissa m m r.least r.least in
    let most = mul-le m m (10 * one_mantissa) (10 * one_mantissa) r.most r.most in
    let power = pow-suc 2 i in
    let start = r.digits in
    let square = div_ceil_times (m * m) one_mantissa (omega arith) in
    let tenth = div_ceil_times (div_ceil (m * m) one_mantissa) 10 (omega arith) in
    elim (turn_high-cases m f) [
      | inl c ↦ rw c.1 (record { least = omega (arith, square.0, square.1); most = c.0; digits = omega arith })
      | inr c ↦ rw c.1 (record { least = omega (arith, tenth.0, tenth.1, c.0); most = omega (arith, tenth.0, tenth.1, square.0, square.1); digits = omega arith })
    ]

pub turns_low-in_range : (m i : ℕ) → one_mantissa ≤ m → m < 10 * one_mantissa → InRangeLow i (turns turn_low i (record { mantissa = m; digits = 0 }))
unfolding turns
turns_low-in_range m zero least below = record { least = least; below = below; digits = omega arith }
turns_low-in_range m (suc i) least below = turn_low-in_range i _ _ (turns_low-in_range m i least below)

pub turns_high-in_range : (m i : ℕ) → one_mantissa ≤ m → m ≤ 10 * one_mantissa → InRangeHigh i (turns turn_high i (record { mantissa = m; digits = 0 }))
unfolding turns
turns_high-in_range m zero least most = record { least = least; most = most; digits = omega arith }
turns_high-in_range m (suc i) least most = turn_high-in_range i _ _ (turns_high-in_range m i least most)

-- among the first 32 turns the digits fit 32 bits
pub within_32 : (f i : ℕ) → i ≤ 32 → f < 2 ^ i → f < 2 ^ 32
within_32 f i few below = omega (arith, below, pow-le-pow_right {n = 2} (omega arith) {j = 32} few)
