-- The logarithm of a greater number isn't less, rounded down and rounded up: its decade isn't less, and in one decade
-- each turn keeps the order of two numbers, first by their digits and then by their mantissas.
use Rattle.std.proofs.Common.{◌≡◌, ℕ, zero, suc, ◌*◌, ◌^◌, ◌<◌, ◌≤◌, ◌⊎◌, inl, inr, refl, arith, rules, tests, true, ◌≤ℤ◌}
use Rattle.std.specs.Prelude.{◌==◌}
use Rattle.std.specs.Int.{div_ceil}
use Rattle.std.proofs.lemmas.Int.{ints}
use Rattle.std.proofs.lemmas.Bool.{cases_lt}
use Rattle.std.proofs.lemmas.Nat.{mul-le}
use Rattle.std.proofs.Math.Nat.{one-le-pow}
use Rattle.fix_interval.proofs.Ceilings.{div_ceil-mono}
use Rattle.fix_interval.proofs.Rounding.{div-mono}
use Rattle.fix_interval.specs.Units.{unit-is}
use Rattle.fix_interval.specs.Lg.{LgTurn, turn_low, turn_high, turns, one_mantissa, decade_of, mantissa_low, mantissa_high, digits_low, digits_high, rounded_up, decade_and_digits, lg_low, lg_high}
use Rattle.enclose_log.proofs.DecadeLemmas.{mantissa_high-within}
use Rattle.enclose_log.proofs.Turns.{turn_low-cases, turn_high-cases, turns_high-in_range}
use Rattle.enclose_log.proofs.Law.{rounded_up-cases, rounded_up-le}
use Rattle.enclose_log.proofs.LgRange.{decade-grows}
use Rattle.enclose_log.proofs.Value.{decade_of-holds, digits_low-small, rounded_up-small}

-- ---- turns

-- fewer digits, or as many and no greater mantissa
abbrev IsUpTo : LgTurn → LgTurn → Type 0
IsUpTo a b = (a.digits < b.digits) ⊎ ((a.digits ≡ b.digits) × (a.mantissa ≤ b.mantissa))

turn_low-keeps : (m f n g : ℕ) → IsUpTo (record { mantissa = m; digits = f }) (record { mantissa = n; digits = g })
    → IsUpTo (turn_low (record { mantissa = m; digits = f })) (turn_low (record { mantissa = n; digits = g }))
turn_low-keeps m f n g h =
    elim (turn_low-cases m f) [
      | inl a ↦ (elim (turn_low-cases n g) [
        | inl b ↦ rw (a.1, b.1) (elim h [ inl fewer ↦ inl (omega (arith, fewer)) | inr same ↦ inr (omega (arith, same.0), omega (arith, mul-le m m n n same.1 same.1)) ])
        | inr b ↦ rw (a.1, b.1) (elim h [ inl fewer ↦ inl (omega (arith, fewer)) | inr same ↦ inl (omega (arith, same.0)) ])
      ])
      | inr a ↦ (elim (turn_low-cases n g) [
        | inl b ↦ rw (a.1, b.1) (elim h [ inl fewer ↦ inl (omega (arith, fewer)) | inr same ↦ absurd (omega (arith, a.0, b.0, mul-le m m n n same.1 same.1)) ])
        | inr b ↦ rw (a.1, b.1) (elim h [ inl fewer ↦ inl (omega (arith, fewer)) | inr same ↦ inr (omega (arith, same.0), omega (arith, mul-le m m n n same.1 same.1)) ])
      ])
    ]

turn_high-keeps : (m f n g : ℕ) → IsUpTo (record { mantissa = m; digits = f }) (record { mantissa = n; digits = g })
    → IsUpTo (turn_high (record { mantissa = m; digits = f })) (turn_high (record { mantissa = n; digits = g }))
turn_high-keeps m f n g h =
    elim (turn_high-cases m f) [
      | inl a ↦ (elim (turn_high-cases n g) [
        | inl b ↦ rw (a.1, b.1) (elim h [ inl fewer ↦ inl (omega (arith, fewer)) | inr same ↦ inr (omega (arith, same.0), squares same.1) ])
        | inr b ↦ rw (a.1, b.1) (elim h [ inl fewer ↦ inl (omega (arith, fewer)) | inr same ↦ inl (omega (arith, same.0)) ])
      ])
      | inr a ↦ (elim (turn_high-cases n g) [
        | inl b ↦ rw (a.1, b.1) (elim h [ inl fewer ↦ inl (omega (arith, fewer)) | inr same ↦ absurd (omega (arith, a.0, b.0, squares same.1)) ])
        | inr b ↦ rw (a.1, b.1) (elim h [ inl fewer ↦ inl (omega (arith, fewer)) | inr same ↦ inr (omega (arith, same.0), div_ceil-mono _ _ 10 (omega arith) (squares same.1)) ])
      ])
    ]
  where
    squares : m ≤ n → div_ceil (m * m) one_mantissa ≤ div_ceil (n * n) one_mantissa
    squares le = div_ceil-mono (m * m) (n * n) one_mantissa (omega arith) (mul-le m m n n le le)

turns-keep : (turn : LgTurn → LgTurn)
    → ((m f n g : ℕ) → IsUpTo (record { mantissa = m; digits = f }) (record { mantissa = n; digits = g })
    → IsUpTo (turn (record { mantissa = m; digits = f })) (turn (record { mantissa = n; digits = g })))
    → (count m n : ℕ) → m ≤ n
    → IsUpTo (turns turn count (record { mantissa = m; digits = 0 })) (turns turn count (record { mantissa = n; digits = 0 }))
unfolding turns
turns-keep turn keeps zero m n h = inr (refl, h)
turns-keep turn keeps (suc count) m n h = keeps _ _ _ _ (turns-keep turn keeps count m n h)

-- ---- digits

digits_low-mono : (m n : ℕ) → m ≤ n → (digits_low m).digits ≤ (digits_low n).digits
unfolding digits_low
digits_low-mono m n h =
    elim (turns-keep turn_low turn_low-keeps 32 m n h) [ inl fewer ↦ omega (arith, fewer) | inr same ↦ omega (arith, same.0) ]

-- nothing is left of a mantissa of exactly 1, which none is below
rounded_up-one : (t : LgTurn) → t.mantissa ≡ one_mantissa → rounded_up t ≡ t.digits
rounded_up-one t same = let e : (t.mantissa == one_mantissa) ≡ true = search (rules, tests, same) in rw e (omega arith)

rounded_up-keeps : (a b : LgTurn) → one_mantissa ≤ a.mantissa → IsUpTo a b → rounded_up a ≤ rounded_up b
rounded_up-keeps a b least h =
    elim (rounded_up-cases b) [
      | inl exact ↦ (elim h [
        | inl fewer ↦ omega (arith, fewer, rounded_up-le a, exact.1)
        | inr same ↦ omega (arith, same.0, rounded_up-one a (omega (arith, same.1, exact.0)), exact.1)
      ])
      | inr more ↦ (elim h [ inl fewer ↦ omega (arith, fewer, rounded_up-le a, more) | inr same ↦ omega (arith, same.0, rounded_up-le a, more) ])
    ]

rounded_up-mono : (m n : ℕ) → one_mantissa ≤ m → m ≤ 10 * one_mantissa → m ≤ n → rounded_up (digits_high m) ≤ rounded_up (digits_high n)
unfolding digits_high
rounded_up-mono m n least most h =
    rounded_up-keeps _ _ (turns_high-in_range m 32 least most).least (turns-keep turn_high turn_high-keeps 32 m n h)

-- ---- ends

mantissa_low-mono : (m n : ℕ) → m ≤ n → decade_of m ≡ decade_of n → mantissa_low m ≤ mantissa_low n
mantissa_low-mono m n h e =
    rw e (div-mono (10 ^ 10 * m * 2 ^ 26) (10 ^ 10 * n * 2 ^ 26) (10 ^ decade_of n) (one-le-pow (decade_of n) 10 (omega arith)) (omega (arith, h)))

mantissa_high-mono : (m n : ℕ) → m ≤ n → decade_of m ≡ decade_of n → mantissa_high m ≤ mantissa_high n
mantissa_high-mono m n h e =
    rw e (div_ceil-mono (10 ^ 10 * m * 2 ^ 26) (10 ^ 10 * n * 2 ^ 26) (10 ^ decade_of n) (one-le-pow (decade_of n) 10 (omega arith)) (omega (arith, h)))

-- ends are ordered by their decades, and in one decade by their digits, which reach no farther than the next
ends-ordered : (k f j g : ℕ) → k ≤ j → f ≤ 2 ^ 32 → (k ≡ j → f ≤ g) → decade_and_digits k f ≤ℤ decade_and_digits j g
ends-ordered k f j g grows within same =
    elim (cases_lt k j) [
      | inl less ↦ rw unit-is (omega (arith, ints, less, within))
      | inr up ↦ (let e : k ≡ j = omega (arith, up, grows) in rw unit-is (omega (arith, ints, e, same e)))
    ]

pub lg_low-mono : (m n : ℕ) → 0 < m → m ≤ n → n < 2 ^ 126 → lg_low m ≤ℤ lg_low n
unfolding lg_low
lg_low-mono m n positive h small =
    ends-ordered (decade_of m) _ (decade_of n) _ (decade-grows m n h) (omega (arith, digits_low-small m positive (omega (arith, h, small))))
    (λ same. digits_low-mono (mantissa_low m) (mantissa_low n) (mantissa_low-mono m n h same))

pub lg_high-mono : (m n : ℕ) → 0 < m → m ≤ n → n < 2 ^ 126 → lg_high m ≤ℤ lg_high n
unfolding lg_high
lg_high-mono m n positive h small =
    let range = mantissa_high-within m (decade_of m) (decade_of-holds m positive (omega (arith, h, small))) in
    ends-ordered (decade_of m) _ (decade_of n) _ (decade-grows m n h) (rounded_up-small m positive (omega (arith, h, small)))
    (λ same. rounded_up-mono (mantissa_high m) (mantissa_high n) range.0 range.1 (mantissa_high-mono m n h same))
