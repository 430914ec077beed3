-- Powers of powers, and a table of powers of ten.
use Rattle.std.proofs.Common.{◌≡◌, ℕ, zero, suc, ◌+◌, ◌*◌, ◌^◌, ◌<◌, ◌≤◌, inl, inr, ◌==◌, Bool, true, List, [], ◌∷◌, length, get_or, sym, ap, ◌∙◌, arith, add-zero}
use Rattle.std.specs.Prelude.{◌&&◌}
use Rattle.std.proofs.lemmas.Bool.{eqb-true, cases_lt}
use Rattle.std.proofs.lemmas.Nat.{pow-add}
use Rattle.std.proofs.Math.Nat.{pow-suc, pow-zero, pow-lt-pow_left}
use Rattle.fix_interval.proofs.Tables.{both-true}

pub pow-one : (b : ℕ) → b ^ 1 ≡ b
pow-one b = (let one : 1 * b ≡ b = omega arith in pow-suc b 0 ∙ ap (λ x. x * b) (pow-zero b) ∙ one)

pub pow-mul : (b i j : ℕ) → b ^ (i * j) ≡ (b ^ i) ^ j
pow-mul b i zero = (let e : i * 0 ≡ 0 = omega arith in ap (λ j. b ^ j) e ∙ pow-zero b ∙ sym (pow-zero (b ^ i)))
pow-mul b i (suc j) =
    let e : i * suc j ≡ i * j + i = omega arith in
    rw e (pow-add b (i * j) i ∙ ap (λ x. x * b ^ i) (pow-mul b i j) ∙ sym (pow-suc (b ^ i) j))

pub one-pow : (i : ℕ) → 1 ^ i ≡ 1
one-pow zero = pow-zero 1
one-pow (suc i) = pow-suc 1 i ∙ ap (λ x. x * 1) (one-pow i)

-- a power that isn't greater has a base that isn't greater
pub bases : (a b u : ℕ) → 0 < u → a ^ u ≤ b ^ u → a ≤ b
bases a b u positive h =
    elim (cases_lt b a) [
      | inl less ↦ absurd (omega (arith, h, pow-lt-pow_left {a = b} {b = a} {n = u} less (λ e. omega (arith, positive, e))))
      | inr more ↦ more
    ]

-- ---- a table

-- each entry is the power of ten of its place, where the first place has the exponent k
abbrev pub are_powers : List ℕ → ℕ → Bool
are_powers [] k = true
are_powers (x ∷ xs) k = (x == 10 ^ k) && are_powers xs (suc k)

pub are_powers-at : (xs : List ℕ) (k i d : ℕ) → are_powers xs k ≡ true → i < length xs → get_or xs i d ≡ 10 ^ (k + i)
are_powers-at [] k i d all within = absurd (omega arith)
are_powers-at (x ∷ xs) k zero d all within =
    rw add-zero (eqb-true x (10 ^ k) (both-true (x == 10 ^ k) (are_powers xs (suc k)) all).0)
are_powers-at (x ∷ xs) k (suc i) d all within =
    are_powers-at xs (suc k) i d (both-true (x == 10 ^ k) (are_powers xs (suc k)) all).1 (omega arith)
    ∙ ap (λ j. 10 ^ j) (omega arith)
