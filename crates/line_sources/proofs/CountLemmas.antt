-- The least number of pieces of a leg, by the square root of its squared length.
use Rattle.std.proofs.Common.{◌≡◌, ℕ, zero, suc, ◌+◌, ◌-◌, ◌*◌, ◌<◌, ◌≤◌, inl, inr, true, arith, rules, tests, refl}
use Rattle.std.specs.Int.{div_ceil}
use Rattle.std.proofs.lemmas.Bool.{cases_lt}
use Rattle.std.proofs.lemmas.Nat.{mul-le}
use Rattle.std.proofs.lemmas.Grind.{div_ceil_times}
use Rattle.std.proofs.Math.Nat.{mul-le-mul_left, mul-le-mul_right}
use borrow.Author.Tests.{ltb-true, ltb-false}
use Rattle.fix_interval.specs.Lg.{greatest}
use Rattle.enclose_log.proofs.Value.{greatest-passes, greatest-le, greatest-last}
use Rattle.line_sources.specs.Legs.{is_too_few, count_of}
use Rattle.line_sources.specs.Tiles.{AreFewest}

-- as many pieces as the number n are enough
enough : (n piece : ℕ) → 1 ≤ piece → n ≤ suc n * suc n * (piece * piece)
enough n piece least =
    let square = mul-le 1 1 piece piece least least in
    let more = mul-le 1 (suc n) (suc n) (suc n) (omega arith) (omega arith) in
    omega (arith, more, mul-le-mul_left (suc n * suc n) square)

short : (n piece g : ℕ) → 1 ≤ piece → g ≡ greatest (is_too_few n piece) n → n ≤ suc g * suc g * (piece * piece)
short n piece g least e =
    elim (cases_lt g n) [
      | inl below ↦ ltb-false (suc g * suc g * (piece * piece)) n (greatest-last (is_too_few n piece) n (suc g) (omega (arith, e)) (omega (arith, below)))
      | inr all ↦ (let same : g ≡ n = omega (arith, all, e, greatest-le (is_too_few n piece) n) in rw same (enough n piece least))
    ]

pub count_of-fewest : (n piece : ℕ) → 1 ≤ n → 1 ≤ piece → AreFewest n piece (count_of n piece)
unfolding count_of
count_of-fewest n piece some least =
    let g = greatest (is_too_few n piece) n in
    let first : is_too_few n piece 0 ≡ true = search (rules, tests, some) in
    let before : g * g * (piece * piece) < n = ltb-true (g * g * (piece * piece)) n (greatest-passes (is_too_few n piece) n first) in
    record {
      some = omega arith;
      short = short n piece g least refl;
      least = λ k k_some k_short. elim (cases_lt g k) [
        | inl more ↦ more
        | inr fewer ↦ absurd (omega (arith, before, k_short, mul-le-mul_right (piece * piece) (mul-le k k g g fewer fewer)))
      ];
    }

-- one less is too few
one-less : (n piece g : ℕ) → AreFewest n piece (suc g) → 1 ≤ g → g * g * (piece * piece) < n
one-less n piece g f some =
    elim (cases_lt (g * g * (piece * piece)) n) [
      | inl is ↦ is
      | inr not_less ↦ absurd (omega (arith, f.least g some not_less))
    ]

-- the count by the root: r is the root rounded up, and c how many pieces make that
pub count_of-is : (n piece r : ℕ) → 1 ≤ n → 1 ≤ piece → 1 ≤ r → n ≤ r * r → (r - 1) * (r - 1) < n → div_ceil r piece ≡ count_of n piece
count_of-is n piece r some least root above next =
    by (div_ceil r piece) (count_of n piece) (div_ceil_times r piece least) (count_of-fewest n piece some least)
  where
    by : (c k : ℕ) → (r ≤ c * piece) × (c * piece < r + piece) → AreFewest n piece k → c ≡ k
    by zero k times f = absurd (omega (arith, times.0, root))
    by (suc g) k times f =
        let within : g * piece ≤ r - 1 = omega (arith, times.1) in
        let too_few : g * g * (piece * piece) < n = omega (arith, next, mul-le (g * piece) (g * piece) (r - 1) (r - 1) within within) in
        let wide = mul-le r r (suc g * piece) (suc g * piece) times.0 times.0 in
        let most : k ≤ suc g = f.least (suc g) (omega arith) (omega (arith, above, wide)) in
        let least : suc g ≤ k = elim (cases_lt g k) [
          | inl more ↦ more
          | inr fewer ↦ absurd (omega (arith, too_few, f.short, mul-le-mul_right (piece * piece) (mul-le k k g g fewer fewer)))
        ] in
        omega (arith, most, least)

-- a piece is at least a millimetre long
pub fewest-few : (n piece c : ℕ) → 1 ≤ n → 2 ≤ piece → AreFewest n piece c → c * c ≤ n
fewest-few n piece zero some two f = omega arith
fewest-few n piece (suc zero) some two f = omega (arith, some)
fewest-few n piece (suc (suc g)) some two f =
    let less : suc g * suc g * (piece * piece) < n = one-less n piece (suc g) f (omega arith) in
    let four = mul-le 2 2 piece piece two two in
    let square = mul-le-mul_left (suc g * suc g) four in
    omega (arith, less, square)

-- and at most as long as a piece may be
pub fewest-short : (n piece c : ℕ) → piece ≤ 1000000 → AreFewest n piece c → n ≤ 1000000000000 * (c * c)
fewest-short n piece c most f =
    omega (arith, f.short, mul-le-mul_left (c * c) (mul-le piece piece 1000000 1000000 most most))

-- the root of the longest way in the plan
pub root-small : (r n : ℕ) → r * r ≤ n → n ≤ 128000000000000 → r ≤ 11313708
root-small r n h small =
    elim (cases_lt 11313708 r) [
      | inl large ↦ absurd (omega (arith, h, small, mul-le 11313709 11313709 r r large large))
      | inr within ↦ within
    ]
