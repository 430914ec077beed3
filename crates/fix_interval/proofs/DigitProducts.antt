-- Products of factors by their digits.
use Rattle.std.proofs.Common.{◌≡◌, ℕ, zero, suc, ◌<◌, ◌≤◌, ◌⊎◌, ◌==◌, true, false, cond, inl, inr, refl, ◌∙◌, arith, rules, tests, List, [], ◌∷◌, length, get_or, drop}
use Rattle.std.proofs.lemmas.Bool.{cases_lt}
use Rattle.std.proofs.Math.Seq.{drop-cons}
use Rattle.fix_interval.specs.Roots.{digit_at, product}

-- one more place
pub product-suc : (times : ℕ → ℕ → ℕ) (factor : ℕ → ℕ) (start fraction place : ℕ) →
    product times factor start fraction (suc place)
    ≡ cond (digit_at fraction place == 1) (times (product times factor start fraction place) (factor place)) (product times factor start fraction place)
unfolding product
product-suc times factor start fraction place = refl

pub product-zero : (times : ℕ → ℕ → ℕ) (factor : ℕ → ℕ) (start fraction : ℕ) → product times factor start fraction 0 ≡ start
unfolding product
product-zero times factor start fraction = refl

-- the two ways that a place goes
pub product-cases : (times : ℕ → ℕ → ℕ) (factor : ℕ → ℕ) (start fraction place : ℕ) →
    ((digit_at fraction place ≡ 1) × (product times factor start fraction (suc place) ≡ times (product times factor start fraction place) (factor place)))
    ⊎ ((digit_at fraction place ≡ 0) × (product times factor start fraction (suc place) ≡ product times factor start fraction place))
product-cases times factor start fraction place =
    elim (cases_lt (digit_at fraction place) 1) [
      | inl zero_digit ↦ (let e : (digit_at fraction place == 1) ≡ false = search (rules, tests, zero_digit) in
          inr (omega arith, product-suc times factor start fraction place ∙ rw e refl))
      | inr one_digit ↦ (let one : digit_at fraction place ≡ 1 = omega arith in
          let e : (digit_at fraction place == 1) ≡ true = search (rules, tests, one) in
          inl (one, product-suc times factor start fraction place ∙ rw e refl))
    ]

-- factors that agree at each place give one product
pub product-same : (times : ℕ → ℕ → ℕ) (f g : ℕ → ℕ) (start fraction count : ℕ) → ((i : ℕ) → i < count → f i ≡ g i) →
    product times f start fraction count ≡ product times g start fraction count
unfolding product
product-same times f g start fraction zero same = refl
product-same times f g start fraction (suc count) same =
    let before = product-same times f g start fraction count (λ i h. same i (omega arith)) in
    rw (before, same count (omega arith)) refl

-- fractions whose digits agree at each place give one product
pub product-digits : (times : ℕ → ℕ → ℕ) (factor : ℕ → ℕ) (start a b count : ℕ) → ((i : ℕ) → i < count → digit_at a i ≡ digit_at b i) →
    product times factor start a count ≡ product times factor start b count
unfolding product
product-digits times factor start a b zero same = refl
product-digits times factor start a b (suc count) same =
    let before = product-digits times factor start a b count (λ i h. same i (omega arith)) in
    rw (before, same count (omega arith)) refl

-- ---- factors that are at most 1: no product passes the start

pub product-le_start : (times : ℕ → ℕ → ℕ) (factor : ℕ → ℕ) (start fraction count : ℕ) → ((p i : ℕ) → i < count → times p (factor i) ≤ p) →
    product times factor start fraction count ≤ start
product-le_start times factor start fraction zero shrinks = rw (product-zero times factor start fraction) (omega arith)
product-le_start times factor start fraction (suc count) shrinks =
    let before = product-le_start times factor start fraction count (λ p i h. shrinks p i (omega arith)) in
    let step = shrinks (product times factor start fraction count) count (omega arith) in
    elim (product-cases times factor start fraction count) [
      | inl c ↦ omega (arith, c.1, before, step)
      | inr c ↦ omega (arith, c.1, before)
    ]

-- ---- factors that are at least 1: no product passes the one of all of them

-- the start times all factors
abbrev pub product_of_all : (ℕ → ℕ → ℕ) → List ℕ → ℕ → ℕ
product_of_all times [] start = start
product_of_all times (x ∷ xs) start = product_of_all times xs (times start x)

-- What `times` must keep for this
pub record Grows (times : ℕ → ℕ → ℕ) (least : ℕ) : Type 0 where
  pub monotone : (p q x : ℕ) → p ≤ q → times p x ≤ times q x
  pub grows : (p x : ℕ) → least ≤ x → p ≤ times p x

monotone-all : (times : ℕ → ℕ → ℕ) (least : ℕ) → Grows times least → (xs : List ℕ) (p q : ℕ) → p ≤ q → product_of_all times xs p ≤ product_of_all times xs q
monotone-all times least g [] p q le = le
monotone-all times least g (x ∷ xs) p q le = monotone-all times least g xs (times p x) (times q x) (g.monotone p q x le)

grows-all : (times : ℕ → ℕ → ℕ) (least : ℕ) → Grows times least → (xs : List ℕ) (p : ℕ) → ((i : ℕ) → i < length xs → least ≤ get_or xs i 0) → p ≤ product_of_all times xs p
grows-all times least g [] p large = omega arith
grows-all times least g (x ∷ xs) p large =
    let first = g.grows p x (large 0 (omega arith)) in
    let rest = grows-all times least g xs (times p x) (λ i h. large (suc i) (omega arith)) in
    omega (arith, first, rest)

grows-drop : (times : ℕ → ℕ → ℕ) (least : ℕ) → Grows times least → (xs : List ℕ) (i p : ℕ) → ((j : ℕ) → j < length xs → least ≤ get_or xs j 0) → p ≤ product_of_all times (drop i xs) p
grows-drop times least g xs zero p large = grows-all times least g xs p large
grows-drop times least g [] (suc i) p large = omega arith
grows-drop times least g (x ∷ xs) (suc i) p large = grows-drop times least g xs i p (λ j h. large (suc j) (omega arith))

-- the product so far, times all the factors that are left, is at most the product of all
kept-all : (times : ℕ → ℕ → ℕ) (least : ℕ) → Grows times least → (xs : List ℕ) (start fraction count : ℕ) → ((i : ℕ) → i < length xs → least ≤ get_or xs i 0) → count ≤ length xs →
    product_of_all times (drop count xs) (product times (λ i. get_or xs i 0) start fraction count) ≤ product_of_all times xs start
kept-all times least g xs start fraction zero large within = rw (product-zero times (λ i. get_or xs i 0) start fraction) (omega arith)
kept-all times least g xs start fraction (suc count) large within =
    let p = product times (λ i. get_or xs i 0) start fraction count in
    let before = kept-all times least g xs start fraction count large (omega arith) in
    let short : count < length xs = omega arith in
    let split = drop-cons xs count 0 short in
    let unfolded : product_of_all times (drop count xs) p ≡ product_of_all times (drop (suc count) xs) (times p (get_or xs count 0)) = rw split refl in
    elim (product-cases times (λ i. get_or xs i 0) start fraction count) [
      | inl c ↦ rw c.1 (omega (arith, before, unfolded))
      | inr c ↦ rw c.1 (let step = monotone-all times least g (drop (suc count) xs) p (times p (get_or xs count 0)) (g.grows p (get_or xs count 0) (large count short)) in omega (arith, before, unfolded, step))
    ]

-- no product passes the one of all factors
pub product-le_all : (times : ℕ → ℕ → ℕ) (least : ℕ) → Grows times least → (xs : List ℕ) (start fraction count : ℕ) → ((i : ℕ) → i < length xs → least ≤ get_or xs i 0) → count ≤ length xs →
    product times (λ i. get_or xs i 0) start fraction count ≤ product_of_all times xs start
product-le_all times least g xs start fraction count large within =
    let kept = kept-all times least g xs start fraction count large within in
    let rest = grows-drop times least g xs count (product times (λ i. get_or xs i 0) start fraction count) large in
    omega (arith, kept, rest)
