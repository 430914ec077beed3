-- Products that round each factor, against exact ones, and estimates of them that take several factors at once. All that is
-- known of the factor 1 is that it is `one`, so that no power of it is ever evaluated.
use Rattle.std.proofs.Common.{◌≡◌, ℕ, zero, suc, ◌+◌, ◌*◌, ◌^◌, ◌<◌, ◌≤◌, ◌==◌, true, false, if◌then◌else◌, max, inl, inr, refl, ap, arith, rules, tests}
use Rattle.std.proofs.Math.Nat.{pow-suc, pow-zero, mul-le-mul_left, mul-le-mul_right, le_of_mul-le-mul_right}
use Rattle.std.proofs.lemmas.Nat.{mul-le}
use Rattle.fix_interval.specs.Roots.{product, digit_at}
use Rattle.fix_interval.proofs.DigitProducts.{product-cases}

-- how much a rounded product of two factors may exceed the exact one, and how much it may fall short of it
pub record Rounds (times : ℕ → ℕ → ℕ) (one up down : ℕ) : Type 0 where
  pub over : (p x : ℕ) → times p x * one ≤ p * x + up * one
  pub under : (p x : ℕ) → p * x ≤ times p x * one + down * one

-- the factor that a digit takes
abbrev pub chosen : ℕ → ℕ → ℕ → ℕ
chosen one digit factor = if digit == 1 then factor else one

-- the exact product of the factors of the first digits
unfoldable pub exact : ℕ → (ℕ → ℕ) → (ℕ → ℕ) → ℕ → ℕ
exact one digit factor zero = 1
exact one digit factor (suc count) = exact one digit factor count * chosen one (digit count) (factor count)

-- the same with each factor below 1 taken as 1: how far the factors spread an error
unfoldable pub spread : ℕ → (ℕ → ℕ) → (ℕ → ℕ) → ℕ → ℕ
spread one digit factor zero = 1
spread one digit factor (suc count) = spread one digit factor count * max (chosen one (digit count) (factor count)) one

pub exact-same : (one : ℕ) (d e f g : ℕ → ℕ) (count : ℕ) → ((i : ℕ) → i < count → d i ≡ e i) → ((i : ℕ) → i < count → f i ≡ g i) →
    exact one d f count ≡ exact one e g count
unfolding exact
exact-same one d e f g zero digits factors = refl
exact-same one d e f g (suc count) digits factors =
    let before = exact-same one d e f g count (λ i h. digits i (omega arith)) (λ i h. factors i (omega arith)) in
    rw (before, digits count (omega arith), factors count (omega arith)) refl

pub spread-same : (one : ℕ) (d e f g : ℕ → ℕ) (count : ℕ) → ((i : ℕ) → i < count → d i ≡ e i) → ((i : ℕ) → i < count → f i ≡ g i) →
    spread one d f count ≡ spread one e g count
unfolding spread
spread-same one d e f g zero digits factors = refl
spread-same one d e f g (suc count) digits factors =
    let before = spread-same one d e f g count (λ i h. digits i (omega arith)) (λ i h. factors i (omega arith)) in
    rw (before, digits count (omega arith), factors count (omega arith)) refl

spread-large : (one : ℕ) (digit factor : ℕ → ℕ) (count : ℕ) → one ^ count ≤ spread one digit factor count
unfolding spread
spread-large one digit factor zero = rw (pow-zero one) (omega arith)
spread-large one digit factor (suc count) =
    let before = spread-large one digit factor count in
    rw (pow-suc one count)
    (mul-le (one ^ count) one (spread one digit factor count) (max (chosen one (digit count) (factor count)) one) before (omega arith))

-- ---- one digit

-- c is the factor that the digit takes
digit-over : (times : ℕ → ℕ → ℕ) (one up down : ℕ) → Rounds times one up down → (factor : ℕ → ℕ) (start fraction place : ℕ) →
    product times factor start fraction (suc place) * one
    ≤ product times factor start fraction place * chosen one (digit_at fraction place) (factor place) + up * one
digit-over times one up down r factor start fraction place =
    let p = product times factor start fraction place in
    elim (product-cases times factor start fraction place) [
      | inl c ↦ (let e : (digit_at fraction place == 1) ≡ true = search (rules, tests, c.0) in rw (e, c.1) (r.over p (factor place)))
      | inr c ↦ (let e : (digit_at fraction place == 1) ≡ false = search (rules, tests, c.0) in rw (e, c.1) (omega arith))
    ]

digit-under : (times : ℕ → ℕ → ℕ) (one up down : ℕ) → Rounds times one up down → (factor : ℕ → ℕ) (start fraction place : ℕ) →
    product times factor start fraction place * chosen one (digit_at fraction place) (factor place)
    ≤ product times factor start fraction (suc place) * one + down * one
digit-under times one up down r factor start fraction place =
    let p = product times factor start fraction place in
    elim (product-cases times factor start fraction place) [
      | inl c ↦ (let e : (digit_at fraction place == 1) ≡ true = search (rules, tests, c.0) in rw (e, c.1) (r.under p (factor place)))
      | inr c ↦ (let e : (digit_at fraction place == 1) ≡ false = search (rules, tests, c.0) in rw (e, c.1) (omega arith))
    ]

-- p is the product before the digits, a the rounded one so far and b that after one more
step-over : (one unit p a b x e s t up n : ℕ) → b * one ≤ a * x + up * one → a * unit ≤ p * e + up * n * s → unit ≤ s → x ≤ t → one ≤ t →
    b * (unit * one) ≤ p * (e * x) + up * suc n * (s * t)
step-over one unit p a b x e s t up n last before large above least =
    let first = mul-le-mul_right unit last in
    let second = mul-le-mul_right x before in
    let third = mul-le-mul_left (up * n * s) above in
    let fourth = mul-le-mul_left up (mul-le unit one s t large least) in
    omega (arith, first, second, third, fourth)

step-under : (one unit p a b x e s t down n : ℕ) → a * x ≤ b * one + down * one → p * e ≤ a * unit + down * n * s → unit ≤ s → x ≤ t → one ≤ t →
    p * (e * x) ≤ b * (unit * one) + down * suc n * (s * t)
step-under one unit p a b x e s t down n last before large above least =
    let first = mul-le-mul_right unit last in
    let second = mul-le-mul_right x before in
    let third = mul-le-mul_left (down * n * s) above in
    let fourth = mul-le-mul_left down (mul-le unit one s t large least) in
    omega (arith, first, second, third, fourth)

-- ---- several digits

-- the rounded product of the digits after the place `from` isn't far above the exact one
pub product-over : (times : ℕ → ℕ → ℕ) (one up down : ℕ) → Rounds times one up down → (factor : ℕ → ℕ) (start fraction from count : ℕ) →
    product times factor start fraction (from + count) * one ^ count
    ≤ product times factor start fraction from * exact one (λ i. digit_at fraction (from + i)) (λ i. factor (from + i)) count
    + up * count * spread one (λ i. digit_at fraction (from + i)) (λ i. factor (from + i)) count
unfolding exact spread
product-over times one up down r factor start fraction from zero = rw (pow-zero one, ap (product times factor start fraction) (let e : from + 0 ≡ from = omega arith in e)) (omega arith)
product-over times one up down r factor start fraction from (suc count) =
    let digit : ℕ → ℕ = λ i. digit_at fraction (from + i) in
    let later : ℕ → ℕ = λ i. factor (from + i) in
    let x = chosen one (digit count) (later count) in
    let next : from + suc count ≡ suc (from + count) = omega arith in
    rw (pow-suc one count, ap (product times factor start fraction) next)
    (step-over one (one ^ count) (product times factor start fraction from) (product times factor start fraction (from + count))
    (product times factor start fraction (suc (from + count))) x (exact one digit later count) (spread one digit later count) (max x one) up count
    (digit-over times one up down r factor start fraction (from + count))
    (product-over times one up down r factor start fraction from count) (spread-large one digit later count) (omega arith) (omega arith))

-- nor far below it
pub product-under : (times : ℕ → ℕ → ℕ) (one up down : ℕ) → Rounds times one up down → (factor : ℕ → ℕ) (start fraction from count : ℕ) →
    product times factor start fraction from * exact one (λ i. digit_at fraction (from + i)) (λ i. factor (from + i)) count
    ≤ product times factor start fraction (from + count) * one ^ count
    + down * count * spread one (λ i. digit_at fraction (from + i)) (λ i. factor (from + i)) count
unfolding exact spread
product-under times one up down r factor start fraction from zero = rw (pow-zero one, ap (product times factor start fraction) (let e : from + 0 ≡ from = omega arith in e)) (omega arith)
product-under times one up down r factor start fraction from (suc count) =
    let digit : ℕ → ℕ = λ i. digit_at fraction (from + i) in
    let later : ℕ → ℕ = λ i. factor (from + i) in
    let x = chosen one (digit count) (later count) in
    let next : from + suc count ≡ suc (from + count) = omega arith in
    rw (pow-suc one count, ap (product times factor start fraction) next)
    (step-under one (one ^ count) (product times factor start fraction from) (product times factor start fraction (from + count))
    (product times factor start fraction (suc (from + count))) x (exact one digit later count) (spread one digit later count) (max x one) down count
    (digit-under times one up down r factor start fraction (from + count))
    (product-under times one up down r factor start fraction from count) (spread-large one digit later count) (omega arith) (omega arith))

-- ---- an estimate

-- q may exceed p by as much as `below`, and p may exceed q by as much as `above`
pub record IsNear (p q below above : ℕ) : Type 0 where
  pub least : q ≤ p + below
  pub most : p ≤ q + above

-- x, in units of 1/word, stands for the factor of several digits: their exact product is e, in units of 1/unit, and
-- they spread an error to at most s, which is at most most/least units
pub record IsFactor (word unit excess least most x e s : ℕ) : Type 0 where
  pub reached : x * unit ≤ e * word
  pub below_next : e * word ≤ (x + excess) * unit
  pub spreads : e ≤ s
  pub little : least * s ≤ most * unit

-- p goes to a by the digits, and q, which is near it, to b by the factor
pub near-step : (word unit excess least most more x e s p q a b up down below above below_after above_after : ℕ) → 0 < word → 0 < unit → 0 < least →
    IsFactor word unit excess least most x e s → a * unit ≤ p * e + up * s → p * e ≤ a * unit + down * s →
    b * word ≤ q * x → q * x ≤ b * word + word → q * excess ≤ more * word →
    (below + down) * most ≤ below_after * least → (above + up) * most ≤ above_after * least →
    IsNear p q below above → IsNear a b below_after (above_after + more + 1)
near-step word unit excess least most more x e s p q a b up down below above below_after above_after some whole part f over under moved_down moved_up small short_below short_above near =
    let reached = mul-le-mul_left q f.reached in
    let next = mul-le-mul_left q f.below_next in
    let down_moved = mul-le-mul_right unit moved_down in
    let up_moved = mul-le-mul_right unit moved_up in
    let excesses = mul-le-mul_right unit small in
    let before : b * unit ≤ q * e = le_of_mul-le-mul_right {k = word} (omega (arith, reached, down_moved)) some in
    let after : q * e ≤ (b + 1 + more) * unit = le_of_mul-le-mul_right {k = word} (omega (arith, next, up_moved, excesses)) some in
    record {
      least = under-kept unit least most e s p q a b down below below_after whole part f.spreads f.little before under short_below near.least;
      most = over-kept unit least most e s p q a b up above above_after more whole part f.spreads f.little after over short_above near.most;
    }
  where
    under-kept : (unit least most e s p q a b down below below_after : ℕ) → 0 < unit → 0 < least → e ≤ s → least * s ≤ most * unit → b * unit ≤ q * e →
        p * e ≤ a * unit + down * s → (below + down) * most ≤ below_after * least → q ≤ p + below → b ≤ a + below_after
    under-kept unit least most e s p q a b down below below_after whole part spreads little before under short near =
        let first = mul-le-mul_right e near in
        let second = mul-le-mul_left below spreads in
        let third = mul-le-mul_left (below + down) little in
        let fourth = mul-le-mul_right unit short in
        let errors : (below + down) * s ≤ below_after * unit = le_of_mul-le-mul_right {k = least} (omega (arith, third, fourth)) part in
        le_of_mul-le-mul_right {k = unit} (omega (arith, before, first, under, second, errors)) whole

    over-kept : (unit least most e s p q a b up above above_after more : ℕ) → 0 < unit → 0 < least → e ≤ s → least * s ≤ most * unit → q * e ≤ (b + 1 + more) * unit →
        a * unit ≤ p * e + up * s → (above + up) * most ≤ above_after * least → p ≤ q + above → a ≤ b + (above_after + more + 1)
    over-kept unit least most e s p q a b up above above_after more whole part spreads little after over short near =
        let first = mul-le-mul_right e near in
        let second = mul-le-mul_left above spreads in
        let third = mul-le-mul_left (above + up) little in
        let fourth = mul-le-mul_right unit short in
        let errors : (above + up) * s ≤ above_after * unit = le_of_mul-le-mul_right {k = least} (omega (arith, third, fourth)) part in
        le_of_mul-le-mul_right {k = unit} (omega (arith, after, first, over, second, errors)) whole
