-- Ten to the power of a whole interval, from those of its ends.
use Rattle.std.proofs.Common.{◌≡◌, ℕ, suc, ◌*◌, ◌/◌, ◌%◌, ◌^◌, ◌<◌, ◌≤◌, ◌⊎◌, inl, inr, refl, sym, ap, ◌∙◌, subst, arith, ℤ, pos, negsuc, ◌+ℤ◌, ◌-ℤ◌, ◌≤ℤ◌, ◌<ℤ◌, neg_ℤ, unsigned_abs, Option, Some, None, IfSome, IsSomeAnd}
use Rattle.std.proofs.lemmas.Int.{ints, by_lt_z}
use Rattle.std.proofs.lemmas.Bool.{cases_lt}
use Rattle.std.specs.Option.{option_map_or, option_and_then}
use Rattle.std.proofs.lemmas.Nat.{mul-le, mul-pow}
use Rattle.std.proofs.lemmas.Grind.{div_ceil_times}
use Rattle.std.proofs.Math.Nat.{one-le-pow, pow-le-pow_left, pow-le-pow_right, pow-lt-pow_left, mul-le-mul_right, le_of_mul-le-mul_left, div-mul-le_self}
use Rattle.fix_interval.specs.Units.{unit, unit-is}
use Rattle.fix_interval.specs.Interval.{Interval, IsInterval}
use Rattle.fix_interval.specs.Rules.{HoldsTenPower, EndMeets}
use Rattle.fix_interval.specs.Lg.{IsAtMostLg, IsAtLeastLg}
use Rattle.fix_interval.specs.Ten.{fraction_low, fraction_high, raised_low, raised_high, ten_low, ten_high, ten_of}
use Rattle.fix_interval.proofs.Powers.{pow-mul, one-pow, bases}
use Rattle.fix_interval.proofs.Spans.{unit-pos}
use Rattle.fix_interval.proofs.TenLaw.{raised_low-law, raised_high-law}
use Rattle.fix_interval.proofs.Shifted.{at_most-shifted, at_least-shifted}
use Rattle.enclose_exp.proofs.Exponents.{ten_low-greatest, ten_low-least, ten_low-within, ten_high-greatest, ten_high-least, ten_high-within}
use Rattle.fix_interval.proofs.TenTables.{fraction_low-small, fraction_high-small}

-- where an exponent stands
pub data Place (n : ℤ) : Type 0 where
  least : n <ℤ neg_ℤ (pos (19 * 2 ^ 32)) → Place n
  within : neg_ℤ (pos (19 * 2 ^ 32)) ≤ℤ n → n <ℤ pos (20 * 2 ^ 32) → Place n
  greatest : pos (20 * 2 ^ 32) ≤ℤ n → Place n

pub place_of : (n : ℤ) → Place n
place_of n =
    by_lt_z n (neg_ℤ (pos (19 * 2 ^ 32))) (λ h. least h)
    (λ low. by_lt_z n (pos (20 * 2 ^ 32)) (λ high. within low high) (λ h. greatest h))

-- an exponent within the range, counted from -20
abbrev pub shifted : (n : ℤ) → ℕ
shifted n = unsigned_abs (n +ℤ pos (20 * 2 ^ 32))

shifted-is : (n : ℤ) → neg_ℤ (pos (19 * 2 ^ 32)) ≤ℤ n → pos (shifted n) ≡ n +ℤ pos (20 * 2 ^ 32)
shifted-is n low = whole (n +ℤ pos (20 * 2 ^ 32)) (omega (arith, ints))
  where
    whole : (z : ℤ) → pos 0 ≤ℤ z → pos (unsigned_abs z) ≡ z
    whole (pos m) h = refl
    whole (negsuc m) h = absurd (omega (arith, ints, h))

shifted-back : (n : ℤ) → neg_ℤ (pos (19 * 2 ^ 32)) ≤ℤ n → pos (shifted n) -ℤ pos (20 * unit) ≡ n
shifted-back n low = rw unit-is (omega (arith, ints, shifted-is n low))

shifted-small : (n : ℤ) → neg_ℤ (pos (19 * 2 ^ 32)) ≤ℤ n → n <ℤ pos (20 * 2 ^ 32) → shifted n < 40 * 2 ^ 32
shifted-small n low high = omega (arith, ints, shifted-is n low, high)

pub shifted-ordered : (m n : ℤ) → neg_ℤ (pos (19 * 2 ^ 32)) ≤ℤ m → m ≤ℤ n → shifted m ≤ shifted n
shifted-ordered m n low le = (let second : neg_ℤ (pos (19 * 2 ^ 32)) ≤ℤ n = omega (arith, ints) in omega (arith, ints, shifted-is m low, shifted-is n second))

-- ---- the laws of an end

greatest-law : (m u : ℕ) → u ≡ 2 ^ 32 → 20 * u ≤ m → (10 ^ 20 * u) ^ u ≤ 10 ^ m * u ^ u
greatest-law m u e reached =
    let more : 10 ^ (20 * u) ≤ 10 ^ m = pow-le-pow_right {n = 10} (omega arith) {i = 20 * u} {j = m} reached in
    rw (mul-pow (10 ^ 20) u u, ← pow-mul 10 20 u) (mul-le-mul_right (u ^ u) more)

least-law : (m u : ℕ) → u ≡ 2 ^ 32 → 19 * u ≤ m → u ^ u ≤ 10 ^ m * 1 ^ u
least-law m u e reached =
    let more : 10 ^ (19 * u) ≤ 10 ^ m = pow-le-pow_right {n = 10} (omega arith) {i = 19 * u} {j = m} reached in
    let base : u ≤ 10 ^ 19 = omega (arith, e) in
    let powers : u ^ u ≤ (10 ^ 19) ^ u = pow-le-pow_left base u in
    let lifted : (10 ^ 19) ^ u ≡ 10 ^ (19 * u) = sym (pow-mul 10 19 u) in
    rw (one-pow u) (omega (arith, powers, lifted, more))

greatest-end : (n : ℤ) → pos (20 * 2 ^ 32) ≤ℤ n → IsAtLeastLg n (10 ^ 20 * 2 ^ 32)
greatest-end (pos m) h =
    let reached : 20 * unit ≤ m = rw unit-is (omega (arith, ints, h)) in
    let law = greatest-law m unit unit-is reached in
    let P : ℕ → Type 0 = λ y. (10 ^ 20 * y) ^ unit ≤ 10 ^ m * unit ^ unit in subst P unit-is law
greatest-end (negsuc m) h = absurd (omega (arith, ints, h))

least-end : (n : ℤ) → n <ℤ neg_ℤ (pos (19 * 2 ^ 32)) → IsAtMostLg n 1
least-end (pos m) h = absurd (omega (arith, ints, h))
least-end (negsuc m) h = least-law (suc m) unit unit-is (rw unit-is (omega (arith, ints, h)))

low-end : (n : ℤ) → (pos (ten_low n) ≤ℤ pos 0) ⊎ IsAtLeastLg n (ten_low n)
low-end n =
    elim (place_of n) [
      | least h ↦ inl (rw (ten_low-least n h) (omega (arith, ints)))
      | within low high ↦ inr (rw (ten_low-within n low high)
          (let law = at_least-shifted (shifted n) (20 * unit) (raised_low (shifted n)) (raised_low-law (shifted n)) in
          let P : ℤ → Type 0 = λ z. IsAtLeastLg z (raised_low (shifted n)) in subst P (shifted-back n low) law))
      | greatest h ↦ inr (rw (ten_low-greatest n h) (greatest-end n h))
    ]

-- both ends of a power of ten fit, and the high end is above 0
low-small : (n : ℤ) → ten_low n < 2 ^ 126
low-small n =
    elim (place_of n) [
      | least h ↦ rw (ten_low-least n h) (omega arith)
      | within low high ↦ rw (ten_low-within n low high) (raised_low-small (shifted n) (shifted-small n low high))
      | greatest h ↦ rw (ten_low-greatest n h) (omega arith)
    ]
  where
    raised_low-small : (s : ℕ) → s < 40 * 2 ^ 32 → raised_low s < 2 ^ 126
    raised_low-small s small =
        let p = fraction_low (s % unit) in
        let whole : s / unit ≤ 39 = rw unit-is (omega (arith, small)) in
        let power : 10 ^ (s / unit) ≤ 10 ^ 39 = pow-le-pow_right {n = 10} (omega arith) {i = s / unit} {j = 39} whole in
        let product = mul-le p (10 ^ (s / unit)) (2 ^ 64) (10 ^ 39) (omega (arith, fraction_low-small (s % unit))) power in
        omega (arith, product, div-mul-le_self (p * 10 ^ (s / unit)) (10 ^ 20 * 2 ^ 28))

raised_high-small : (s : ℕ) → s < 40 * 2 ^ 32 → raised_high s < 2 ^ 126
raised_high-small s small =
    let p = fraction_high (s % unit) in
    let whole : s / unit ≤ 39 = rw unit-is (omega (arith, small)) in
    let power : 10 ^ (s / unit) ≤ 10 ^ 39 = pow-le-pow_right {n = 10} (omega arith) {i = s / unit} {j = 39} whole in
    let product = mul-le p (10 ^ (s / unit)) (2 ^ 64) (10 ^ 39) (omega (arith, fraction_high-small (s % unit))) power in
    omega (arith, product, (div_ceil_times (p * 10 ^ (s / unit)) (10 ^ 20 * 2 ^ 28) (omega arith)).1)

raised-ordered : (s t : ℕ) → s ≤ t → raised_low s ≤ raised_high t
raised-ordered s t le =
    let grown = mul-le-mul_right (unit ^ unit) (pow-le-pow_right {n = 10} (omega arith) {i = s} {j = t} le) in
    let shift : 0 < 10 ^ (20 * unit) = one-le-pow (20 * unit) 10 (omega arith) in
    let powers : raised_low s ^ unit ≤ raised_high t ^ unit =
    le_of_mul-le-mul_left {k = 10 ^ (20 * unit)} (omega (arith, raised_low-law s, raised_high-law t, grown)) shift in
    bases (raised_low s) (raised_high t) unit unit-pos powers

raised_high-positive : (s : ℕ) → 0 < raised_high s
raised_high-positive s =
    let left : 0 < 10 ^ s * unit ^ unit = mul-le 1 1 (10 ^ s) (unit ^ unit) (one-le-pow s 10 (omega arith)) (one-le-pow unit unit unit-pos) in
    elim (cases_lt 0 (raised_high s)) [
      | inl above ↦ above
      | inr none ↦ (let zero_end : raised_high s ≡ 0 = omega arith in
          let less : 0 ^ unit < 1 ^ unit = pow-lt-pow_left {a = 0} {b = 1} {n = unit} (omega arith) (λ e. omega (arith, unit-pos, e)) in
          let power : raised_high s ^ unit ≡ 0 ^ unit = ap (λ y. y ^ unit) zero_end in
          let nothing : raised_high s ^ unit ≡ 0 = omega (arith, power, less, one-pow unit) in
          let product : 10 ^ (20 * unit) * raised_high s ^ unit ≡ 0 = ap (λ y. 10 ^ (20 * unit) * y) nothing ∙ omega arith in
          absurd (omega (arith, left, raised_high-law s, product)))
    ]

-- the high end
pub record IsHighEnd (n : ℤ) (h : ℤ) : Type 0 where
  pub small : unsigned_abs h < 2 ^ 126
  pub positive : pos 1 ≤ℤ h
  pub reaches : IsAtMostLg n (unsigned_abs h)

high-end : (n : ℤ) → IfSome (ten_high n) (IsHighEnd n)
high-end n =
    elim (place_of n) [
      | least h ↦ rw (ten_high-least n h) (record { small = omega arith; positive = omega (arith, ints); reaches = least-end n h })
      | within low high ↦ rw (ten_high-within n low high) (record {
        small = raised_high-small (shifted n) (shifted-small n low high);
        positive = omega (arith, ints, raised_high-positive (shifted n));
        reaches = (let law = at_most-shifted (shifted n) (20 * unit) (raised_high (shifted n)) (raised_high-law (shifted n)) in
            let P : ℤ → Type 0 = λ z. IsAtMostLg z (raised_high (shifted n)) in subst P (shifted-back n low) law);
      })
      | greatest h ↦ rw (ten_high-greatest n h) tt
    ]

-- the low end isn't above it
pub ends-ordered : (m n : ℤ) → m ≤ℤ n → IfSome (ten_high n) (λ h. pos (ten_low m) ≤ℤ h)
ends-ordered m n le =
    elim (place_of n) [
      | least h ↦ (let below : m <ℤ neg_ℤ (pos (19 * 2 ^ 32)) = omega (arith, ints) in
          rw (ten_high-least n h, ten_low-least m below) (omega (arith, ints)))
      | within low high ↦ rw (ten_high-within n low high) (elim (place_of m) [
        | least h ↦ rw (ten_low-least m h) (omega (arith, ints))
        | within low_m high_m ↦ rw (ten_low-within m low_m high_m) (omega (arith, ints, raised-ordered (shifted m) (shifted n) (shifted-ordered m n low_m le)))
        | greatest h ↦ absurd (omega (arith, ints))
      ])
      | greatest h ↦ rw (ten_high-greatest n h) tt
    ]

-- ---- the interval

abbrev ends : Option ℤ → Option ℤ → Interval
ends lo hi = record { lo = Some (pos (option_map_or ten_low lo 0)); hi = option_and_then ten_high hi }

ten_of-ends : (lo hi : Option ℤ) → ten_of (record { lo = lo; hi = hi }) ≡ ends lo hi
unfolding ten_of
ten_of-ends lo hi = refl

made-interval : (l : ℕ) (n : ℤ) (high : Option ℤ) → l < 2 ^ 126 → IfSome high (IsHighEnd n) → IfSome high (λ h. pos l ≤ℤ h) → IsInterval (record { lo = Some (pos l); hi = high })
made-interval l n None small end order = record { low_end = small; high_end = tt; ordered = tt }
made-interval l n (Some h) small end order = record { low_end = small; high_end = end.small; ordered = order }

from-nothing : (n : ℤ) (high : Option ℤ) → IfSome high (IsHighEnd n) → IfSome high (λ h. pos 0 ≤ℤ h)
from-nothing n None end = tt
from-nothing n (Some h) end = (let above = end.positive in omega (arith, ints))

ends-interval : (lo hi : Option ℤ) → IsInterval (record { lo = lo; hi = hi }) → IsInterval (ends lo hi)
ends-interval None None i = record { low_end = omega arith; high_end = tt; ordered = tt }
ends-interval None (Some n) i = made-interval 0 n (ten_high n) (omega arith) (high-end n) (from-nothing n (ten_high n) (high-end n))
ends-interval (Some m) None i = record { low_end = low-small m; high_end = tt; ordered = tt }
ends-interval (Some m) (Some n) i = made-interval (ten_low m) n (ten_high n) (low-small m) (high-end n) (ends-ordered m n i.ordered)

reaching : (n : ℤ) (high : Option ℤ) → IfSome high (IsHighEnd n) → EndMeets (λ h n. (pos 0 ≤ℤ h) × IsAtMostLg n (unsigned_abs h)) high (Some n)
reaching n None end = tt
reaching n (Some h) end = (let above = end.positive in omega (arith, ints), end.reaches)

ends-hold : (lo hi : Option ℤ) → HoldsTenPower (record { lo = lo; hi = hi }) (ends lo hi)
ends-hold lo hi = record { low = low lo; high = high hi }
  where
    low : (lo : Option ℤ) → (pos (option_map_or ten_low lo 0) ≤ℤ pos 0) ⊎ IsSomeAnd lo (λ n. IsAtLeastLg n (option_map_or ten_low lo 0))
    low None = inl (omega (arith, ints))
    low (Some n) = low-end n

    high : (hi : Option ℤ) → EndMeets (λ h n. (pos 0 ≤ℤ h) × IsAtMostLg n (unsigned_abs h)) (option_and_then ten_high hi) hi
    high None = tt
    high (Some n) = reaching n (ten_high n) (high-end n)

pub ten_of-interval : (i : Interval) → IsInterval i → IsInterval (ten_of i)
ten_of-interval i whole = rw (ten_of-ends i.lo i.hi) (ends-interval i.lo i.hi whole)

pub ten_of-holds : (i : Interval) → HoldsTenPower i (ten_of i)
ten_of-holds i = rw (ten_of-ends i.lo i.hi) (ends-hold i.lo i.hi)

positive-end : (n : ℤ) (high : Option ℤ) → IfSome high (IsHighEnd n) → IfSome high (λ z. pos 1 ≤ℤ z)
positive-end n None end = tt
positive-end n (Some h) end = end.positive

pub ten_high-positive : (n : ℤ) → IfSome (ten_high n) (λ z. pos 1 ≤ℤ z)
ten_high-positive n = positive-end n (ten_high n) (high-end n)

ends-high : (hi : Option ℤ) → IfSome (option_and_then ten_high hi) (λ z. pos 1 ≤ℤ z)
ends-high None = tt
ends-high (Some n) = ten_high-positive n

pub ten_of-low : (i : Interval) → IsSomeAnd (ten_of i).lo (λ z. pos 0 ≤ℤ z)
ten_of-low i = rw (ten_of-ends i.lo i.hi) (omega (arith, ints))

pub ten_of-high : (i : Interval) → IfSome (ten_of i).hi (λ z. pos 1 ≤ℤ z)
ten_of-high i = rw (ten_of-ends i.lo i.hi) (ends-high i.hi)

-- what the code makes
pub made-is : (i : Interval) (low high : Option ℤ) → low ≡ Some (pos (option_map_or ten_low i.lo 0)) → high ≡ option_and_then ten_high i.hi → record { lo = low; hi = high } ≡ ten_of i
made-is i low high below above = rw (below, above) (sym (ten_of-ends i.lo i.hi))
