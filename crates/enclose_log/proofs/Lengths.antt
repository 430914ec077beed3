-- The logarithm of a length whose square is a fraction, from a millionth to a million: the ends of its enclosure are the
-- logarithms of two roots, and these are near.
use Rattle.std.proofs.Common.{◌≡◌, ℕ, ◌+◌, ◌-◌, ◌*◌, ◌/◌, ◌^◌, ◌<◌, ◌≤◌, inl, inr, refl, ap, ◌∙◌, arith, false, pos, ◌≤ℤ◌, min}
use Rattle.std.specs.Prelude.{Some, int_lt}
use Rattle.std.specs.Int.{div_ceil}
use Rattle.std.proofs.lemmas.Int.{ints}
use Rattle.std.proofs.lemmas.Bool.{cases_lt}
use Rattle.std.proofs.lemmas.Nat.{mul-le, le-div}
use Rattle.std.proofs.lemmas.Grind.{div_ceil_times}
use Rattle.std.proofs.Math.Nat.{mul-le-mul_right, le_of_mul-le-mul_right, lt_of_mul-lt-mul_right, lt-div-mul-add, div-mul-le_self}
use Rattle.fix_interval.specs.Units.{unit, unit-is}
use Rattle.fix_interval.specs.Round.{floor_root, ceil_root}
use Rattle.fix_interval.specs.Values.{ratio_of, root_of}
use Rattle.fix_interval.specs.Lg.{lg_low, lg_high, lg_of}
use Rattle.fix_interval.specs.Tree.{Const, Root, Lg, enc}
use Rattle.fix_interval.proofs.Ratios.{ratio_of-small}
use Rattle.fix_interval.proofs.Rounding.{ceil_of-pos}
use Rattle.fix_interval.proofs.Rooting.{floor_root-below, floor_root-above, ceil_root-above, ceil_root-le, high_root_is, root_of-roots}
use Rattle.enclose_log.specs.Narrow.{IsNarrow}
use Rattle.enclose_log.proofs.LgInterval.{lg_of-ends}
use Rattle.enclose_log.proofs.NearEnds.{low_exponent, high_exponent, lg_low-exponent, lg_high-exponent, ends-narrow}

-- what a length is: from a millimetre to a kilometre, where n / q is its square in m²
pub record IsLength (n q : ℕ) : Type 0 where
  pub divisor : 0 < q
  pub least : q ≤ 1000000 * n
  pub most : n ≤ 1000000 * q
  pub small : n < 2 ^ 94

-- the roots of both ends of the fraction
abbrev pub low_root : ℕ → ℕ → ℕ
low_root n q = floor_root (n * unit / q * unit)

abbrev pub high_root : ℕ → ℕ → ℕ
high_root n q = ceil_root (div_ceil (n * unit) q * unit)

-- ---- the ends of the fraction

record Fraction (n q : ℕ) : Type 0 where
  down : n * unit / q * q ≤ n * unit
  up : n * unit ≤ div_ceil (n * unit) q * q
  least : 4294 ≤ n * unit / q
  near : div_ceil (n * unit) q ≤ n * unit / q + 1
  small : div_ceil (n * unit) q < 2 ^ 60

fraction : (n q : ℕ) → IsLength n q → Fraction n q
fraction n q l =
    let down = div-mul-le_self (n * unit) q in
    let over = lt-div-mul-add {a = n * unit} {b = q} l.divisor in
    let up = div_ceil_times (n * unit) q l.divisor in
    record {
      down = down;
      up = up.0;
      least = le-div 4294 (n * unit) q l.divisor (least n q l.least);
      near = (let below : div_ceil (n * unit) q < n * unit / q + 2 = lt_of_mul-lt-mul_right q (omega (arith, up.1, over)) in omega (arith, below));
      small = lt_of_mul-lt-mul_right q (small (div_ceil (n * unit) q) n q l.divisor l.most up.1);
    }
  where
    least : (n q : ℕ) → q ≤ 1000000 * n → 4294 * q ≤ n * unit
    least n q h = rw unit-is (omega (arith, h))

    small : (c n q : ℕ) → 0 < q → n ≤ 1000000 * q → c * q < n * unit + q → c * q < 2 ^ 60 * q
    small c n q positive most h = omega (arith, positive, most, rw unit-is at h)

-- ---- their roots

-- roots of two numbers that are near
near-roots : (c d r g f u : ℕ) → u ≡ 2 ^ 32 → 4294 ≤ c → d ≤ c + 1 → c * u < (r + 1) * (r + 1) → g * g ≤ d * u → f ≤ g + 1 → (2 ^ 22 ≤ r) × (8192 * f ≤ 8193 * r)
near-roots c d r g f u e least next below above up =
    let more = mul-le-mul_right u least in
    let step = mul-le-mul_right u next in
    let squares : 4294 * (g * g) ≤ 4295 * ((r + 1) * (r + 1)) = omega (arith, above, step, more, below) in
    let large : 2 ^ 22 ≤ r = elim (cases_lt r (2 ^ 22)) [
      | inl less ↦ absurd (omega (arith, e, more, below, mul-le (r + 1) (r + 1) (2 ^ 22) (2 ^ 22) (omega (arith, less)) (omega (arith, less))))
      | inr enough ↦ enough
    ] in
    let slope : 8588 * g ≤ 8589 * (r + 1) = elim (cases_lt (8589 * (r + 1)) (8588 * g)) [
      | inl less ↦ absurd (omega (arith, squares, mul-le (8589 * (r + 1)) (8589 * (r + 1)) (8588 * g) (8588 * g) (omega (arith, less)) (omega (arith, less))))
      | inr within ↦ within
    ] in
    (large, omega (arith, large, slope, up))

pub record Roots (n q : ℕ) : Type 0 where
  pub low_positive : 0 < low_root n q
  pub low_small : low_root n q < 2 ^ 126
  pub high_positive : 0 < high_root n q
  pub high_small : high_root n q < 2 ^ 126
  pub low : low_root n q * low_root n q * q ≤ n * unit * unit
  pub high : n * unit * unit ≤ high_root n q * high_root n q * q
  pub near : 8192 * high_root n q ≤ 8193 * low_root n q

pub roots : (n q : ℕ) → IsLength n q → Roots n q
roots n q l =
    let f = fraction n q l in
    let c = n * unit / q in
    let d = div_ceil (n * unit) q in
    let below = floor_root-below (c * unit) in
    let above = ceil_root-above (d * unit) in
    let both = near-roots c d (low_root n q) (floor_root (d * unit)) (high_root n q) unit unit-is f.least f.near (floor_root-above (c * unit)) (floor_root-below (d * unit)) (ceil_root-le (d * unit)) in
    let size : low_root n q < 2 ^ 100 = small (low_root n q) c unit unit-is below (omega (arith, f.small, f.down, f.up, quotients c d q n f.down f.up l.divisor)) in
    record {
      low_positive = omega (arith, both.0);
      low_small = omega (arith, size);
      high_positive = positive (high_root n q) d unit unit-is above (omega (arith, f.least, quotients c d q n f.down f.up l.divisor));
      high_small = omega (arith, size, both.1);
      low = omega (arith, mul-le-mul_right q below, mul-le-mul_right unit f.down);
      high = omega (arith, mul-le-mul_right q above, mul-le-mul_right unit f.up);
      near = both.1;
    }
  where
    quotients : (c d q n : ℕ) → c * q ≤ n * unit → n * unit ≤ d * q → 0 < q → c ≤ d
    quotients c d q n down up some = le_of_mul-le-mul_right {k = q} (omega (arith, down, up)) some

    small : (r c u : ℕ) → u ≡ 2 ^ 32 → r * r ≤ c * u → c < 2 ^ 60 → r < 2 ^ 100
    small r c u e h k = elim (cases_lt r (2 ^ 100)) [
      | inl is ↦ is
      | inr large ↦ (let le : c ≤ 2 ^ 60 = omega (arith, k) in absurd (omega (arith, e, h, mul-le-mul_right u le, mul-le (2 ^ 100) (2 ^ 100) r r large large)))
    ]

    positive : (f d u : ℕ) → u ≡ 2 ^ 32 → d * u ≤ f * f → 4294 ≤ d → 0 < f
    positive f d u e h k = elim (cases_lt 0 f) [
      | inl is ↦ is
      | inr none ↦ (let zero : f ≡ 0 = omega (arith, none) in absurd (omega (arith, e, mul-le-mul_right u k, rw zero at h)))
    ]

-- ---- the enclosure

ratio-is : (n q : ℕ) → IsLength n q → ratio_of (pos n) q ≡ record { lo = Some (pos (n * unit / q)); hi = Some (pos (div_ceil (n * unit) q)) }
ratio-is n q l = rw (ratio_of-small (pos n) q l.small, ceil_of-pos (pos (n * unit)) q l.divisor (omega (arith, ints))) refl

root-is : (c d : ℕ) → c ≤ d → d < 2 ^ 60 →
    root_of (record { lo = Some (pos c); hi = Some (pos d) }) ≡ record { lo = Some (pos (floor_root (c * unit))); hi = Some (pos (ceil_root (d * unit))) }
root-is c d le small =
    let above : int_lt (pos d) (pos 0) ≡ false = grind (arith, ints) in
    let least : min c (2 ^ 95 - 1) ≡ c = omega (arith, le, small) in
    rw (root_of-roots (record { lo = Some (pos c); hi = Some (pos d) }) above, least, high_root_is d (omega (arith, small))) refl

pub length-root : (n q : ℕ) → IsLength n q → enc (Root (Const (pos n) q)) ≡ record { lo = Some (pos (low_root n q)); hi = Some (pos (high_root n q)) }
length-root n q l =
    let f = fraction n q l in
    let order : n * unit / q ≤ div_ceil (n * unit) q = le_of_mul-le-mul_right {k = q} (omega (arith, f.down, f.up)) l.divisor in
    ap root_of (ratio-is n q l) ∙ root-is (n * unit / q) (div_ceil (n * unit) q) order f.small

pub length-ends : (n q : ℕ) → IsLength n q → enc (Lg (Root (Const (pos n) q))) ≡ record { lo = Some (lg_low (low_root n q)); hi = Some (lg_high (high_root n q)) }
length-ends n q l =
    let positive : pos 1 ≤ℤ pos (low_root n q) = omega (arith, ints, (roots n q l).low_positive) in
    ap lg_of (length-root n q l) ∙ lg_of-ends (Some (pos (low_root n q))) (Some (pos (high_root n q))) positive

-- it is narrow
pub length-narrow : (n q : ℕ) → IsLength n q → 1000 * high_exponent (high_root n q) < 1000 * low_exponent (low_root n q) + unit
length-narrow n q l =
    let r = roots n q l in
    ends-narrow (low_root n q) (high_root n q) r.low_positive r.low_small r.high_positive r.high_small r.near

pub length-is_narrow : (n q : ℕ) → 0 < q → q ≤ 1000000 * n → n ≤ 1000000 * q → n < 2 ^ 94 → IsNarrow (enc (Lg (Root (Const (pos n) q))))
length-is_narrow n q divisor least most small =
    let l : IsLength n q = record { divisor = divisor; least = least; most = most; small = small } in
    rw (length-ends n q l, lg_low-exponent (low_root n q), lg_high-exponent (high_root n q)) (omega (arith, ints, length-narrow n q l))
