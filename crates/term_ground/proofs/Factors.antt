-- Sums and products of quantities that aren't negative are those of the table of enclosures.
use Rattle.std.proofs.Common.{◌≡◌, ℕ, ◌+◌, ◌*◌, ◌/◌, ◌<◌, ◌≤◌, ◌^◌, ℤ, pos, negsuc, neg_ℤ, ◌*ℤ◌, ◌+ℤ◌, ◌-ℤ◌, ◌≤ℤ◌, to_z, of_z, refl, sym, ◌∙◌, arith}
use Rattle.std.specs.Prelude.{Some, unsigned_abs}
use Rattle.std.specs.Int.{w128, div_ceil}
use Rattle.std.proofs.lemmas.Int.{ints, clamps}
use Rattle.std.proofs.lemmas.Nat.{mul-le}
use Rattle.std.proofs.lemmas.Grind.{div_ceil_times}
use Rattle.std.proofs.Math.Nat.{mul-le-mul_right}
use Rattle.fix_interval.specs.Interval.{Interval}
use Rattle.fix_interval.specs.Units.{unit, unit-is}
use Rattle.fix_interval.specs.Round.{floor_of, ceil_of}
use Rattle.fix_interval.specs.Values.{add_of, neg_of, sub_of, mul_of, least_of, greatest_of}
use Rattle.fix_interval.proofs.Multiplying.{end_of-small, least_product-positive, greatest_product-positive}
use Rattle.fix_interval.specs.Tree.{enc}
use Rattle.fix_interval.specs.Values.{ratio_of}
use Rattle.fix_interval.proofs.Ratios.{passed}
use Rattle.fix_interval.proofs.Rounding.{ceil_of-pos}
use Rattle.term_ground.specs.Ground.{minus_one_and_a_half, one_and_a_half}
use Rattle.path_shape.specs.Forms.{one_form}
use Rattle.fix_interval.proofs.Spans.{unit-pos}

abbrev ends : ℕ → ℕ → Interval
ends lo hi = record { lo = Some (pos lo); hi = Some (pos hi) }

pub sum-is : (al ah bl bh : ℕ) → al ≤ ah → bl ≤ bh → ah ≤ 2 ^ 60 → bh ≤ 2 ^ 60 → add_of (ends al ah) (ends bl bh) ≡ ends (al + bl) (ah + bh)
unfolding add_of
sum-is al ah bl bh a b small small' =
    rw (end_of-small (pos al +ℤ pos bl) (omega (arith, ints)), end_of-small (pos ah +ℤ pos bh) (omega (arith, ints))) refl

product-small : (a b : ℕ) → a ≤ 2 ^ 36 → b ≤ 2 ^ 50 → a * b < 2 ^ 126
product-small a b h k = omega (arith, mul-le a b (2 ^ 36) (2 ^ 50) h k)

pub product-is : (al ah bl bh : ℕ) → al ≤ ah → bl ≤ bh → ah ≤ 2 ^ 36 → bh ≤ 2 ^ 50
    → mul_of (ends al ah) (ends bl bh) ≡ ends (al * bl / 2 ^ 32) (div_ceil (ah * bh) (2 ^ 32))
unfolding mul_of
product-is al ah bl bh a b small small' =
    let low = product-small al bl (omega arith) (omega arith) in
    let high = product-small ah bh small small' in
    let least = least_product-positive (pos al) (pos ah) (pos bl) (pos bh) (omega (arith, ints)) (omega (arith, ints)) (omega (arith, ints)) (omega (arith, ints)) in
    let greatest = greatest_product-positive (pos al) (pos ah) (pos bl) (pos bh) (omega (arith, ints)) (omega (arith, ints)) (omega (arith, ints)) (omega (arith, ints)) in
    rw (
      least,
      greatest,
      end_of-small (pos al *ℤ pos bl) (omega (arith, ints, low)),
      end_of-small (pos ah *ℤ pos bh) (omega (arith, ints, high)),
      ceil_of-pos (pos (ah * bh)) unit unit-pos (omega (arith, ints)),
      unit-is,
    )
    refl

-- a factor of at most 16
pub product-high : (a b : ℕ) → a ≤ 2 ^ 36 → div_ceil (a * b) (2 ^ 32) ≤ 16 * b
product-high a b h =
    omega (arith, mul-le-mul_right {m = a} {n = 2 ^ 36} b h, (div_ceil_times (a * b) (2 ^ 32) (omega arith)).1)

-- ---- less 1.5

less-passed : (n : ℕ) (z : ℤ) → n ≤ 2 ^ 60 → z ≡ pos n → to_z w128 (of_z w128 (to_z w128 (of_z w128 z) -ℤ pos 6442450944)) ≡ neg_ℤ (pos 6442450944) +ℤ pos n
less-passed n z h is =
    rw (is, passed (pos n) (omega (arith, ints)), passed (pos n -ℤ pos 6442450944) (omega (arith, ints))) (omega (arith, ints))

pub less-is : (al ah : ℕ) (l h : ℤ) → al ≤ ah → ah ≤ 2 ^ 60 → l ≡ pos al → h ≡ pos ah
    → record { lo = Some (to_z w128 (of_z w128 (to_z w128 (of_z w128 l) -ℤ pos 6442450944))); hi = Some (to_z w128 (of_z w128 (to_z w128 (of_z w128 h) -ℤ pos 6442450944))) } ≡ add_of (enc minus_one_and_a_half) (ends al ah)
unfolding add_of ratio_of unit
less-is al ah l h a small low high =
    rw (
      less-passed al l (omega arith) low,
      less-passed ah h small high,
      end_of-small (neg_ℤ (pos 6442450944) +ℤ pos al) (omega (arith, ints)),
      end_of-small (neg_ℤ (pos 6442450944) +ℤ pos ah) (omega (arith, ints)),
    )
    refl

-- ---- 1.5 times what isn't porous, negated, is 1.5 times what is porous, less 1.5

floor-moved : (z : ℤ) (n : ℕ) → z ≡ pos (6442450944 * n) -ℤ pos (6442450944 * 2 ^ 32) → floor_of z (2 ^ 32) ≡ neg_ℤ (pos 6442450944) +ℤ pos (6442450944 * n / 2 ^ 32)
floor-moved (pos k) n is = omega (arith, ints, is)
floor-moved (negsuc k) n is = omega (arith, ints, is)

ceil-moved : (z : ℤ) (n : ℕ) → z ≡ pos (6442450944 * n) -ℤ pos (6442450944 * 2 ^ 32) → ceil_of z (2 ^ 32) ≡ neg_ℤ (pos 6442450944) +ℤ pos (div_ceil (6442450944 * n) (2 ^ 32))
ceil-moved z n is = by (neg_ℤ z) refl where
  by : (w : ℤ) → neg_ℤ z ≡ w → neg_ℤ (floor_of w (2 ^ 32)) ≡ neg_ℤ (pos 6442450944) +ℤ pos (div_ceil (6442450944 * n) (2 ^ 32))
  by (pos k) w = omega (arith, ints, is, w, div_ceil_times (6442450944 * n) (2 ^ 32) (omega arith))
  by (negsuc k) w = omega (arith, ints, is, w, div_ceil_times (6442450944 * n) (2 ^ 32) (omega arith))

times-rest : (n : ℕ) (d : ℤ) → d ≡ pos (2 ^ 32) -ℤ pos n → neg_ℤ (pos 6442450944) *ℤ d ≡ pos (6442450944 * n) -ℤ pos (6442450944 * 2 ^ 32)
times-rest n (pos k) is = omega (arith, ints, is)
times-rest n (negsuc k) is = omega (arith, ints, is)

least-alike : (p q : ℤ) → q ≤ℤ p → least_of p q p q ≡ q
least-alike p q h = omega (arith, ints, clamps)

greatest-alike : (p q : ℤ) → q ≤ℤ p → greatest_of p q p q ≡ p
greatest-alike p q h = omega (arith, ints, clamps)

module _ (l h : ℕ) (a : l ≤ h) (small : h ≤ 2 ^ 36) where
  abbrev found : Interval
  found = record { lo = Some (neg_ℤ (pos 6442450944) +ℤ pos (6442450944 * l / 2 ^ 32)); hi = Some (neg_ℤ (pos 6442450944) +ℤ pos (div_ceil (6442450944 * h) (2 ^ 32))) }

  rest-is : sub_of (enc one_form) (ends l h) ≡ record { lo = Some (pos (2 ^ 32) -ℤ pos h); hi = Some (pos (2 ^ 32) -ℤ pos l) }
  unfolding add_of neg_of ratio_of unit
  rest-is =
      let low : pos (2 ^ 32) +ℤ neg_ℤ (pos h) ≡ pos (2 ^ 32) -ℤ pos h = omega (arith, ints) in
      let high : pos (2 ^ 32) +ℤ neg_ℤ (pos l) ≡ pos (2 ^ 32) -ℤ pos l = omega (arith, ints) in
      rw (low, high, end_of-small (pos (2 ^ 32) -ℤ pos h) (omega (arith, ints)), end_of-small (pos (2 ^ 32) -ℤ pos l) (omega (arith, ints))) refl

  abbrev p : ℤ
  p = pos (6442450944 * h) -ℤ pos (6442450944 * 2 ^ 32)

  abbrev q : ℤ
  q = pos (6442450944 * l) -ℤ pos (6442450944 * 2 ^ 32)

  order : q ≤ℤ p
  order = omega (arith, ints)

  small-p : unsigned_abs p < 2 ^ 126
  small-p = omega (arith, ints)

  small-q : unsigned_abs q < 2 ^ 126
  small-q = omega (arith, ints)

  left : mul_of (enc minus_one_and_a_half) (sub_of (enc one_form) (ends l h)) ≡ found
  unfolding mul_of ratio_of unit
  left =
      rw (
        rest-is,
        times-rest h (pos (2 ^ 32) -ℤ pos h) refl,
        times-rest l (pos (2 ^ 32) -ℤ pos l) refl,
        least-alike p q order,
        greatest-alike p q order,
        end_of-small p small-p,
        end_of-small q small-q,
        floor-moved q l refl,
        ceil-moved p h refl,
      )
      refl

  right : add_of (enc minus_one_and_a_half) (mul_of (enc one_and_a_half) (ends l h)) ≡ found
  unfolding add_of ratio_of unit
  right =
      let up = product-high 6442450944 h (omega arith) in
      rw (
        product-is 6442450944 6442450944 l h (omega arith) a (omega arith) (omega (arith, small)),
        end_of-small (neg_ℤ (pos 6442450944) +ℤ pos (6442450944 * l / 2 ^ 32)) (omega (arith, ints)),
        end_of-small (neg_ℤ (pos 6442450944) +ℤ pos (div_ceil (6442450944 * h) (2 ^ 32))) (omega (arith, ints, up)),
      )
      refl

  pub porous-part : mul_of (enc minus_one_and_a_half) (sub_of (enc one_form) (ends l h)) ≡ add_of (enc minus_one_and_a_half) (mul_of (enc one_and_a_half) (ends l h))
  porous-part = left ∙ sym right
