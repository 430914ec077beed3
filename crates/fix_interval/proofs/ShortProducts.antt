-- Products of short ends, as the code passes them, are those of the table of enclosures.
use Rattle.std.proofs.Common.{◌≡◌, ◌<◌, ◌^◌, ℤ, pos, ◌*ℤ◌, neg_ℤ, ◌-ℤ◌, unsigned_abs, to_z, of_z, arith, sym}
use Rattle.std.specs.Prelude.{Some}
use Rattle.std.specs.Int.{w64, w128, int_min, int_max}
use Rattle.std.proofs.lemmas.Int.{ints, unsigned_abs-mul}
use Rattle.std.proofs.lemmas.Nat.{mul-le}
use Rattle.fix_interval.specs.Interval.{IsInterval}
use Rattle.fix_interval.specs.Units.{unit}
use Rattle.fix_interval.specs.Round.{floor_of, ceil_of}
use Rattle.fix_interval.specs.Values.{least_product, greatest_product, product_of_ends}
use Rattle.fix_interval.proofs.Multiplying.{IsInterval-outward, end_of-small, least_of-le-greatest_of, least_product-negated}
use Rattle.fix_interval.proofs.Order.{int_min-keeps, int_max-keeps, unsigned_abs-neg_ℤ}
use Rattle.fix_interval.proofs.Ratios.{passed}
use Rattle.fix_interval.proofs.Rounding.{unsigned_abs-floor_of}
use Rattle.fix_interval.proofs.Spans.{unit-pos}
use Rattle.fix_interval.proofs.WholeFactors.{within-64}

-- ---- one product

short-product : (x y : ℤ) → unsigned_abs x < 2 ^ 62 → unsigned_abs y < 2 ^ 62 → unsigned_abs (x *ℤ y) < 2 ^ 126
short-product x y h k = omega (arith, unsigned_abs-mul x y, mul-le (unsigned_abs x) (unsigned_abs y) (2 ^ 62) (2 ^ 62) (omega arith) (omega arith))

product-found : (x y t p : ℤ) → unsigned_abs x < 2 ^ 62 → unsigned_abs y < 2 ^ 62 → t ≡ to_z w64 (of_z w64 x) *ℤ to_z w64 (of_z w64 y) → p ≡ x *ℤ y
    → to_z w128 (of_z w128 t) ≡ p
product-found x y t p h k is same =
    rw (is, within-64 x (omega (arith, h)), within-64 y (omega (arith, k)), same, passed (x *ℤ y) (short-product x y h k))

pub floor-found : (x y t p u : ℤ) → unsigned_abs x < 2 ^ 62 → unsigned_abs y < 2 ^ 62 → t ≡ to_z w64 (of_z w64 x) *ℤ to_z w64 (of_z w64 y) → p ≡ x *ℤ y → u ≡ floor_of (to_z w128 (of_z w128 t)) unit
    → to_z w128 (of_z w128 u) ≡ floor_of p unit
floor-found x y t p u h k is same rounded =
    let size : unsigned_abs p < 2 ^ 126 = rw same (short-product x y h k) in
    rw (rounded, product-found x y t p h k is same) (passed (floor_of p unit) (omega (arith, unsigned_abs-floor_of p unit unit-pos, size)))

-- ---- all four

abbrev IsShort : ℤ → Type 0
IsShort z = unsigned_abs z < 2 ^ 62

module _ (al ah bl bh : ℤ) (a : IsShort al) (a' : IsShort ah) (b : IsShort bl) (b' : IsShort bh) where
  least-short : unsigned_abs (least_product al ah bl bh) < 2 ^ 126
  least-short =
      int_min-keeps (λ z. unsigned_abs z < 2 ^ 126) (int_min (al *ℤ bl) (al *ℤ bh)) (int_min (ah *ℤ bl) (ah *ℤ bh))
      (int_min-keeps (λ z. unsigned_abs z < 2 ^ 126) (al *ℤ bl) (al *ℤ bh) (short-product al bl a b) (short-product al bh a b'))
      (int_min-keeps (λ z. unsigned_abs z < 2 ^ 126) (ah *ℤ bl) (ah *ℤ bh) (short-product ah bl a' b) (short-product ah bh a' b'))

  greatest-short : unsigned_abs (greatest_product al ah bl bh) < 2 ^ 126
  greatest-short =
      int_max-keeps (λ z. unsigned_abs z < 2 ^ 126) (int_max (al *ℤ bl) (al *ℤ bh)) (int_max (ah *ℤ bl) (ah *ℤ bh))
      (int_max-keeps (λ z. unsigned_abs z < 2 ^ 126) (al *ℤ bl) (al *ℤ bh) (short-product al bl a b) (short-product al bh a b'))
      (int_max-keeps (λ z. unsigned_abs z < 2 ^ 126) (ah *ℤ bl) (ah *ℤ bh) (short-product ah bl a' b) (short-product ah bh a' b'))

  pub short-interval : (l u : ℤ) → l ≡ floor_of (least_product al ah bl bh) unit → u ≡ ceil_of (greatest_product al ah bl bh) unit
      → IsInterval (record { lo = Some (to_z w128 (of_z w128 l)); hi = Some (to_z w128 (of_z w128 u)) })
  short-interval l u low high =
      let is = IsInterval-outward (least_product al ah bl bh) (greatest_product al ah bl bh) least-short greatest-short (least_of-le-greatest_of (al *ℤ bl) (al *ℤ bh) (ah *ℤ bl) (ah *ℤ bh)) in
      rw (low, high, passed (floor_of (least_product al ah bl bh) unit) is.low_end, passed (ceil_of (greatest_product al ah bl bh) unit) is.high_end) is

  pub short-value : (l u : ℤ) → l ≡ floor_of (least_product al ah bl bh) unit → u ≡ ceil_of (greatest_product al ah bl bh) unit
      → record { lo = Some (to_z w128 (of_z w128 l)); hi = Some (to_z w128 (of_z w128 u)) } ≡ product_of_ends al ah bl bh
  short-value l u low high =
      let is = IsInterval-outward (least_product al ah bl bh) (greatest_product al ah bl bh) least-short greatest-short (least_of-le-greatest_of (al *ℤ bl) (al *ℤ bh) (ah *ℤ bl) (ah *ℤ bh)) in
      rw (
        low,
        high,
        passed (floor_of (least_product al ah bl bh) unit) is.low_end,
        passed (ceil_of (greatest_product al ah bl bh) unit) is.high_end,
        end_of-small (least_product al ah bl bh) least-short,
        end_of-small (greatest_product al ah bl bh) greatest-short,
      )

  -- the greatest, by the least with the second factor negated
  module _ (l : ℤ) (low : l ≡ floor_of (least_product al ah (neg_ℤ bh) (neg_ℤ bl)) unit) where
    least-is : l ≡ floor_of (neg_ℤ (greatest_product al ah bl bh)) unit
    least-is = rw (sym (least_product-negated al ah bl bh)) low

    pub least-small : unsigned_abs l < 2 ^ 126
    least-small =
        rw least-is
        (omega (arith, unsigned_abs-floor_of (neg_ℤ (greatest_product al ah bl bh)) unit unit-pos, unsigned_abs-neg_ℤ (greatest_product al ah bl bh), greatest-short))

    pub greatest-found : to_z w128 (of_z w128 (pos 0 -ℤ to_z w128 (of_z w128 l))) ≡ ceil_of (greatest_product al ah bl bh) unit
    greatest-found =
        rw (passed l least-small, passed (pos 0 -ℤ l) (omega (arith, ints, least-small)), least-is) (omega (arith, ints))
