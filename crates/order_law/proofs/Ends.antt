-- What holds of each end of an interval that is there. An unbounded end keeps everything: so the rules for operations need
-- no condition on the ends.
use Rattle.std.proofs.Common.{ℕ, zero, suc, ◌+◌, ◌*◌, ◌≤◌, ℤ, pos, negsuc, neg_ℤ, ◌+ℤ◌, ◌*ℤ◌, ◌≤ℤ◌, unsigned_abs, Bool, true, false, arith}
use Rattle.std.specs.Prelude.{Option, Some, None, IfSome, option_and_then, if◌then◌else◌, nat_lt, int_lt, int_le, not, ◌&&◌, ◌||◌, ◌^◌}
use Rattle.std.specs.Option.{option_map}
use Rattle.std.proofs.lemmas.Int.{ints, unsigned_abs-mul}
use Rattle.std.proofs.lemmas.Nat.{mul-le}
use Rattle.std.proofs.Math.Nat.{div-le_self, zero-div}
use Rattle.fix_interval.specs.Units.{unit}
use Rattle.fix_interval.specs.Interval.{Interval, All}
use Rattle.fix_interval.specs.Round.{floor_of, ceil_of, numerator_of, floor_quotient, ceil_quotient, floor_root, ceil_root}
use Rattle.fix_interval.specs.Ten.{raised_high, ten_high, ten_of}
use Rattle.fix_interval.specs.Values.{ratio_of, is_small, end_of, sum_of_ends, add_of, neg_of, greater_high, lesser_low, hull_of, on_ends, rounded_outward, least_of, greatest_of, least_product, greatest_product, product_of_ends, mul_of, holds_zero, quotient_of_ends, div_of, is_below_zero, low_radicand, root_of_high, root_of, pick_of}
use Rattle.fix_interval.specs.declared.truth.Truth.{Truth}
use Rattle.fix_interval.specs.declared.truth.Truth.TheVariants.{Sure, Never, Unsure}
use Rattle.fix_interval.proofs.Order.{int_min-keeps, int_max-keeps}

-- each end that is there keeps P
abbrev pub Ends : (ℤ → Type 0) → Interval → Type 0
Ends P i = IfSome i.lo P × IfSome i.hi P

-- ---- sums and negations

end-keeps : (P : ℤ → Type 0) (z : ℤ) → P z → IfSome (end_of z) P
end-keeps P z h = by (is_small z) where
  by : (small : Bool) → IfSome (if small then Some z else None) P
  by true = h
  by false = tt

sum-of-ends-keeps : (P Q R : ℤ → Type 0) → ((x y : ℤ) → P x → Q y → R (x +ℤ y)) → (a b : Option ℤ) → IfSome a P → IfSome b Q → IfSome (sum_of_ends a b) R
sum-of-ends-keeps P Q R sum (Some x) (Some y) h k = end-keeps R (x +ℤ y) (sum x y h k)
sum-of-ends-keeps P Q R sum (Some x) None h k = tt
sum-of-ends-keeps P Q R sum None b h k = tt

pub add-keeps : (P Q R : ℤ → Type 0) → ((x y : ℤ) → P x → Q y → R (x +ℤ y)) → (a b : Interval) → Ends P a → Ends Q b → Ends R (add_of a b)
unfolding add_of
add-keeps P Q R sum a b h k =
    (sum-of-ends-keeps P Q R sum a.lo b.lo h.0 k.0, sum-of-ends-keeps P Q R sum a.hi b.hi h.1 k.1)

negated-keeps : (P Q : ℤ → Type 0) → ((x : ℤ) → P x → Q (neg_ℤ x)) → (a : Option ℤ) → IfSome a P → IfSome (option_map neg_ℤ a) Q
negated-keeps P Q negated None h = tt
negated-keeps P Q negated (Some x) h = negated x h

pub neg-keeps : (P Q : ℤ → Type 0) → ((x : ℤ) → P x → Q (neg_ℤ x)) → (a : Interval) → Ends P a → Ends Q (neg_of a)
unfolding neg_of
neg-keeps P Q negated a h = (negated-keeps P Q negated a.hi h.1, negated-keeps P Q negated a.lo h.0)

-- ---- choices

module _ (P : ℤ → Type 0) where
  lesser_low-keeps : (a b : Option ℤ) → IfSome a P → IfSome b P → IfSome (lesser_low a b) P
  lesser_low-keeps None b h k = tt
  lesser_low-keeps (Some x) None h k = tt
  lesser_low-keeps (Some x) (Some y) h k = int_min-keeps P x y h k

  greater_high-keeps : (a b : Option ℤ) → IfSome a P → IfSome b P → IfSome (greater_high a b) P
  greater_high-keeps None b h k = tt
  greater_high-keeps (Some x) None h k = tt
  greater_high-keeps (Some x) (Some y) h k = int_max-keeps P x y h k

  pub pick-keeps : (truth : Truth) (a b : Interval) → Ends P a → Ends P b → Ends P (pick_of truth a b)
  unfolding pick_of hull_of
  pick-keeps Sure a b h k = h
  pick-keeps Never a b h k = k
  pick-keeps Unsure a b h k = (lesser_low-keeps a.lo b.lo h.0 k.0, greater_high-keeps a.hi b.hi h.1 k.1)

  least-keeps : (p q r s : ℤ) → P p → P q → P r → P s → P (least_of p q r s)
  least-keeps p q r s hp hq hr hs = int_min-keeps P _ _ (int_min-keeps P p q hp hq) (int_min-keeps P r s hr hs)

  greatest-keeps : (p q r s : ℤ) → P p → P q → P r → P s → P (greatest_of p q r s)
  greatest-keeps p q r s hp hq hr hs = int_max-keeps P _ _ (int_max-keeps P p q hp hq) (int_max-keeps P r s hr hs)

-- ---- constants

pub ratio-keeps : (P : ℤ → Type 0) (p : ℤ) (q : ℕ) → P (floor_of (p *ℤ pos unit) q) → P (ceil_of (p *ℤ pos unit) q) → Ends P (ratio_of p q)
unfolding ratio_of
ratio-keeps P p q low high = by (nat_lt (unsigned_abs p) (2 ^ 94)) where
  by : (small : Bool) → Ends P (if small then (record { lo = Some (floor_of (p *ℤ pos unit) q); hi = Some (ceil_of (p *ℤ pos unit) q) }) else All)
  by true = (low, high)
  by false = (tt, tt)

-- ---- products

module _ (P Q R S : ℤ → Type 0) (times : (x y : ℤ) → P x → Q y → R (x *ℤ y)) (floored : (z : ℤ) → R z → S (floor_of z unit)) (ceiled : (z : ℤ) → R z → S (ceil_of z unit)) where
  outward-keeps : (least greatest : Option ℤ) → IfSome least R → IfSome greatest R → Ends S (rounded_outward least greatest)
  outward-keeps (Some x) (Some y) h k = (floored x h, ceiled y k)
  outward-keeps (Some x) None h k = (tt, tt)
  outward-keeps None y h k = (tt, tt)

  product-keeps : (al ah bl bh : Option ℤ) → IfSome al P → IfSome ah P → IfSome bl Q → IfSome bh Q → Ends S (on_ends product_of_ends al ah bl bh)
  product-keeps (Some al) (Some ah) (Some bl) (Some bh) hl hh kl kh =
      let p = times al bl hl kl in
      let q = times al bh hl kh in
      let r = times ah bl hh kl in
      let s = times ah bh hh kh in
      outward-keeps (end_of (least_product al ah bl bh)) (end_of (greatest_product al ah bl bh))
      (end-keeps R (least_product al ah bl bh) (least-keeps R _ _ _ _ p q r s))
      (end-keeps R (greatest_product al ah bl bh) (greatest-keeps R _ _ _ _ p q r s))
  product-keeps (Some al) (Some ah) (Some bl) None hl hh kl kh = (tt, tt)
  product-keeps (Some al) (Some ah) None bh hl hh kl kh = (tt, tt)
  product-keeps (Some al) None bl bh hl hh kl kh = (tt, tt)
  product-keeps None ah bl bh hl hh kl kh = (tt, tt)

  pub mul-keeps : (a b : Interval) → Ends P a → Ends Q b → Ends S (mul_of a b)
  unfolding mul_of
  mul-keeps a b h k = product-keeps a.lo a.hi b.lo b.hi h.0 h.1 k.0 k.1

-- ---- quotients

module _ (P Q R : ℤ → Type 0) (floored : (x y : ℤ) → P x → Q y → R (floor_quotient (x *ℤ pos unit) y)) (ceiled : (x y : ℤ) → P x → Q y → R (ceil_quotient (x *ℤ pos unit) y)) where
  bounded-quotient-keeps : (al ah bl bh : ℤ) → P al → P ah → Q bl → Q bh → Ends R (quotient_of_ends al ah bl bh)
  bounded-quotient-keeps al ah bl bh hl hh kl kh = by (holds_zero bl bh || not (nat_lt (unsigned_abs al) (2 ^ 94) && nat_lt (unsigned_abs ah) (2 ^ 94))) where
    by : (none : Bool) → Ends R (if none then All else (record {
      lo = Some (least_of (floor_quotient (al *ℤ pos unit) bl) (floor_quotient (al *ℤ pos unit) bh) (floor_quotient (ah *ℤ pos unit) bl) (floor_quotient (ah *ℤ pos unit) bh));
      hi = Some (greatest_of (ceil_quotient (al *ℤ pos unit) bl) (ceil_quotient (al *ℤ pos unit) bh) (ceil_quotient (ah *ℤ pos unit) bl) (ceil_quotient (ah *ℤ pos unit) bh));
    }))
    by true = (tt, tt)
    by false = (
      least-keeps R _ _ _ _ (floored al bl hl kl) (floored al bh hl kh) (floored ah bl hh kl) (floored ah bh hh kh),
      greatest-keeps R _ _ _ _ (ceiled al bl hl kl) (ceiled al bh hl kh) (ceiled ah bl hh kl) (ceiled ah bh hh kh),
    )

  quotient-keeps : (al ah bl bh : Option ℤ) → IfSome al P → IfSome ah P → IfSome bl Q → IfSome bh Q → Ends R (on_ends quotient_of_ends al ah bl bh)
  quotient-keeps (Some al) (Some ah) (Some bl) (Some bh) hl hh kl kh = bounded-quotient-keeps al ah bl bh hl hh kl kh
  quotient-keeps (Some al) (Some ah) (Some bl) None hl hh kl kh = (tt, tt)
  quotient-keeps (Some al) (Some ah) None bh hl hh kl kh = (tt, tt)
  quotient-keeps (Some al) None bl bh hl hh kl kh = (tt, tt)
  quotient-keeps None ah bl bh hl hh kl kh = (tt, tt)

  pub div-keeps : (a b : Interval) → Ends P a → Ends Q b → Ends R (div_of a b)
  unfolding div_of
  div-keeps a b h k = quotient-keeps a.lo a.hi b.lo b.hi h.0 h.1 k.0 k.1

-- ---- quantities that aren't negative

-- the number isn't negative
abbrev pub NotNegative : ℤ → Type 0
NotNegative z = pos 0 ≤ℤ z

-- neither end that is there is
abbrev pub IsPositive : Interval → Type 0
IsPositive i = Ends NotNegative i

floor-not-negative : (z : ℤ) (d : ℕ) → NotNegative z → NotNegative (floor_of z d)
floor-not-negative (pos n) d h = omega (arith, ints)
floor-not-negative (negsuc n) d h = absurd (omega (arith, ints, h))

ceil-not-negative : (z : ℤ) (d : ℕ) → NotNegative z → NotNegative (ceil_of z d)
ceil-not-negative (pos zero) d h = omega (arith, ints, zero-div d)
ceil-not-negative (pos (suc n)) d h = omega (arith, ints)
ceil-not-negative (negsuc n) d h = absurd (omega (arith, ints, h))

units-not-negative : (x : ℤ) → NotNegative x → NotNegative (x *ℤ pos unit)
units-not-negative (pos n) h = omega (arith, ints)
units-not-negative (negsuc n) h = absurd (omega (arith, ints, h))

floor_quotient-not-negative : (x y : ℤ) → NotNegative x → NotNegative y → NotNegative (floor_quotient (x *ℤ pos unit) y)
floor_quotient-not-negative x (pos d) h k = floor-not-negative (x *ℤ pos unit) d (units-not-negative x h)
floor_quotient-not-negative x (negsuc d) h k = absurd (omega (arith, ints, k))

ceil_quotient-not-negative : (x y : ℤ) → NotNegative x → NotNegative y → NotNegative (ceil_quotient (x *ℤ pos unit) y)
ceil_quotient-not-negative x (pos d) h k = ceil-not-negative (x *ℤ pos unit) d (units-not-negative x h)
ceil_quotient-not-negative x (negsuc d) h k = absurd (omega (arith, ints, k))

pub ratio-positive : (n q : ℕ) → IsPositive (ratio_of (pos n) q)
ratio-positive n q =
    let units = units-not-negative (pos n) (omega (arith, ints)) in
    ratio-keeps NotNegative (pos n) q (floor-not-negative (pos n *ℤ pos unit) q units) (ceil-not-negative (pos n *ℤ pos unit) q units)

pub add-positive : (a b : Interval) → IsPositive a → IsPositive b → IsPositive (add_of a b)
add-positive = add-keeps NotNegative NotNegative NotNegative (λ x y h k. omega (arith, ints, h, k))

pub div-positive : (a b : Interval) → IsPositive a → IsPositive b → IsPositive (div_of a b)
div-positive = div-keeps NotNegative NotNegative NotNegative floor_quotient-not-negative ceil_quotient-not-negative

root-of-high-positive : (end : Option ℤ) → IfSome (root_of_high end) NotNegative
root-of-high-positive None = tt
root-of-high-positive (Some (negsuc n)) = tt
root-of-high-positive (Some (pos n)) = by (nat_lt n (2 ^ 95)) where
  by : (short : Bool) → IfSome (if short then Some (pos (ceil_root (n * unit))) else None) NotNegative
  by true = omega (arith, ints)
  by false = tt

-- a root is never negative
pub root-positive : (a : Interval) → IsPositive (root_of a)
unfolding root_of
root-positive a = by (is_below_zero a.hi) where
  by : (none : Bool) → IsPositive (if none then All else (record { lo = Some (pos (floor_root (low_radicand a.lo * unit))); hi = root_of_high a.hi }))
  by true = (tt, tt)
  by false = (omega (arith, ints), root-of-high-positive a.hi)

ten-of-high-positive : (n : ℤ) → IfSome (ten_high n) NotNegative
unfolding ten_high
ten-of-high-positive n = by (int_le (pos (20 * unit)) n) (int_lt n (neg_ℤ (pos (19 * unit)))) where
  by : (most least : Bool) → IfSome (if most then None else (if least then Some (pos 1) else Some (pos (raised_high (unsigned_abs (n +ℤ pos (20 * unit))))))) NotNegative
  by true least = tt
  by false true = omega (arith, ints)
  by false false = omega (arith, ints)

-- and neither is a power of ten
pub ten-positive : (a : Interval) → IsPositive (ten_of a)
unfolding ten_of
ten-positive a = (omega (arith, ints), high a.hi) where
  high : (end : Option ℤ) → IfSome (option_and_then ten_high end) NotNegative
  high None = tt
  high (Some n) = ten-of-high-positive n

-- ---- quantities within a bound

-- the absolute value is at most a bound
abbrev pub AtMost : ℕ → ℤ → Type 0
AtMost m z = unsigned_abs z ≤ m

-- each end that is there is within the bound
abbrev pub AreWithin : ℕ → Interval → Type 0
AreWithin m i = Ends (AtMost m) i

pub add-within : (m n : ℕ) (a b : Interval) → AreWithin m a → AreWithin n b → AreWithin (m + n) (add_of a b)
add-within m n = add-keeps (AtMost m) (AtMost n) (AtMost (m + n)) (λ x y h k. omega (arith, ints, h, k))

pub neg-within : (m : ℕ) (a : Interval) → AreWithin m a → AreWithin m (neg_of a)
neg-within m = neg-keeps (AtMost m) (AtMost m) (λ x h. omega (arith, ints, h))

floor-within : (m : ℕ) (z : ℤ) (d : ℕ) → AtMost m z → AtMost m (floor_of z d)
floor-within m (pos n) d h = omega (arith, ints, div-le_self n d, h)
floor-within m (negsuc n) d h = omega (arith, ints, div-le_self n d, h)

ceil-within : (m : ℕ) (z : ℤ) (d : ℕ) → AtMost m z → AtMost m (ceil_of z d)
ceil-within m z d h = omega (arith, ints, floor-within m (neg_ℤ z) d (omega (arith, ints, h)))

times-within : (m n : ℕ) (x y : ℤ) → AtMost m x → AtMost n y → AtMost (m * n) (x *ℤ y)
times-within m n x y h k = omega (arith, unsigned_abs-mul x y, mul-le (unsigned_abs x) (unsigned_abs y) m n h k)

pub mul-within : (m n : ℕ) (a b : Interval) → AreWithin m a → AreWithin n b → AreWithin (m * n) (mul_of a b)
mul-within m n =
    mul-keeps (AtMost m) (AtMost n) (AtMost (m * n)) (AtMost (m * n)) (times-within m n) (λ z h. floor-within (m * n) z unit h) (λ z h. ceil-within (m * n) z unit h)

numerator-within : (m : ℕ) (x y : ℤ) → AtMost m x → AtMost m (numerator_of x y)
numerator-within m x (pos d) h = h
numerator-within m x (negsuc d) h = omega (arith, ints, h)

-- whatever the divisor is
pub div-within : (m : ℕ) (a b : Interval) → AreWithin m a → AreWithin (m * unit) (div_of a b)
div-within m a b h =
    div-keeps (AtMost m) (λ y. Unit {0}) (AtMost (m * unit))
    (λ x y h k. floor-within (m * unit) (numerator_of (x *ℤ pos unit) y) (unsigned_abs y) (numerator-within (m * unit) (x *ℤ pos unit) y (units x h)))
    (λ x y h k. ceil-within (m * unit) (numerator_of (x *ℤ pos unit) y) (unsigned_abs y) (numerator-within (m * unit) (x *ℤ pos unit) y (units x h)))
    a b h (there b.lo, there b.hi)
  where
    units : (x : ℤ) → AtMost m x → AtMost (m * unit) (x *ℤ pos unit)
    units x h = times-within m unit x (pos unit) h (omega arith)

    there : (end : Option ℤ) → IfSome end (λ y. Unit {0})
    there None = tt
    there (Some y) = tt
