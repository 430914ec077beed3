-- Products, sums and quotients of intervals that aren't negative, and bounds on their ends.
use Rattle.std.proofs.Common.{◌≡◌, ℕ, ◌*◌, ◌<◌, ◌^◌, ℤ, pos, negsuc, ◌*ℤ◌, ◌≤ℤ◌, ◌<ℤ◌, unsigned_abs, Option, refl, sym, ap, subst, arith, lit<}
use Rattle.std.specs.Prelude.{Some, None, IsSomeAnd}
use Rattle.std.specs.Int.{int_max}
use Rattle.std.proofs.lemmas.Int.{ints, clamps}
use Rattle.std.proofs.Math.IntN.{*ℤ-zero}
use Rattle.fix_interval.specs.Units.{unit, unit-is}
use Rattle.fix_interval.specs.Interval.{Interval, IsOrdered}
use Rattle.fix_interval.specs.Round.{floor_of, ceil_of}
use Rattle.fix_interval.specs.Values.{ratio_of, end_of, mul_of, max_of, greater_low, greater_high, product_of_ends, least_of, greatest_of, rounded_outward}
use Rattle.fix_interval.proofs.Ratios.{ratio_of-one}
use Rattle.fix_interval.proofs.Ends.{on_ends-bounded}
use Rattle.fix_interval.proofs.Rounding.{floor_of-mono, ceil_of-mono, floor_of-le-ceil_of}
use Rattle.fix_interval.proofs.Multiplying.{times-mono, times-mono_right, end_of-small, least_of-le-greatest_of}
use Rattle.fix_interval.proofs.Order.{int_min-keeps, int_max-keeps}
use Rattle.fix_interval.proofs.Dividing.{≤ℤ_trans}

-- ---- at least one

abbrev pub one_unit : ℤ
one_unit = pos 1 *ℤ pos unit

pub one_unit-is : one_unit ≡ pos (2 ^ 32)
unfolding unit
one_unit-is = refl

one_metre : ratio_of (pos 1) 1 ≡ record { lo = Some one_unit; hi = Some one_unit }
one_metre = ratio_of-one (pos 1) (lit< tt)

greater_low-one : (end : Option ℤ) (one : ℤ) → pos (2 ^ 32) ≤ℤ one → IsSomeAnd (greater_low (Some one) end) (λ z. pos (2 ^ 32) ≤ℤ z)
greater_low-one None one h = h
greater_low-one (Some z) one h = omega (arith, ints, clamps)

pub at_least_one-low : (d : Interval) → IsSomeAnd (max_of (ratio_of (pos 1) 1) d).lo (λ z. pos (2 ^ 32) ≤ℤ z)
unfolding max_of
at_least_one-low d = rw one_metre (greater_low-one d.lo one_unit (rw one_unit-is (omega (arith, ints))))

-- where the distance is bounded, so is the greater of it and one metre
greater_high-one : (end : Option ℤ) (one limit : ℤ) → IsSomeAnd end (λ z. z ≤ℤ limit) → one ≤ℤ limit → (h : ℤ) × (greater_high (Some one) end ≡ Some h) × (h ≤ℤ limit)
greater_high-one None one limit h k = absurd h
greater_high-one (Some z) one limit h k = (int_max one z, refl, omega (arith, ints, clamps))

pub at_least_one-high : (d : Interval) (limit : ℤ) → IsSomeAnd d.hi (λ z. z ≤ℤ limit) → pos (2 ^ 32) ≤ℤ limit → (h : ℤ) × ((max_of (ratio_of (pos 1) 1) d).hi ≡ Some h) × (h ≤ℤ limit)
unfolding max_of
at_least_one-high d limit h k = rw one_metre (greater_high-one d.hi one_unit limit h (rw one_unit-is k))

-- ---- products that aren't negative

abbrev pub Within : ℤ → ℤ → Type 0
Within limit z = (pos 0 ≤ℤ z) × (z ≤ℤ limit)

pub small_within : (limit z : ℤ) → limit <ℤ pos (2 ^ 126) → Within limit z → unsigned_abs z < 2 ^ 126
small_within limit (pos n) h w = omega (arith, ints, h, w.0, w.1)
small_within limit (negsuc n) h w = absurd (omega (arith, ints, w.0))

pub record Span (limit : ℤ) (i : Interval) : Type 0 where
  pub lo : ℤ
  pub hi : ℤ
  pub lo_is : i.lo ≡ Some lo
  pub hi_is : i.hi ≡ Some hi
  pub not_negative : pos 0 ≤ℤ lo
  pub ordered : lo ≤ℤ hi
  pub below : hi ≤ℤ limit

pub unit-pos : 0 < unit
unit-pos = rw unit-is (omega arith)

floor-zero : floor_of (pos 0) unit ≡ pos 0
unfolding unit
floor-zero = refl

pub floor-not_negative : (z : ℤ) → pos 0 ≤ℤ z → pos 0 ≤ℤ floor_of z unit
floor-not_negative z h = let m = floor_of-mono (pos 0) z unit unit-pos h in rw floor-zero at m

pub span-outward : (limit least greatest : ℤ) → limit <ℤ pos (2 ^ 126) → Within limit least → Within limit greatest → least ≤ℤ greatest → Span (ceil_of limit unit) (rounded_outward (end_of least) (end_of greatest))
span-outward limit least greatest small low high ordered =
    rw (end_of-small least (small_within limit least small low), end_of-small greatest (small_within limit greatest small high))
    (record {
      lo = floor_of least unit;
      hi = ceil_of greatest unit;
      lo_is = refl;
      hi_is = refl;
      not_negative = floor-not_negative least low.0;
      ordered = ≤ℤ_trans (floor_of least unit) (ceil_of least unit) (ceil_of greatest unit) (floor_of-le-ceil_of least unit unit-pos) (ceil_of-mono least greatest unit unit-pos ordered);
      below = ceil_of-mono greatest limit unit unit-pos high.1;
    })

pub within-product : (x y a b : ℤ) → Within a x → Within b y → Within (a *ℤ b) (x *ℤ y)
within-product x y a b hx hy = (
  let m = times-mono_right x (pos 0) y hx.0 hy.0 in rw *ℤ-zero at m,
  ≤ℤ_trans (x *ℤ y) (x *ℤ b) (a *ℤ b) (times-mono_right x y b hx.0 hy.1) (times-mono x a b (≤ℤ_trans (pos 0) y b hy.0 hy.1) hx.1),
)

least-within : (limit p q r s : ℤ) → Within limit p → Within limit q → Within limit r → Within limit s → Within limit (least_of p q r s)
least-within limit p q r s hp hq hr hs = int_min-keeps (Within limit) _ _ (int_min-keeps (Within limit) p q hp hq) (int_min-keeps (Within limit) r s hr hs)

greatest-within : (limit p q r s : ℤ) → Within limit p → Within limit q → Within limit r → Within limit s → Within limit (greatest_of p q r s)
greatest-within limit p q r s hp hq hr hs = int_max-keeps (Within limit) _ _ (int_max-keeps (Within limit) p q hp hq) (int_max-keeps (Within limit) r s hr hs)

-- the product of two spans that aren't negative
pub span-mul : (x y : Interval) (a b : ℤ) → Span a x → Span b y → (a *ℤ b) <ℤ pos (2 ^ 126) → Span (ceil_of (a *ℤ b) unit) (mul_of x y)
unfolding mul_of
span-mul x y a b hx hy small =
    let xl : Within a hx.lo = (hx.not_negative, ≤ℤ_trans hx.lo hx.hi a hx.ordered hx.below) in
    let xh : Within a hx.hi = (≤ℤ_trans (pos 0) hx.lo hx.hi hx.not_negative hx.ordered, hx.below) in
    let yl : Within b hy.lo = (hy.not_negative, ≤ℤ_trans hy.lo hy.hi b hy.ordered hy.below) in
    let yh : Within b hy.hi = (≤ℤ_trans (pos 0) hy.lo hy.hi hy.not_negative hy.ordered, hy.below) in
    let p = within-product hx.lo hy.lo a b xl yl in
    let q = within-product hx.lo hy.hi a b xl yh in
    let r = within-product hx.hi hy.lo a b xh yl in
    let s = within-product hx.hi hy.hi a b xh yh in
    subst (Span (ceil_of (a *ℤ b) unit)) (sym (on_ends-bounded product_of_ends x y hx.lo hx.hi hy.lo hy.hi (hx.lo_is, hx.hi_is) (hy.lo_is, hy.hi_is)))
    (span-outward (a *ℤ b) _ _ small (least-within (a *ℤ b) _ _ _ _ p q r s) (greatest-within (a *ℤ b) _ _ _ _ p q r s)
    (least_of-le-greatest_of (hx.lo *ℤ hy.lo) (hx.lo *ℤ hy.hi) (hx.hi *ℤ hy.lo) (hx.hi *ℤ hy.hi)))

-- a whole number alone
pub units-is : (n : ℕ) → (pos n *ℤ pos unit) ≡ pos (n * 2 ^ 32)
units-is n = ap (λ u. pos (n * u)) unit-is

pub span-exact : (n : ℕ) (limit : ℤ) → n < 2 ^ 60 → pos (n * 2 ^ 32) ≤ℤ limit → Span limit (ratio_of (pos n) 1)
span-exact n limit small h = record {
  lo = pos n *ℤ pos unit;
  hi = pos n *ℤ pos unit;
  lo_is = ap (λ (i : Interval). i.lo) (ratio_of-one (pos n) (omega arith));
  hi_is = ap (λ (i : Interval). i.hi) (ratio_of-one (pos n) (omega arith));
  not_negative = rw (units-is n) (omega (arith, ints));
  ordered = omega (arith, ints);
  below = rw (units-is n) h;
}

pub span-of : (limit : ℤ) (i : Interval) (lo hi : Option ℤ) → lo ≡ i.lo → hi ≡ i.hi → IsOrdered lo hi → IsSomeAnd lo (λ z. pos 0 ≤ℤ z) → IsSomeAnd hi (λ z. z ≤ℤ limit) → Span limit i
span-of limit i None hi lo_is hi_is ordered low high = absurd low
span-of limit i (Some l) None lo_is hi_is ordered low high = absurd high
span-of limit i (Some l) (Some h) lo_is hi_is ordered low high = record { lo = l; hi = h; lo_is = sym lo_is; hi_is = sym hi_is; not_negative = low; ordered = ordered; below = high }
