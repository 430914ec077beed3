-- Lemmas on the least and the greatest product of ends.
use Rattle.std.proofs.Common.{◌≡◌, ℕ, zero, suc, ◌<◌, ◌≤◌, ◌^◌, ℤ, pos, negsuc, ◌*ℤ◌, neg_ℤ, ◌≤ℤ◌, ◌<ℤ◌, arith, option_map, true, false, refl, sym, ap, ◌∙◌, inl, inr, to_z, of_z, ◌-ℤ◌}
use Rattle.std.specs.Prelude.{FitsSigned as SFits}
use Rattle.std.specs.Prelude.{unsigned_abs, nat_lt, if◌then◌else◌, Some, None, ◌⊎◌, Option}
use Rattle.std.proofs.Math.Nat.{mul-le-mul_right}
use Rattle.std.proofs.Math.IntN.{*ℤ_comm}
use Rattle.std.proofs.lemmas.Int.{ints, clamps, to_z-of_z, fits_signed_mul, fits_signed_from_abs}
use Rattle.std.specs.Int.{w64, w128}
use Rattle.std.specs.Int.{int_min, int_max}
use Rattle.fix_interval.specs.Interval.{All, IsInterval, IsEnd, IsOrdered}
use Rattle.fix_interval.specs.Units.{unit, unit-is}
use Rattle.fix_interval.specs.Round.{floor_of, ceil_of}
use Rattle.fix_interval.specs.Values.{end_of, least_of, greatest_of, lesser_low, greater_high, least_product, greatest_product, product_of_ends, rounded_outward}
use Rattle.fix_interval.proofs.Order.{int_min-keeps, int_max-keeps, unsigned_abs-neg_ℤ}
use Rattle.fix_interval.proofs.Ratios.{nat_lt-yes, nat_lt-no, passed}
use Rattle.fix_interval.proofs.Rounding.{floor_of-le-ceil_of, floor_of-mono, unsigned_abs-floor_of, unsigned_abs-ceil_of}
use Rattle.std.specs.Int.Signed.{shr_z}
use Rattle.std.proofs.lemmas.Bool.{cases_lt}
use Rattle.fix_interval.proofs.Dividing.{unit-pos, ≤ℤ_trans}

-- ---- order of products

pub times-mono : (x y z : ℤ) → pos 0 ≤ℤ z → x ≤ℤ y → (x *ℤ z) ≤ℤ (y *ℤ z)
times-mono (pos a) (pos b) (pos c) p h = omega (arith, ints, mul-le-mul_right {m = a} {n = b} c (omega (arith, ints)))
times-mono (pos a) (negsuc b) (pos c) p h = absurd (omega (arith, ints))
times-mono (negsuc a) (pos b) (pos c) p h = omega (arith, ints)
times-mono (negsuc a) (negsuc b) (pos c) p h = omega (arith, ints, mul-le-mul_right {m = b} {n = a} c (omega (arith, ints)))
times-mono x y (negsuc c) p h = absurd (omega (arith, ints))

pub times-anti : (x y z : ℤ) → z <ℤ pos 0 → x ≤ℤ y → (y *ℤ z) ≤ℤ (x *ℤ z)
times-anti x y (pos c) p h = absurd (omega (arith, ints))
times-anti (pos a) (pos b) (negsuc c) p h = omega (arith, ints, mul-le-mul_right {m = a} {n = b} (suc c) (omega (arith, ints)))
times-anti (pos a) (negsuc b) (negsuc c) p h = absurd (omega (arith, ints))
times-anti (negsuc a) (pos b) (negsuc c) p h = omega (arith, ints)
times-anti (negsuc a) (negsuc b) (negsuc c) p h = omega (arith, ints, mul-le-mul_right {m = b} {n = a} (suc c) (omega (arith, ints)))

pub times-mono_right : (z x y : ℤ) → pos 0 ≤ℤ z → x ≤ℤ y → (z *ℤ x) ≤ℤ (z *ℤ y)
times-mono_right z x y p h = rw (*ℤ_comm z x, *ℤ_comm z y) (times-mono x y z p h)

-- ---- a first factor that isn't negative

least_of-first : (p q r s : ℤ) → p ≤ℤ q → p ≤ℤ r → r ≤ℤ s → least_of p q r s ≡ p
least_of-first p q r s h k l = omega (arith, ints, clamps)

least_of-third : (p q r s : ℤ) → r ≤ℤ p → p ≤ℤ q → r ≤ℤ s → least_of p q r s ≡ r
least_of-third p q r s h k l = omega (arith, ints, clamps)

greatest_of-fourth : (p q r s : ℤ) → p ≤ℤ q → q ≤ℤ s → r ≤ℤ s → greatest_of p q r s ≡ s
greatest_of-fourth p q r s h k l = omega (arith, ints, clamps)

module _ (al ah bl bh : ℤ) (positive : pos 0 ≤ℤ al) (a : al ≤ℤ ah) (b : bl ≤ℤ bh) where
  high_positive : pos 0 ≤ℤ ah
  high_positive = omega (arith, ints)

  pub least_product-positive : pos 0 ≤ℤ bl → least_product al ah bl bh ≡ al *ℤ bl
  least_product-positive h =
      least_of-first (al *ℤ bl) (al *ℤ bh) (ah *ℤ bl) (ah *ℤ bh) (times-mono_right al bl bh positive b) (times-mono al ah bl h a) (times-mono_right ah bl bh high_positive b)

  pub least_product-negative : bl <ℤ pos 0 → least_product al ah bl bh ≡ ah *ℤ bl
  least_product-negative h =
      least_of-third (al *ℤ bl) (al *ℤ bh) (ah *ℤ bl) (ah *ℤ bh) (times-anti al ah bl h a) (times-mono_right al bl bh positive b) (times-mono_right ah bl bh high_positive b)

  pub greatest_product-positive : pos 0 ≤ℤ bh → greatest_product al ah bl bh ≡ ah *ℤ bh
  greatest_product-positive h =
      greatest_of-fourth (al *ℤ bl) (al *ℤ bh) (ah *ℤ bl) (ah *ℤ bh) (times-mono_right al bl bh positive b) (times-mono al ah bh h a) (times-mono_right ah bl bh high_positive b)

-- ---- the second factor negated

times-negated : (x y : ℤ) → x *ℤ neg_ℤ y ≡ neg_ℤ (x *ℤ y)
times-negated (pos a) (pos zero) = omega (arith, ints)
times-negated (negsuc a) (pos zero) = omega (arith, ints)
times-negated (pos a) (pos (suc b)) = omega (arith, ints)
times-negated (negsuc a) (pos (suc b)) = omega (arith, ints)
times-negated (pos a) (negsuc b) = omega (arith, ints)
times-negated (negsuc a) (negsuc b) = omega (arith, ints)

least_of-negated : (p q r s : ℤ) → least_of (neg_ℤ q) (neg_ℤ p) (neg_ℤ s) (neg_ℤ r) ≡ neg_ℤ (greatest_of p q r s)
least_of-negated p q r s = omega (arith, ints, clamps)

pub least_product-negated : (al ah bl bh : ℤ) → least_product al ah (neg_ℤ bh) (neg_ℤ bl) ≡ neg_ℤ (greatest_product al ah bl bh)
least_product-negated al ah bl bh =
    rw (times-negated al bl, times-negated al bh, times-negated ah bl, times-negated ah bh) (least_of-negated (al *ℤ bl) (al *ℤ bh) (ah *ℤ bl) (ah *ℤ bh))

-- ---- the factors exchanged

least_of-exchanged : (p q r s : ℤ) → least_of p q r s ≡ least_of p r q s
least_of-exchanged p q r s = omega (arith, ints, clamps)

greatest_of-exchanged : (p q r s : ℤ) → greatest_of p q r s ≡ greatest_of p r q s
greatest_of-exchanged p q r s = omega (arith, ints, clamps)

least_product_comm : (al ah bl bh : ℤ) → least_product al ah bl bh ≡ least_product bl bh al ah
least_product_comm al ah bl bh =
    rw (*ℤ_comm bl al, *ℤ_comm bl ah, *ℤ_comm bh al, *ℤ_comm bh ah) (least_of-exchanged (al *ℤ bl) (al *ℤ bh) (ah *ℤ bl) (ah *ℤ bh))

greatest_product_comm : (al ah bl bh : ℤ) → greatest_product al ah bl bh ≡ greatest_product bl bh al ah
greatest_product_comm al ah bl bh =
    rw (*ℤ_comm bl al, *ℤ_comm bl ah, *ℤ_comm bh al, *ℤ_comm bh ah) (greatest_of-exchanged (al *ℤ bl) (al *ℤ bh) (ah *ℤ bl) (ah *ℤ bh))

pub product_of_ends_comm : (al ah bl bh : ℤ) → product_of_ends al ah bl bh ≡ product_of_ends bl bh al ah
product_of_ends_comm al ah bl bh =
    ap (λ (least : ℤ). rounded_outward (end_of least) (end_of (greatest_product al ah bl bh))) (least_product_comm al ah bl bh)
    ∙ ap (λ (greatest : ℤ). rounded_outward (end_of (least_product bl bh al ah)) (end_of greatest)) (greatest_product_comm al ah bl bh)

-- ---- ends

pub end_of-small : (z : ℤ) → unsigned_abs z < 2 ^ 126 → end_of z ≡ Some z
end_of-small z h = rw (nat_lt-yes (unsigned_abs z) (2 ^ 126) h)

pub end_of-negated : (z : ℤ) → option_map neg_ℤ (end_of (neg_ℤ z)) ≡ end_of z
end_of-negated z =
    rw (unsigned_abs-neg_ℤ z) (elim (nat_lt (unsigned_abs z) (2 ^ 126)) as (λ b. option_map neg_ℤ (if b then Some (neg_ℤ z) else None) ≡ (if b then Some z else None)) [
      | true ↦ ap Some (omega (arith, ints))
      | false ↦ refl
    ])

pub end_of-large : (z : ℤ) → 2 ^ 126 ≤ unsigned_abs z → end_of z ≡ None
end_of-large z h = rw (nat_lt-no (unsigned_abs z) (2 ^ 126) h)

pub IsEnd-end_of : (z : ℤ) → IsEnd (end_of z)
IsEnd-end_of z = grind arith

pub IsOrdered-end_of : (x y : ℤ) → x ≤ℤ y → IsOrdered (end_of x) (end_of y)
IsOrdered-end_of x y h = grind (arith, ints)

rounded_outward-None : (x : Option ℤ) → rounded_outward x None ≡ All
rounded_outward-None None = refl
rounded_outward-None (Some x) = refl

-- nothing is known of a span that holds too large a number
pub rounded_outward-large : (least p greatest : ℤ) → least ≤ℤ p → p ≤ℤ greatest → 2 ^ 126 ≤ unsigned_abs p → rounded_outward (end_of least) (end_of greatest) ≡ All
rounded_outward-large least (pos p) greatest h k l =
    rw (end_of-large greatest (omega (arith, ints))) (rounded_outward-None (end_of least))
rounded_outward-large least (negsuc p) greatest h k l = rw (end_of-large least (omega (arith, ints)))

-- ---- all four products

-- the lesser and the greater of ends are unbounded where one of them is
pub lesser_of_ends : (x y : ℤ) → unsigned_abs x < 2 ^ 126 → unsigned_abs y < 2 ^ 126 → lesser_low (end_of x) (end_of y) ≡ end_of (int_min x y)
lesser_of_ends x y h k =
    rw (end_of-small x h, end_of-small y k, end_of-small (int_min x y) (int_min-keeps (λ z. unsigned_abs z < 2 ^ 126) x y h k))

pub greater_of_ends : (x y : ℤ) → unsigned_abs x < 2 ^ 126 → unsigned_abs y < 2 ^ 126 → greater_high (end_of x) (end_of y) ≡ end_of (int_max x y)
greater_of_ends x y h k =
    rw (end_of-small x h, end_of-small y k, end_of-small (int_max x y) (int_max-keeps (λ z. unsigned_abs z < 2 ^ 126) x y h k))

least_of-bounds : (p q r s : ℤ) → (least_of p q r s ≤ℤ p) × (least_of p q r s ≤ℤ q) × (least_of p q r s ≤ℤ r) × (least_of p q r s ≤ℤ s)
least_of-bounds p q r s = (omega (arith, ints, clamps), omega (arith, ints, clamps), omega (arith, ints, clamps), omega (arith, ints, clamps))

greatest_of-bounds : (p q r s : ℤ) → (p ≤ℤ greatest_of p q r s) × (q ≤ℤ greatest_of p q r s) × (r ≤ℤ greatest_of p q r s) × (s ≤ℤ greatest_of p q r s)
greatest_of-bounds p q r s = (omega (arith, ints, clamps), omega (arith, ints, clamps), omega (arith, ints, clamps), omega (arith, ints, clamps))

pub least_of-le-greatest_of : (p q r s : ℤ) → least_of p q r s ≤ℤ greatest_of p q r s
least_of-le-greatest_of p q r s = omega (arith, ints, clamps)

Size : ℤ → Type 0
Size z = (unsigned_abs z < 2 ^ 126) ⊎ (2 ^ 126 ≤ unsigned_abs z)

size_of : (z : ℤ) → Size z
unfolding Size
size_of z = cases_lt (unsigned_abs z) (2 ^ 126)

four_ends_by : (p q r s : ℤ) → Size p → Size q → Size r → Size s → rounded_outward (lesser_low (lesser_low (end_of p) (end_of q)) (lesser_low (end_of r) (end_of s))) (greater_high (greater_high (end_of p) (end_of q)) (greater_high (end_of r) (end_of s))) ≡ rounded_outward (end_of (least_of p q r s)) (end_of (greatest_of p q r s))
unfolding Size
four_ends_by p q r s (inr h) k l m =
    rw (end_of-large p h) (sym (rounded_outward-large (least_of p q r s) p (greatest_of p q r s) (least_of-bounds p q r s).0 (greatest_of-bounds p q r s).0 h))
four_ends_by p q r s (inl h) (inr k) l m =
    rw (end_of-small p h, end_of-large q k) (sym (rounded_outward-large (least_of p q r s) q (greatest_of p q r s) (least_of-bounds p q r s).1 (greatest_of-bounds p q r s).1 k))
four_ends_by p q r s (inl h) (inl k) (inr l) m =
    rw (end_of-small p h, end_of-small q k, end_of-large r l) (sym (rounded_outward-large (least_of p q r s) r (greatest_of p q r s) (least_of-bounds p q r s).2 (greatest_of-bounds p q r s).2 l))
four_ends_by p q r s (inl h) (inl k) (inl l) (inr m) =
    rw (end_of-small p h, end_of-small q k, end_of-small r l, end_of-large s m) (sym (rounded_outward-large (least_of p q r s) s (greatest_of p q r s) (least_of-bounds p q r s).3 (greatest_of-bounds p q r s).3 m))
four_ends_by p q r s (inl h) (inl k) (inl l) (inl m) =
    let pq : unsigned_abs (int_min p q) < 2 ^ 126 = int_min-keeps (λ z. unsigned_abs z < 2 ^ 126) p q h k in
    let rs : unsigned_abs (int_min r s) < 2 ^ 126 = int_min-keeps (λ z. unsigned_abs z < 2 ^ 126) r s l m in
    let pq' : unsigned_abs (int_max p q) < 2 ^ 126 = int_max-keeps (λ z. unsigned_abs z < 2 ^ 126) p q h k in
    let rs' : unsigned_abs (int_max r s) < 2 ^ 126 = int_max-keeps (λ z. unsigned_abs z < 2 ^ 126) r s l m in
    rw (
      lesser_of_ends p q h k,
      lesser_of_ends r s l m,
      lesser_of_ends (int_min p q) (int_min r s) pq rs,
      greater_of_ends p q h k,
      greater_of_ends r s l m,
      greater_of_ends (int_max p q) (int_max r s) pq' rs',
    )

-- the lesser and the greater of the ends are the ends of the least and the greatest
pub four_ends : (p q r s : ℤ) → rounded_outward (lesser_low (lesser_low (end_of p) (end_of q)) (lesser_low (end_of r) (end_of s))) (greater_high (greater_high (end_of p) (end_of q)) (greater_high (end_of r) (end_of s))) ≡ rounded_outward (end_of (least_of p q r s)) (end_of (greatest_of p q r s))
four_ends p q r s = four_ends_by p q r s (size_of p) (size_of q) (size_of r) (size_of s)

pub IsEnd-lesser : (x y : Option ℤ) → IsEnd x → IsEnd y → IsEnd (lesser_low x y)
IsEnd-lesser None y h k = tt
IsEnd-lesser (Some x) None h k = tt
IsEnd-lesser (Some x) (Some y) h k = int_min-keeps (λ z. unsigned_abs z < 2 ^ 126) x y h k

pub IsEnd-greater : (x y : Option ℤ) → IsEnd x → IsEnd y → IsEnd (greater_high x y)
IsEnd-greater None y h k = tt
IsEnd-greater (Some x) None h k = tt
IsEnd-greater (Some x) (Some y) h k = int_max-keeps (λ z. unsigned_abs z < 2 ^ 126) x y h k

-- each of two ends is above the lesser and below the greater
IsOrdered-lesser_greater : (x y : Option ℤ) → IsOrdered (lesser_low x y) (greater_high x y)
IsOrdered-lesser_greater None y = tt
IsOrdered-lesser_greater (Some x) None = tt
IsOrdered-lesser_greater (Some x) (Some y) = omega (arith, ints, clamps)

pub IsOrdered-four : (x y z w : Option ℤ) → IsOrdered (lesser_low (lesser_low x y) (lesser_low z w)) (greater_high (greater_high x y) (greater_high z w))
IsOrdered-four None y z w = tt
IsOrdered-four (Some x) None z w = tt
IsOrdered-four (Some x) (Some y) None w = tt
IsOrdered-four (Some x) (Some y) (Some z) None = tt
IsOrdered-four (Some x) (Some y) (Some z) (Some w) = least_of-le-greatest_of x y z w

-- ---- outward rounding

pub shr_z_is : (z : ℤ) (m : ℕ) → shr_z z m ≡ floor_of z m
shr_z_is (pos a) m = refl
shr_z_is (negsuc a) m = refl

pub IsInterval-outward : (least greatest : ℤ) → unsigned_abs least < 2 ^ 126 → unsigned_abs greatest < 2 ^ 126 → least ≤ℤ greatest → IsInterval (record { lo = Some (floor_of least unit); hi = Some (ceil_of greatest unit) })
IsInterval-outward least greatest h k o = record {
  low_end = omega (arith, unsigned_abs-floor_of least unit unit-pos);
  high_end = omega (arith, unsigned_abs-ceil_of greatest unit unit-pos);
  ordered = ≤ℤ_trans (floor_of least unit) (floor_of greatest unit) (ceil_of greatest unit) (floor_of-mono least greatest unit unit-pos o) (floor_of-le-ceil_of greatest unit unit-pos);
}

zero_minus : (z : ℤ) → pos 0 -ℤ z ≡ neg_ℤ z
zero_minus z = omega (arith, ints)

-- the code's shifts
pub below_is : (z : ℤ) → unsigned_abs z < 2 ^ 126 → to_z w128 (of_z w128 (shr_z (to_z w128 (of_z w128 z)) (2 ^ 32))) ≡ floor_of z unit
below_is z h =
    let small : unsigned_abs (floor_of z (2 ^ 32)) < 2 ^ 126 = omega (arith, unsigned_abs-floor_of z (2 ^ 32) (omega arith)) in
    rw (passed z h, shr_z_is z (2 ^ 32), passed (floor_of z (2 ^ 32)) small, unit-is)

pub above_is : (z : ℤ) → unsigned_abs z < 2 ^ 126 → to_z w128 (of_z w128 (pos 0 -ℤ to_z w128 (of_z w128 (shr_z (to_z w128 (of_z w128 (pos 0 -ℤ to_z w128 (of_z w128 z)))) (2 ^ 32))))) ≡ ceil_of z unit
above_is z h =
    let small : unsigned_abs (neg_ℤ z) < 2 ^ 126 = rw (unsigned_abs-neg_ℤ z) h in
    let down : unsigned_abs (floor_of (neg_ℤ z) unit) < 2 ^ 126 = omega (arith, unsigned_abs-floor_of (neg_ℤ z) unit unit-pos) in
    let up : unsigned_abs (neg_ℤ (floor_of (neg_ℤ z) unit)) < 2 ^ 126 = rw (unsigned_abs-neg_ℤ (floor_of (neg_ℤ z) unit)) down in
    rw (passed z h, zero_minus z, below_is (neg_ℤ z) small, zero_minus (floor_of (neg_ℤ z) unit), passed (neg_ℤ (floor_of (neg_ℤ z) unit)) up)

-- the ends as the code passes them
pub IsInterval-passed : (least greatest l g x y : ℤ) → l ≡ least → g ≡ greatest → x ≡ floor_of l unit → y ≡ ceil_of g unit → IsInterval (record { lo = Some (floor_of least unit); hi = Some (ceil_of greatest unit) }) → IsInterval (record { lo = Some (to_z w128 (of_z w128 x)); hi = Some (to_z w128 (of_z w128 y)) })
IsInterval-passed least greatest l g x y low high below above i =
    rw (below, above, low, high, passed (floor_of least unit) i.low_end, passed (ceil_of greatest unit) i.high_end) i

fits_128 : (z : ℤ) → SFits w64 z → SFits w128 z
fits_128 z h = fits_signed_from_abs w128 z (omega (arith, ints))

-- a product of two numbers of 64 bits, as the code widens them
pub product_widened : (x y : ℤ) → SFits w64 x → SFits w64 y → to_z w128 (of_z w128 (to_z w128 (of_z w128 (to_z w64 (of_z w64 x))) *ℤ to_z w128 (of_z w128 (to_z w64 (of_z w64 y))))) ≡ x *ℤ y
product_widened x y h k =
    let fits : SFits w128 (x *ℤ y) = fits_signed_mul w128 x y (2 ^ 63) (2 ^ 63) (omega (arith, ints)) (omega (arith, ints)) (omega arith) in
    rw (to_z-of_z w64 x h, to_z-of_z w64 y k, to_z-of_z w128 x (fits_128 x h), to_z-of_z w128 y (fits_128 y k), to_z-of_z w128 (x *ℤ y) fits)

-- the product of two ends as the code passes them
pub product_passed : (x y p : ℤ) → unsigned_abs x < 2 ^ 126 → unsigned_abs y < 2 ^ 126 → p ≡ x *ℤ y → end_of (to_z w128 (of_z w128 x) *ℤ to_z w128 (of_z w128 y)) ≡ end_of p
product_passed x y p h k e = rw (passed x h, passed y k, e)
