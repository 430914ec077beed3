-- A pair of whose number neither end can be above that of the greatest so far doesn't raise that.
use Rattle.std.proofs.Common.{◌≡◌, ◌*◌, ◌<◌, ◌≤◌, ◌^◌, ℤ, pos, ◌*ℤ◌, ◌≤ℤ◌, ap, sym, refl, ◌∙◌, arith, inl, inr}
use Rattle.std.specs.Prelude.{Option, Some, None, unwrap_or, unsigned_abs, IsSomeAnd, ◌⊎◌}
use Rattle.std.proofs.lemmas.Int.{ints, clamps}
use Rattle.std.proofs.lemmas.Bool.{cases_lt}
use Rattle.fix_interval.specs.Units.{unit}
use Rattle.fix_interval.specs.Interval.{Interval, IsInterval, open_low, open_high}
use Rattle.fix_interval.specs.Values.{ratio_of, end_of, on_ends, mul_of, product_of_ends, least_product, greatest_product, rounded_outward, max_of, hull_of, pick_of, greater_low, greater_high, lesser_low}
use Rattle.fix_interval.specs.declared.truth.Truth.{Truth}
use Rattle.fix_interval.specs.declared.truth.Truth.TheVariants.{Sure, Never, Unsure}
use Rattle.fix_interval.specs.Tree.{Known, Mul, enc}
use Rattle.fix_interval.proofs.Intervals.{IsInterval-All, IsInterval-add_of, IsInterval-pick_of}
use Rattle.fix_interval.proofs.Multiplying.{end_of-small, end_of-large, least_of-le-greatest_of, IsInterval-outward}
use Rattle.fix_interval.proofs.Ratios.{IsInterval-Const}
use Rattle.scene_geom.specs.declared.band.Band.{Band}
use Rattle.term_barrier.specs.declared.pair.spacing.EdgeSpacing.{EdgeSpacing}
use Rattle.term_barrier.specs.declared.pair.factors.Factors.{Factors}
use Rattle.term_barrier.specs.declared.pair.DoubleDiffraction.{DoubleDiffraction}
use Rattle.term_barrier.specs.Diffraction.{whole, three_and, double_limit}
use Rattle.term_barrier.specs.inner.Reaching.{two_edges, pair_number, growth_of, most_number, IsReach, StaysBelow}
use Rattle.term_barrier.specs.inner.Prepared.{pair_value, Passes}
use Rattle.term_barrier.proofs.Bounds.{known-attenuation}
use Rattle.term_barrier.proofs.OneLogarithm.{screens, screens-picked}

-- ---- the number that decides

pub argument-decides : (pair : DoubleDiffraction) (band : Band) (number : Interval) → number ≡ pair_number band pair.spacing pair.z pair.k → IsInterval number
    → pair_value pair band ≡ screens double_limit (pick_of pair.convex number (enc (whole 1)))
argument-decides pair band number e interval =
    let formula = three_and (Mul (Known (two_edges band pair.spacing pair.z)) (Known pair.k)) in
    ap (λ (i : Interval). pick_of pair.convex i (enc (whole 0))) (sym (ap (screens double_limit) e ∙ known-attenuation double_limit formula))
    ∙ screens-picked pair.convex number interval

-- a product is an interval whatever its factors are
product-interval : (al ah bl bh : Option ℤ) → IsInterval (on_ends product_of_ends al ah bl bh)
product-interval None ah bl bh = IsInterval-All
product-interval (Some al) None bl bh = IsInterval-All
product-interval (Some al) (Some ah) None bh = IsInterval-All
product-interval (Some al) (Some ah) (Some bl) None = IsInterval-All
product-interval (Some al) (Some ah) (Some bl) (Some bh) =
    by_size (least_product al ah bl bh) (greatest_product al ah bl bh)
    (least_of-le-greatest_of (al *ℤ bl) (al *ℤ bh) (ah *ℤ bl) (ah *ℤ bh)) (cases_lt (unsigned_abs (least_product al ah bl bh)) (2 ^ 126)) (cases_lt (unsigned_abs (greatest_product al ah bl bh)) (2 ^ 126))
  where
    by_size : (least greatest : ℤ) → least ≤ℤ greatest → (unsigned_abs least < 2 ^ 126) ⊎ (2 ^ 126 ≤ unsigned_abs least) → (unsigned_abs greatest < 2 ^ 126) ⊎ (2 ^ 126 ≤ unsigned_abs greatest)
        → IsInterval (rounded_outward (end_of least) (end_of greatest))
    by_size least greatest o (inr h) k = rw (end_of-large least h) IsInterval-All
    by_size least greatest o (inl h) (inr k) = rw (end_of-small least h, end_of-large greatest k) IsInterval-All
    by_size least greatest o (inl h) (inl k) = rw (end_of-small least h, end_of-small greatest k) (IsInterval-outward least greatest h k o)

times-interval : (a b : Interval) → IsInterval (mul_of a b)
unfolding mul_of
times-interval a b = product-interval a.lo a.hi b.lo b.hi

number-interval : (band : Band) (spacing : EdgeSpacing) (z k : Interval) → IsInterval (pair_number band spacing z k)
number-interval band spacing z k =
    IsInterval-add_of (ratio_of (pos 3) 1) (mul_of (two_edges band spacing z) k) (IsInterval-Const (pos 3) 1 (omega arith)) (times-interval (two_edges band spacing z) k)

-- ---- what it is at most

one-is : enc (whole 1) ≡ record { lo = Some (pos (2 ^ 32)); hi = Some (pos (2 ^ 32)) }
unfolding ratio_of unit
one-is = refl

greater-one : (end : Option ℤ) (most : ℤ) → pos (3 * 2 ^ 32) ≤ℤ most → IsSomeAnd end (λ z. z ≤ℤ most) → IsSomeAnd (greater_high end (Some (pos (2 ^ 32)))) (λ z. z ≤ℤ most)
greater-one None most h k = absurd k
greater-one (Some z) most h k = omega (arith, ints, clamps, h, k)

picked-most : (t : Truth) (i : Interval) (most : ℤ) → pos (3 * 2 ^ 32) ≤ℤ most → IsSomeAnd i.hi (λ z. z ≤ℤ most)
    → IsSomeAnd (pick_of t i (enc (whole 1))).hi (λ z. z ≤ℤ most)
unfolding pick_of hull_of
picked-most Sure i most h k = k
picked-most Never i most h k = rw one-is (omega (arith, ints, h))
picked-most Unsure i most h k = rw one-is (greater-one i.hi most h k)

lesser-one : (end : Option ℤ) (most : ℤ) → pos (3 * 2 ^ 32) ≤ℤ most → unwrap_or (lesser_low end (Some (pos (2 ^ 32)))) open_low ≤ℤ most
lesser-one None most h = omega (arith, ints, h)
lesser-one (Some z) most h = omega (arith, ints, clamps, h)

picked-low : (t : Truth) (i : Interval) (most : ℤ) → pos (3 * 2 ^ 32) ≤ℤ most → unwrap_or i.lo open_low ≤ℤ most
    → unwrap_or (pick_of t i (enc (whole 1))).lo open_low ≤ℤ most
unfolding pick_of hull_of
picked-low Sure i most h k = k
picked-low Never i most h k = rw one-is (omega (arith, ints, h))
picked-low Unsure i most h k = rw one-is (lesser-one i.lo most h)

-- ---- what isn't above an interval

-- what isn't above an end doesn't raise it
low-kept : (best next : Option ℤ) (most : ℤ) → pos 0 ≤ℤ most → unwrap_or next open_low ≤ℤ most → most ≤ℤ unwrap_or best open_low → greater_low best next ≡ best
low-kept None next most h k below = absurd (omega (arith, ints, h, below))
low-kept (Some x) None most h k below = refl
low-kept (Some x) (Some y) most h k below = ap Some (omega (arith, ints, clamps, k, below))

high-kept : (best next : Option ℤ) (most : ℤ) → IsSomeAnd next (λ z. z ≤ℤ most) → most ≤ℤ unwrap_or best open_high → greater_high best next ≡ best
high-kept None next most k below = refl
high-kept (Some x) None most k below = absurd k
high-kept (Some x) (Some y) most k below = ap Some (omega (arith, ints, clamps, k, below))

lesser-is : (best number : Interval) (low high : ℤ) → pos 0 ≤ℤ low → unwrap_or number.lo open_low ≤ℤ low → IsSomeAnd number.hi (λ z. z ≤ℤ high)
    → low ≤ℤ unwrap_or best.lo open_low → high ≤ℤ unwrap_or best.hi open_high → max_of best number ≡ best
unfolding max_of
lesser-is best number low high h l n below above =
    rw (low-kept best.lo number.lo low h l below, high-kept best.hi number.hi high n above) refl

pub passes : (best : Interval) (band : Band) (pair : DoubleDiffraction) (factors : Factors) → IsReach pair.spacing pair.z pair.k factors
    → StaysBelow best (growth_of band) factors → Passes best band pair
passes best band pair factors reached below =
    let number = pair_number band pair.spacing pair.z pair.k in
    let interval = number-interval band pair.spacing pair.z pair.k in
    let low = pos (most_number (growth_of band) factors.z factors.k_low) in
    let high = pos (most_number (growth_of band) factors.z factors.k_high) in
    record {
      number = pick_of pair.convex number (enc (whole 1));
      interval = IsInterval-pick_of pair.convex number (enc (whole 1)) interval (IsInterval-Const (pos 1) 1 (omega arith));
      decides = argument-decides pair band number refl interval;
      lesser =
          lesser-is best (pick_of pair.convex number (enc (whole 1))) low high (omega (arith, ints))
          (picked-low pair.convex number low (omega (arith, ints)) (reached band).0)
          (picked-most pair.convex number high (omega (arith, ints)) (reached band).1) below.0 below.1;
    }
