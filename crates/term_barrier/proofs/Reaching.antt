-- The number of two edges under their logarithm isn't above its bound in whole numbers.
use Rattle.std.proofs.Common.{◌≡◌, ℕ, zero, suc, ◌+◌, ◌-◌, ◌*◌, ◌<◌, ◌≤◌, ◌^◌, ℤ, pos, negsuc, neg_ℤ, ◌*ℤ◌, ◌+ℤ◌, ◌≤ℤ◌, ◌<ℤ◌, refl, sym, ap, subst, ◌∙◌, arith, lit≤, inl, inr}
use Rattle.std.specs.Prelude.{Option, Some, None, unwrap_or, unsigned_abs, ◌⊎◌, IsSomeAnd}
use Rattle.std.specs.Int.{div_ceil, int_max}
use Rattle.std.proofs.lemmas.Bool.{cases_lt}
use Rattle.std.proofs.lemmas.Int.{ints, clamps}
use Rattle.std.proofs.lemmas.Nat.{mul-le}
use Rattle.std.proofs.Math.IntN.{*ℤ_comm}
use Rattle.std.proofs.lemmas.Grind.{div_ceil_times}
use Rattle.fix_interval.specs.Units.{unit, unit-is}
use Rattle.fix_interval.specs.Interval.{Interval, IsInterval, IsOrdered, open_low, open_high}
use Rattle.fix_interval.specs.Bounds.{IsBetween, AreBetween}
use Rattle.fix_interval.specs.Round.{floor_of, ceil_of}
use Rattle.fix_interval.specs.Values.{ratio_of, add_of, mul_of, end_of, on_ends, least_of, least_product, greatest_product, product_of_ends, rounded_outward, sum_of_ends}
use Rattle.fix_interval.specs.Ranges.{LiesIn, from_to}
use Rattle.fix_interval.specs.Tree.{enc}
use Rattle.fix_interval.proofs.Multiplying.{end_of-small, end_of-large, times-mono}
use Rattle.fix_interval.proofs.Ratios.{ratio_of-one}
use Rattle.fix_interval.proofs.Ranging.{are_between, lies_in}
use Rattle.fix_interval.proofs.RangedProducts.{product-lies}
use Rattle.fix_interval.proofs.Rounding.{ceil_of-pos, floor_of-mono, floor_of-le-ceil_of}
use Rattle.fix_interval.proofs.Spans.{unit-pos}
use Rattle.scene_geom.specs.declared.band.Band.{Band}
use Rattle.scene_geom.specs.declared.band.Band.TheVariants.{Hz63, Hz125, Hz250, Hz500, Hz1000, Hz2000, Hz4000, Hz8000}
use Rattle.term_barrier.specs.declared.pair.spacing.EdgeSpacing.{EdgeSpacing}
use Rattle.term_barrier.specs.declared.pair.factors.Factors.{Factors}
use Rattle.term_barrier.specs.Diffraction.{c_2_by_wavelength}
use Rattle.term_barrier.specs.inner.Reaching.{known_c_3, two_edges, pair_number, growth_of, most_number, IsNear, IsReach}
use Rattle.term_barrier.proofs.LateralBounds.{Naturals, waves, naturals-sum, naturals-quotient}

-- ---- ends

-- an interval between two numbers, from the numbers that its ends read as
pub lies-between : (x : Interval) (least most : ℤ) → open_low <ℤ least → most <ℤ open_high → IsInterval x
    → least ≤ℤ unwrap_or x.lo open_low → unwrap_or x.hi open_high ≤ℤ most → AreBetween least most x
lies-between x least most low high h l g = by_ends x.lo x.hi h.ordered l g where
  by_ends : (lo hi : Option ℤ) → IsOrdered lo hi → least ≤ℤ unwrap_or lo open_low → unwrap_or hi open_high ≤ℤ most
      → AreBetween least most (record { lo = lo; hi = hi })
  by_ends None hi o l g = absurd (omega (arith, ints, low, l))
  by_ends (Some a) None o l g = absurd (omega (arith, ints, high, g))
  by_ends (Some a) (Some b) o l g = record { lo = (l, omega (arith, ints, o, g)); hi = (omega (arith, ints, o, l), g) }

pub wider : (l h l' h' : ℤ) (i : Interval) → AreBetween l h i → l' ≤ℤ l → h ≤ℤ h' → AreBetween l' h' i
wider l h l' h' i k low high = record { lo = end i.lo k.lo; hi = end i.hi k.hi } where
  end : (e : Option ℤ) → IsBetween l h e → IsBetween l' h' e
  end None k = absurd k
  end (Some z) k = (omega (arith, ints, k.0, low), omega (arith, ints, k.1, high))

-- what an interval's high end reads as
pub high-is : (l h : ℤ) (i : Interval) → AreBetween l h i → (l ≤ℤ unwrap_or i.hi open_high) × (unwrap_or i.hi open_high ≤ℤ h)
high-is l h i k = end i.hi k.hi where
  end : (e : Option ℤ) → IsBetween l h e → (l ≤ℤ unwrap_or e open_high) × (unwrap_or e open_high ≤ℤ h)
  end None k = absurd k
  end (Some z) k = k

-- and its low end
pub low-is : (l h : ℤ) (i : Interval) → AreBetween l h i → (l ≤ℤ unwrap_or i.lo open_low) × (unwrap_or i.lo open_low ≤ℤ h)
low-is l h i k = end i.lo k.lo where
  end : (e : Option ℤ) → IsBetween l h e → (l ≤ℤ unwrap_or e open_low) × (unwrap_or e open_low ≤ℤ h)
  end None k = absurd k
  end (Some z) k = k

-- up to its own high end
to-high : (l h : ℤ) (i : Interval) → IsInterval i → AreBetween l h i → AreBetween l (unwrap_or i.hi open_high) i
to-high l h i o k = by_ends i.lo i.hi o.ordered k.lo k.hi where
  by_ends : (lo hi : Option ℤ) → IsOrdered lo hi → IsBetween l h lo → IsBetween l h hi → AreBetween l (unwrap_or hi open_high) (record { lo = lo; hi = hi })
  by_ends None hi o k m = absurd k
  by_ends (Some a) None o k m = absurd m
  by_ends (Some a) (Some b) o k m = record { lo = (k.0, o); hi = (m.0, omega (arith, ints)) }

-- ---- products

ceil-units : (n : ℕ) → ceil_of (pos n) unit ≡ pos (div_ceil n (2 ^ 32))
ceil-units n = ceil_of-pos (pos n) unit unit-pos (omega (arith, ints)) ∙ ap (λ (u : ℕ). pos (div_ceil n u)) unit-is

floor-units : (n : ℕ) → floor_of (neg_ℤ (pos n)) unit ≡ neg_ℤ (pos (div_ceil n (2 ^ 32)))
floor-units n =
    let twice : floor_of (neg_ℤ (pos n)) unit ≡ neg_ℤ (ceil_of (pos n) unit) = omega (arith, ints) in
    twice ∙ ap neg_ℤ (ceil-units n)

div_ceil-le : (n : ℕ) → div_ceil n (2 ^ 32) ≤ n
div_ceil-le n = let times = div_ceil_times n (2 ^ 32) (omega arith) in omega (arith, times.1)

negated-times : (a l : ℕ) → pos a *ℤ neg_ℤ (pos l) ≡ neg_ℤ (pos (a * l))
negated-times a zero = omega (arith, ints)
negated-times a (suc l) = omega (arith, ints)

-- of two factors that aren't negative
naturals-range : (a b : ℕ) → a * b < 2 ^ 126 → mul_of (from_to (pos 0) (pos a)) (from_to (pos 0) (pos b)) ≡ from_to (pos 0) (pos (div_ceil (a * b) (2 ^ 32)))
unfolding mul_of unit
naturals-range a b few =
    let least : least_product (pos 0) (pos a) (pos 0) (pos b) ≡ pos 0 = omega (arith, ints, clamps) in
    let greatest : greatest_product (pos 0) (pos a) (pos 0) (pos b) ≡ pos (a * b) = omega (arith, ints, clamps) in
    rw (least, greatest, end_of-small (pos (a * b)) few, ceil-units (a * b)) refl

product-natural : (a b : ℕ) (i k : Interval) → a * b < 2 ^ 126 → AreBetween (pos 0) (pos a) i → AreBetween (pos 0) (pos b) k
    → AreBetween (pos 0) (pos (div_ceil (a * b) (2 ^ 32))) (mul_of i k)
product-natural a b i k few h l =
    are_between _ _ _
    (subst (λ (range : Interval). LiesIn range (mul_of i k)) (naturals-range a b few)
    (product-lies _ _ i k (lies_in _ _ i h) (lies_in _ _ k l)))

-- and of two of which the first isn't, and the second may be
mixed-range : (a l b : ℕ) → a * l < 2 ^ 126 → a * b < 2 ^ 126
    → mul_of (from_to (pos 0) (pos a)) (from_to (neg_ℤ (pos l)) (pos b))
    ≡ from_to (neg_ℤ (pos (div_ceil (a * l) (2 ^ 32)))) (pos (div_ceil (a * b) (2 ^ 32)))
unfolding mul_of
mixed-range a l b small few =
    let times = negated-times a l in
    let least : least_product (pos 0) (pos a) (neg_ℤ (pos l)) (pos b) ≡ neg_ℤ (pos (a * l)) = omega (arith, ints, clamps, times) in
    let greatest : greatest_product (pos 0) (pos a) (neg_ℤ (pos l)) (pos b) ≡ pos (a * b) = omega (arith, ints, clamps, times) in
    rw (
      least,
      greatest,
      end_of-small (neg_ℤ (pos (a * l))) (omega (arith, ints, small)),
      end_of-small (pos (a * b)) few,
      floor-units (a * l),
      ceil-units (a * b),
    )
    refl

product-mixed : (a l b : ℕ) (i k : Interval) → a * l < 2 ^ 126 → a * b < 2 ^ 126 → AreBetween (pos 0) (pos a) i → AreBetween (neg_ℤ (pos l)) (pos b) k
    → AreBetween (neg_ℤ (pos (div_ceil (a * l) (2 ^ 32)))) (pos (div_ceil (a * b) (2 ^ 32))) (mul_of i k)
product-mixed a l b i k small few h m =
    are_between _ _ _
    (subst (λ (range : Interval). LiesIn range (mul_of i k)) (mixed-range a l b small few)
    (product-lies _ _ i k (lies_in _ _ i h) (lies_in _ _ k m)))

-- and where it is the second that isn't: products commute
commuted : (al ah bl bh : ℤ) → mul_of (from_to bl bh) (from_to al ah) ≡ mul_of (from_to al ah) (from_to bl bh)
unfolding mul_of
commuted al ah bl bh =
    let p = *ℤ_comm bl al in
    let q = *ℤ_comm bl ah in
    let r = *ℤ_comm bh al in
    let s = *ℤ_comm bh ah in
    let least : least_product bl bh al ah ≡ least_product al ah bl bh = omega (arith, ints, clamps, p, q, r, s) in
    let greatest : greatest_product bl bh al ah ≡ greatest_product al ah bl bh = omega (arith, ints, clamps, p, q, r, s) in
    rw (least, greatest) refl

product-left : (a l b : ℕ) (i k : Interval) → a * l < 2 ^ 126 → a * b < 2 ^ 126 → AreBetween (neg_ℤ (pos l)) (pos b) i → AreBetween (pos 0) (pos a) k
    → AreBetween (neg_ℤ (pos (div_ceil (a * l) (2 ^ 32)))) (pos (div_ceil (a * b) (2 ^ 32))) (mul_of i k)
product-left a l b i k small few h m =
    are_between _ _ _
    (subst (λ (range : Interval). LiesIn range (mul_of i k)) (commuted (pos 0) (pos a) (neg_ℤ (pos l)) (pos b) ∙ mixed-range a l b small few)
    (product-lies _ _ i k (lies_in _ _ i h) (lies_in _ _ k m)))

-- ---- C_3 is at most 3

record Within (b : ℕ) (i : Interval) : Type 0 where
  low : ℕ
  high : ℕ
  are : Naturals low high i
  ordered : low ≤ high
  few : high ≤ b

natural-ends : (b : ℕ) (i : Interval) → IsInterval i → AreBetween (pos 0) (pos b) i → Within b i
natural-ends b i o k = by_ends i.lo i.hi refl refl o.ordered k.lo k.hi where
  by_ends : (lo hi : Option ℤ) → i.lo ≡ lo → i.hi ≡ hi → IsOrdered lo hi → IsBetween (pos 0) (pos b) lo → IsBetween (pos 0) (pos b) hi → Within b i
  by_ends None hi e f o k m = absurd k
  by_ends (Some l) None e f o k m = absurd m
  by_ends (Some (negsuc l)) (Some h) e f o k m = absurd (omega (arith, ints, k.0))
  by_ends (Some (pos l)) (Some (negsuc h)) e f o k m = absurd (omega (arith, ints, m.0))
  by_ends (Some (pos l)) (Some (pos h)) e f o k m =
      record { low = l; high = h; are = record { lo_is = e; hi_is = f }; ordered = omega (arith, ints, o); few = omega (arith, ints, m.1) }

c_3-three : (band : Band) (spacing : EdgeSpacing) → IsInterval spacing.square → IsInterval spacing.third
    → AreBetween (pos 0) (pos (2 ^ 90)) spacing.square → AreBetween (pos 0) (pos (2 ^ 90)) spacing.third
    → IsNear spacing.square spacing.third → AreBetween (pos 0) (pos (3 * 2 ^ 32)) (known_c_3 band spacing)
c_3-three band spacing i k h l close =
    let square = natural-ends (2 ^ 90) spacing.square i h in
    let third = natural-ends (2 ^ 90) spacing.third k l in
    let wave = waves band in
    let close : square.high ≤ 3 * third.low + (2 ^ 28 - 1) = (let ends = rw (square.are.hi_is, third.are.lo_is) at close in omega (arith, ints, ends)) in
    let above = naturals-sum square.low square.high wave.low wave.high _ _ square.are wave.are (omega (arith, square.ordered, square.few, wave.ordered, wave.few)) (omega (arith, square.few, wave.few)) in
    let below = naturals-sum third.low third.high wave.low wave.high _ _ third.are wave.are (omega (arith, third.ordered, third.few, wave.ordered, wave.few)) (omega (arith, third.few, wave.few)) in
    naturals-quotient 3 (square.low + wave.low) (square.high + wave.high) (third.low + wave.low) (third.high + wave.high) _ _ above below
    (omega (arith, wave.some)) (omega (arith, third.ordered, wave.ordered)) (omega (arith, square.ordered, wave.ordered)) (omega (arith, square.few, wave.few))
    (omega (arith, close, wave.some, wave.close))

-- ---- the number

record Growth (band : Band) : Type 0 where
  c : ℕ
  between : AreBetween (pos 0) (pos c) (enc (c_2_by_wavelength band))
  is : 3 * c ≡ growth_of band
  few : c ≤ 2 ^ 41

grown : (band : Band) → Growth band
unfolding c_2_by_wavelength ratio_of unit growth_of
grown Hz63 = record { c = 15916643509; between = record { lo = (omega (arith, ints), omega (arith, ints)); hi = (omega (arith, ints), omega (arith, ints)) }; is = refl; few = lit≤ tt }
grown Hz125 = record { c = 31580641883; between = record { lo = (omega (arith, ints), omega (arith, ints)); hi = (omega (arith, ints), omega (arith, ints)) }; is = refl; few = lit≤ tt }
grown Hz250 = record { c = 63161283765; between = record { lo = (omega (arith, ints), omega (arith, ints)); hi = (omega (arith, ints), omega (arith, ints)) }; is = refl; few = lit≤ tt }
grown Hz500 = record { c = 126322567530; between = record { lo = (omega (arith, ints), omega (arith, ints)); hi = (omega (arith, ints), omega (arith, ints)) }; is = refl; few = lit≤ tt }
grown Hz1000 = record { c = 252645135059; between = record { lo = (omega (arith, ints), omega (arith, ints)); hi = (omega (arith, ints), omega (arith, ints)) }; is = refl; few = lit≤ tt }
grown Hz2000 = record { c = 505290270118; between = record { lo = (omega (arith, ints), omega (arith, ints)); hi = (omega (arith, ints), omega (arith, ints)) }; is = refl; few = lit≤ tt }
grown Hz4000 = record { c = 1010580540236; between = record { lo = (omega (arith, ints), omega (arith, ints)); hi = (omega (arith, ints), omega (arith, ints)) }; is = refl; few = lit≤ tt }
grown Hz8000 = record { c = 2021161080471; between = record { lo = (omega (arith, ints), omega (arith, ints)); hi = (omega (arith, ints), omega (arith, ints)) }; is = refl; few = lit≤ tt }

-- C_2 C_3 / λ
grown-three : (band : Band) (i : Interval) → AreBetween (pos 0) (pos (3 * 2 ^ 32)) i → AreBetween (pos 0) (pos (growth_of band)) (mul_of (enc (c_2_by_wavelength band)) i)
grown-three band i h =
    let g = grown band in
    let times = div_ceil_times (g.c * (3 * 2 ^ 32)) (2 ^ 32) (omega arith) in
    let product = product-natural g.c (3 * 2 ^ 32) _ i (omega (arith, g.few)) g.between h in
    wider (pos 0) (pos (div_ceil (g.c * (3 * 2 ^ 32)) (2 ^ 32))) (pos 0) (pos (growth_of band)) _ product (omega (arith, ints)) (omega (arith, ints, times.1, g.is))

limited-product : (a b n m : ℕ) → a ≤ 2 ^ n → b ≤ 2 ^ m → a * b ≤ 2 ^ n * 2 ^ m
limited-product a b n m h k = mul-le a b (2 ^ n) (2 ^ m) h k

growth-few : (band : Band) → growth_of band ≤ 2 ^ 43
growth-few band = let g = grown band in omega (arith, g.is, g.few)

record IsThree (i : Interval) : Type 0 where
  low : i.lo ≡ Some (pos (3 * 2 ^ 32))
  high : i.hi ≡ Some (pos (3 * 2 ^ 32))

three-is : IsThree (ratio_of (pos 3) 1)
three-is =
    let units : pos 3 *ℤ pos unit ≡ pos (3 * 2 ^ 32) = rw unit-is (omega (arith, ints)) in
    let point = ratio_of-one (pos 3) (omega arith) in
    record {
      low = ap (λ (i : Interval). i.lo) point ∙ ap Some units;
      high = ap (λ (i : Interval). i.hi) point ∙ ap Some units;
    }

three-end : (l h : ℕ) (three end : Option ℤ) → h ≤ 2 ^ 120 → l ≤ 2 ^ 120 → three ≡ Some (pos (3 * 2 ^ 32)) → IsBetween (neg_ℤ (pos l)) (pos h) end
    → IsSomeAnd (sum_of_ends three end) (λ high. high ≤ℤ pos (3 * 2 ^ 32 + h))
three-end l h three None few small e k = absurd k
three-end l h three (Some z) few small e k =
    let sum : end_of (pos (3 * 2 ^ 32) +ℤ z) ≡ Some (pos (3 * 2 ^ 32) +ℤ z) = end_of-small (pos (3 * 2 ^ 32) +ℤ z) (omega (arith, ints, k.0, k.1, few, small)) in
    subst (λ (three : Option ℤ). IsSomeAnd (sum_of_ends three (Some z)) (λ high. high ≤ℤ pos (3 * 2 ^ 32 + h))) (sym e)
    (subst (λ (sum : Option ℤ). IsSomeAnd sum (λ high. high ≤ℤ pos (3 * 2 ^ 32 + h))) (sym sum) (omega (arith, ints, k.1)))

three-more : (l h : ℕ) (i : Interval) → h ≤ 2 ^ 120 → l ≤ 2 ^ 120 → AreBetween (neg_ℤ (pos l)) (pos h) i
    → IsSomeAnd (add_of (ratio_of (pos 3) 1) i).hi (λ high. high ≤ℤ pos (3 * 2 ^ 32 + h))
unfolding add_of
three-more l h i few small k = three-end l h (ratio_of (pos 3) 1).hi i.hi few small three-is.high k.hi

-- (C_2 / λ) C_3 z
edges-within : (band : Band) (spacing : EdgeSpacing) (z : Interval) (zh : ℕ) → AreBetween (pos 0) (pos (3 * 2 ^ 32)) (known_c_3 band spacing)
    → AreBetween (neg_ℤ (pos (2 ^ 62))) (pos zh) z → zh ≤ 2 ^ 62
    → AreBetween (neg_ℤ (pos (div_ceil (growth_of band * 2 ^ 62) (2 ^ 32)))) (pos (div_ceil (growth_of band * zh) (2 ^ 32))) (two_edges band spacing z)
edges-within band spacing z zh three hz long =
    let few = growth-few band in
    let long_few : growth_of band * zh ≤ 2 ^ 43 * 2 ^ 62 = limited-product (growth_of band) zh 43 62 few long in
    product-mixed (growth_of band) (2 ^ 62) zh _ z (omega (arith, few)) (omega (arith, long_few)) (grown-three band (known_c_3 band spacing) three) hz

edges-few : (band : Band) (zh : ℕ) → zh ≤ 2 ^ 62 → div_ceil (growth_of band * zh) (2 ^ 32) ≤ 2 ^ 74
edges-few band zh long =
    let few : growth_of band * zh ≤ 2 ^ 43 * 2 ^ 62 = limited-product (growth_of band) zh 43 62 (growth-few band) long in
    let times = div_ceil_times (growth_of band * zh) (2 ^ 32) (omega arith) in
    omega (arith, times.1, few)

number-high : (band : Band) (spacing : EdgeSpacing) (z k : Interval) (zh kh : ℕ) → AreBetween (pos 0) (pos (3 * 2 ^ 32)) (known_c_3 band spacing)
    → AreBetween (neg_ℤ (pos (2 ^ 62))) (pos zh) z → AreBetween (pos 0) (pos kh) k → zh ≤ 2 ^ 62 → kh ≤ 2 ^ 32
    → IsSomeAnd (pair_number band spacing z k).hi (λ high. high ≤ℤ pos (most_number (growth_of band) zh kh))
number-high band spacing z k zh kh three hz hk long most =
    let low = div_ceil (growth_of band * 2 ^ 62) (2 ^ 32) in
    let high = div_ceil (growth_of band * zh) (2 ^ 32) in
    let low_size : kh * low ≤ 2 ^ 32 * 2 ^ 74 = limited-product kh low 32 74 most (edges-few band (2 ^ 62) (omega arith)) in
    let high_size : kh * high ≤ 2 ^ 32 * 2 ^ 74 = limited-product kh high 32 74 most (edges-few band zh long) in
    let kept = product-left kh low high _ k (omega (arith, low_size)) (omega (arith, high_size)) (edges-within band spacing z zh three hz long) hk in
    three-more (div_ceil (kh * low) (2 ^ 32)) (div_ceil (kh * high) (2 ^ 32)) (mul_of (two_edges band spacing z) k)
    (omega (arith, div_ceil-le (kh * high), high_size)) (omega (arith, div_ceil-le (kh * low), low_size)) kept

-- ---- its low end

least-first : (p q r s : ℤ) (n : ℕ) → p ≤ℤ pos n → least_of p q r s ≤ℤ pos n
least-first p q r s n h = omega (arith, ints, clamps, h)

floor-below : (x : ℤ) (n : ℕ) → x ≤ℤ pos n → floor_of x unit ≤ℤ pos (div_ceil n (2 ^ 32))
floor-below x n h =
    let up = floor_of-mono x (pos n) unit unit-pos h in
    let ends = floor_of-le-ceil_of (pos n) unit unit-pos in
    let rounded : floor_of (pos n) unit ≤ℤ pos (div_ceil n (2 ^ 32)) = rw (ceil-units n) at ends in
    omega (arith, ints, up, rounded)

-- the product of two low ends is among the four
product-low : (t l : ℕ) (al ah bh : Option ℤ) → unwrap_or al open_low ≤ℤ pos t
    → unwrap_or (on_ends product_of_ends al ah (Some (pos l)) bh).lo open_low ≤ℤ pos (div_ceil (l * t) (2 ^ 32))
product-low t l None ah bh h = omega (arith, ints)
product-low t l (Some al) None bh h = omega (arith, ints)
product-low t l (Some al) (Some ah) None h = omega (arith, ints)
product-low t l (Some al) (Some ah) (Some bh) h =
    let turned : pos t *ℤ pos l ≡ pos (l * t) = *ℤ_comm (pos t) (pos l) in
    let times : (al *ℤ pos l) ≤ℤ (pos t *ℤ pos l) = times-mono al (pos t) (pos l) (omega (arith, ints)) h in
    let first : (al *ℤ pos l) ≤ℤ pos (l * t) = rw turned at times in
    by_size (least_product al ah (pos l) bh) (greatest_product al ah (pos l) bh)
    (least-first (al *ℤ pos l) (al *ℤ bh) (ah *ℤ pos l) (ah *ℤ bh) (l * t) first)
    (cases_lt (unsigned_abs (least_product al ah (pos l) bh)) (2 ^ 126)) (cases_lt (unsigned_abs (greatest_product al ah (pos l) bh)) (2 ^ 126))
  where
    by_size : (least greatest : ℤ) → least ≤ℤ pos (l * t) → (unsigned_abs least < 2 ^ 126) ⊎ (2 ^ 126 ≤ unsigned_abs least) → (unsigned_abs greatest < 2 ^ 126) ⊎ (2 ^ 126 ≤ unsigned_abs greatest)
        → unwrap_or (rounded_outward (end_of least) (end_of greatest)).lo open_low ≤ℤ pos (div_ceil (l * t) (2 ^ 32))
    by_size least greatest o (inr few) k = rw (end_of-large least few) (omega (arith, ints))
    by_size least greatest o (inl few) (inr k) = rw (end_of-small least few, end_of-large greatest k) (omega (arith, ints))
    by_size least greatest o (inl few) (inl k) = rw (end_of-small least few, end_of-small greatest k) (floor-below least (l * t) o)

times-low : (t l : ℕ) (a b : Interval) → b.lo ≡ Some (pos l) → unwrap_or a.lo open_low ≤ℤ pos t → unwrap_or (mul_of a b).lo open_low ≤ℤ pos (div_ceil (l * t) (2 ^ 32))
unfolding mul_of
times-low t l a b e h = rw e (product-low t l a.lo a.hi b.hi h)

three-low : (end : Option ℤ) (n : ℕ) → unwrap_or end open_low ≤ℤ pos n → unwrap_or (sum_of_ends (Some (pos (3 * 2 ^ 32))) end) open_low ≤ℤ pos (3 * 2 ^ 32 + n)
three-low None n h = omega (arith, ints)
three-low (Some z) n h = by_size (pos (3 * 2 ^ 32) +ℤ z) (omega (arith, ints, h)) (cases_lt (unsigned_abs (pos (3 * 2 ^ 32) +ℤ z)) (2 ^ 126)) where
  by_size : (sum : ℤ) → sum ≤ℤ pos (3 * 2 ^ 32 + n) → (unsigned_abs sum < 2 ^ 126) ⊎ (2 ^ 126 ≤ unsigned_abs sum) → unwrap_or (end_of sum) open_low ≤ℤ pos (3 * 2 ^ 32 + n)
  by_size sum o (inr few) = rw (end_of-large sum few) (omega (arith, ints))
  by_size sum o (inl few) = rw (end_of-small sum few) o

number-low : (band : Band) (spacing : EdgeSpacing) (z k : Interval) (zh kl : ℕ) → AreBetween (pos 0) (pos (3 * 2 ^ 32)) (known_c_3 band spacing)
    → AreBetween (neg_ℤ (pos (2 ^ 62))) (pos zh) z → k.lo ≡ Some (pos kl) → zh ≤ 2 ^ 62
    → unwrap_or (pair_number band spacing z k).lo open_low ≤ℤ pos (most_number (growth_of band) zh kl)
unfolding add_of
number-low band spacing z k zh kl three hz e long =
    let high = div_ceil (growth_of band * zh) (2 ^ 32) in
    let low = low-is _ _ (two_edges band spacing z) (edges-within band spacing z zh three hz long) in
    rw three-is.low
    (three-low (mul_of (two_edges band spacing z) k).lo (div_ceil (kl * high) (2 ^ 32)) (times-low high kl (two_edges band spacing z) k e low.1))

-- ---- the reach

low-end : (h : ℤ) (i : Interval) (n : ℕ) → AreBetween (pos 0) h i → pos n ≡ unwrap_or i.lo open_low → i.lo ≡ Some (pos n)
low-end h i n k e = end i.lo k.lo e where
  end : (low : Option ℤ) → IsBetween (pos 0) h low → pos n ≡ unwrap_or low open_low → low ≡ Some (pos n)
  end None k e = absurd k
  end (Some z) k e = ap Some (sym e)

pub reach-is : (spacing : EdgeSpacing) (z k : Interval) (factors : Factors) → IsInterval spacing.square → IsInterval spacing.third → IsInterval z → IsInterval k
    → AreBetween (pos 0) (pos (2 ^ 90)) spacing.square → AreBetween (pos 0) (pos (2 ^ 90)) spacing.third
    → AreBetween (neg_ℤ (pos (2 ^ 62))) (pos (2 ^ 52)) z → AreBetween (pos 0) (pos (2 ^ 32)) k → IsNear spacing.square spacing.third
    → pos factors.z ≡ int_max (unwrap_or z.hi open_high) (pos 0) → pos factors.k_low ≡ unwrap_or k.lo open_low → pos factors.k_high ≡ unwrap_or k.hi open_high
    → IsReach spacing z k factors
reach-is spacing z k factors is it iz ik hs ht hz hk close long least most = λ band.
    let z_high = high-is (neg_ℤ (pos (2 ^ 62))) (pos (2 ^ 52)) z hz in
    let k_high = high-is (pos 0) (pos (2 ^ 32)) k hk in
    let three = c_3-three band spacing is it hs ht close in
    let z_ends : AreBetween (neg_ℤ (pos (2 ^ 62))) (pos factors.z) z =
    wider _ (unwrap_or z.hi open_high) _ (pos factors.z) z (to-high _ _ z iz hz) (omega (arith, ints)) (omega (arith, ints, clamps, long)) in
    let k_ends : AreBetween (pos 0) (pos factors.k_high) k =
    wider _ (unwrap_or k.hi open_high) _ (pos factors.k_high) k (to-high _ _ k ik hk) (omega (arith, ints)) (omega (arith, ints, most)) in
    let few : factors.z ≤ 2 ^ 62 = omega (arith, ints, clamps, long, z_high.1) in (
      number-low band spacing z k factors.z factors.k_low three z_ends (low-end (pos (2 ^ 32)) k factors.k_low hk least) few,
      number-high band spacing z k factors.z factors.k_high three z_ends k_ends few (omega (arith, ints, most, k_high.1)),
    )
