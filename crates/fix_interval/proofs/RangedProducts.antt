-- Products and quotients keep to their ranges.
use Rattle.std.proofs.Common.{◌≡◌, ◌<◌, ◌≤◌, ◌^◌, ℤ, pos, negsuc, neg_ℤ, ◌*ℤ◌, ◌≤ℤ◌, ◌<ℤ◌, unsigned_abs, Option, refl, sym, ◌∙◌, subst, arith, inl, inr}
use Rattle.std.specs.Prelude.{Bool, true, false, ◌⊎◌, Some, None, int_le, if◌then◌else◌}
use Rattle.std.specs.Int.{int_min, int_max}
use Rattle.std.proofs.lemmas.Int.{ints, clamps, by_lt_z}
use Rattle.std.proofs.Math.IntN.{*ℤ_comm}
use Rattle.fix_interval.specs.Units.{unit}
use Rattle.fix_interval.specs.Interval.{Interval, All}
use Rattle.fix_interval.specs.Round.{floor_of, ceil_of, floor_quotient, ceil_quotient}
use Rattle.fix_interval.specs.Values.{end_of, on_ends, mul_of, product_of_ends, least_of, greatest_of, least_product, greatest_product, rounded_outward, div_of, quotient_of_ends}
use Rattle.fix_interval.specs.Lg.{is_at_least}
use Rattle.fix_interval.specs.Ranges.{LiesIn, from_to, quotient_range}
use Rattle.fix_interval.proofs.Ends.{on_ends-bounded}
use Rattle.fix_interval.proofs.Order.{int_min-keeps, int_max-keeps}
use Rattle.fix_interval.proofs.Rounding.{floor_of-mono, ceil_of-mono, floor_of-le-ceil_of, floor_of-anti, floor_of-anti_negative}
use Rattle.fix_interval.proofs.Multiplying.{end_of-small, times-mono, times-anti}
use Rattle.std.proofs.lemmas.Bool.{cases_lt}
use Rattle.fix_interval.proofs.Ratios.{nat_lt-yes}
use Rattle.fix_interval.proofs.Dividing.{≤ℤ_trans, unit-pos, units-mono, floor_quotient-mono, ceil_quotient-mono, int_le-no, quotient_of_ends-large}
use Rattle.fix_interval.proofs.Ranging.{Lies, Ends, ends-of, LiesIn-All, abs-between, end-size, on_ranges}

-- ---- products

-- the least of four below a bound
four-least : (P : ℤ → Type 0) (p q r s : ℤ) → P p → P q → P r → P s → P (least_of p q r s)
four-least P p q r s hp hq hr hs = int_min-keeps P _ _ (int_min-keeps P p q hp hq) (int_min-keeps P r s hr hs)

four-greatest : (P : ℤ → Type 0) (p q r s : ℤ) → P p → P q → P r → P s → P (greatest_of p q r s)
four-greatest P p q r s hp hq hr hs = int_max-keeps P _ _ (int_max-keeps P p q hp hq) (int_max-keeps P r s hr hs)

-- a product lies between those of the ends of one factor
between-first : (a b x y : ℤ) → Lies a b x → Lies (int_min (a *ℤ y) (b *ℤ y)) (int_max (a *ℤ y) (b *ℤ y)) (x *ℤ y)
between-first a b x y h = by_lt_z y (pos 0)
    (λ below. (omega (arith, ints, clamps, times-anti x b y below h.1), omega (arith, ints, clamps, times-anti a x y below h.0)))
    (λ from. (omega (arith, ints, clamps, times-mono a x y from h.0), omega (arith, ints, clamps, times-mono x b y from h.1)))

between-second : (c d x y : ℤ) → Lies c d y → Lies (int_min (x *ℤ c) (x *ℤ d)) (int_max (x *ℤ c) (x *ℤ d)) (x *ℤ y)
between-second c d x y h = rw (*ℤ_comm x c, *ℤ_comm x d, *ℤ_comm x y) (between-first c d y x h)

-- and so between the four products of ends
product-between : (a b c d x y : ℤ) → Lies a b x → Lies c d y → Lies (least_product a b c d) (greatest_product a b c d) (x *ℤ y)
product-between a b c d x y h k =
    let p = between-first a b x y h in
    let low = between-second c d a y k in
    let high = between-second c d b y k in
    (omega (arith, ints, clamps, p.0, low.0, high.0), omega (arith, ints, clamps, p.1, low.1, high.1))

outward-lies : (low high : ℤ) (least greatest : ℤ) → unsigned_abs low < 2 ^ 126 → unsigned_abs high < 2 ^ 126 → Lies low high least → Lies low high greatest
    → LiesIn (from_to (floor_of low unit) (ceil_of high unit)) (rounded_outward (end_of least) (end_of greatest))
outward-lies low high least greatest small great l g =
    rw (end_of-small least (abs-between low high least small great l), end_of-small greatest (abs-between low high greatest small great g))
    (record {
      low = (floor_of-mono low least unit unit-pos l.0, ≤ℤ_trans _ _ _ (floor_of-mono low greatest unit unit-pos g.0) (floor_of-le-ceil_of greatest unit unit-pos));
      high = (≤ℤ_trans _ _ _ (floor_of-le-ceil_of least unit unit-pos) (ceil_of-mono least high unit unit-pos l.1), ceil_of-mono greatest high unit unit-pos g.1);
    })

product-made : (a b c d : ℤ) (i j : Interval) → Ends a b i → Ends c d j → unsigned_abs (least_product a b c d) < 2 ^ 126 → unsigned_abs (greatest_product a b c d) < 2 ^ 126
    → LiesIn (from_to (floor_of (least_product a b c d) unit) (ceil_of (greatest_product a b c d) unit)) (mul_of i j)
unfolding mul_of
product-made a b c d i j x y small great =
    let low = least_product a b c d in
    let high = greatest_product a b c d in
    let p = product-between a b c d x.lo y.lo x.lo_lies y.lo_lies in
    let q = product-between a b c d x.lo y.hi x.lo_lies y.hi_lies in
    let r = product-between a b c d x.hi y.lo x.hi_lies y.lo_lies in
    let s = product-between a b c d x.hi y.hi x.hi_lies y.hi_lies in
    subst (LiesIn (from_to (floor_of low unit) (ceil_of high unit))) (sym (on_ends-bounded product_of_ends i j x.lo x.hi y.lo y.hi (x.lo_is, x.hi_is) (y.lo_is, y.hi_is)))
    (outward-lies low high _ _ small great (four-least (Lies low high) _ _ _ _ p q r s) (four-greatest (Lies low high) _ _ _ _ p q r s))

product-bounded : (a b c d : ℤ) (i j : Interval) → Ends a b i → Ends c d j → LiesIn (product_of_ends a b c d) (mul_of i j)
product-bounded a b c d i j x y = by_sizes (end-size (least_product a b c d)) (end-size (greatest_product a b c d)) where
  by_sizes : (unsigned_abs (least_product a b c d) < 2 ^ 126) ⊎ (end_of (least_product a b c d) ≡ None) → (unsigned_abs (greatest_product a b c d) < 2 ^ 126) ⊎ (end_of (greatest_product a b c d) ≡ None)
      → LiesIn (product_of_ends a b c d) (mul_of i j)
  by_sizes (inl small) (inl great) =
      rw (end_of-small (least_product a b c d) small, end_of-small (greatest_product a b c d) great) (product-made a b c d i j x y small great)
  by_sizes (inl small) (inr none) = rw (end_of-small (least_product a b c d) small, none) (LiesIn-All _)
  by_sizes (inr none) great = rw none (LiesIn-All _)

pub product-lies : (a b i j : Interval) → LiesIn a i → LiesIn b j → LiesIn (mul_of a b) (mul_of i j)
unfolding mul_of
product-lies a b i j h k =
    on_ranges product_of_ends (on_ends product_of_ends i.lo i.hi j.lo j.hi) a.lo a.hi b.lo b.hi i j
    (λ p q r s x y. product-whole p q r s i j x y) h k
  where
    product-whole : (p q r s : ℤ) (i j : Interval) → Ends p q i → Ends r s j → LiesIn (product_of_ends p q r s) (on_ends product_of_ends i.lo i.hi j.lo j.hi)
    product-whole p q r s i j x y = product-bounded p q r s i j x y

-- ---- quotients by what is above 0

-- a quotient rounded down lies between those by the ends of the divisor
floor-between : (n c d y : ℤ) → pos 0 <ℤ c → Lies c d y → Lies (int_min (floor_quotient n c) (floor_quotient n d)) (int_max (floor_quotient n c) (floor_quotient n d)) (floor_quotient n y)
floor-between (pos n) (pos c) (pos d) (pos y) p h =
    let low = floor_of-anti n y d (omega (arith, ints, p, h.0)) (omega (arith, ints, h.1)) in
    let high = floor_of-anti n c y (omega (arith, ints, p)) (omega (arith, ints, h.0)) in
    (omega (arith, ints, clamps, low), omega (arith, ints, clamps, high))
floor-between (negsuc n) (pos c) (pos d) (pos y) p h =
    let low = floor_of-anti_negative n c y (omega (arith, ints, p)) (omega (arith, ints, h.0)) in
    let high = floor_of-anti_negative n y d (omega (arith, ints, p, h.0)) (omega (arith, ints, h.1)) in
    (omega (arith, ints, clamps, low), omega (arith, ints, clamps, high))
floor-between n (negsuc c) d y p h = absurd (omega (arith, ints, p))
floor-between n (pos c) d (negsuc y) p h = absurd (omega (arith, ints, h.0))
floor-between n (pos c) (negsuc d) (pos y) p h = absurd (omega (arith, ints, h.1))

neg-neg : (z : ℤ) → neg_ℤ (neg_ℤ z) ≡ z
neg-neg z = omega (arith, ints)

-- and rounded up, which is rounding the negated quotient down
ceil-between : (n c d y : ℤ) → pos 0 <ℤ c → Lies c d y → Lies (int_min (ceil_quotient n c) (ceil_quotient n d)) (int_max (ceil_quotient n c) (ceil_quotient n d)) (ceil_quotient n y)
ceil-between n (pos c) (pos d) (pos y) p h =
    let f = floor-between (neg_ℤ n) (pos c) (pos d) (pos y) p h in
    (omega (arith, ints, clamps, f.1), omega (arith, ints, clamps, f.0))
ceil-between n (negsuc c) d y p h = absurd (omega (arith, ints, p))
ceil-between n (pos c) d (negsuc y) p h = absurd (omega (arith, ints, h.0))
ceil-between n (pos c) (negsuc d) (pos y) p h = absurd (omega (arith, ints, h.1))

floor-le-ceil : (n y : ℤ) → pos 0 <ℤ y → floor_quotient n y ≤ℤ ceil_quotient n y
floor-le-ceil n (pos y) p = floor_of-le-ceil_of n y (omega (arith, ints, p))
floor-le-ceil n (negsuc y) p = absurd (omega (arith, ints, p))

-- the least and the greatest of the four quotients of ends
abbrev least_quotient : ℤ → ℤ → ℤ → ℤ → ℤ
least_quotient a b c d = least_of (floor_quotient (a *ℤ pos unit) c) (floor_quotient (a *ℤ pos unit) d) (floor_quotient (b *ℤ pos unit) c) (floor_quotient (b *ℤ pos unit) d)

abbrev greatest_quotient : ℤ → ℤ → ℤ → ℤ → ℤ
greatest_quotient a b c d = greatest_of (ceil_quotient (a *ℤ pos unit) c) (ceil_quotient (a *ℤ pos unit) d) (ceil_quotient (b *ℤ pos unit) c) (ceil_quotient (b *ℤ pos unit) d)

quotient-between : (a b c d x y : ℤ) → pos 0 <ℤ c → Lies a b x → Lies c d y
    → Lies (least_quotient a b c d) (greatest_quotient a b c d) (floor_quotient (x *ℤ pos unit) y) × Lies (least_quotient a b c d) (greatest_quotient a b c d) (ceil_quotient (x *ℤ pos unit) y)
quotient-between a b c d x y p h k =
    let above : pos 0 <ℤ y = omega (arith, ints, p, k.0) in
    let low = floor_quotient-mono (a *ℤ pos unit) (x *ℤ pos unit) y above (units-mono a x h.0) in
    let low' = floor-between (a *ℤ pos unit) c d y p k in
    let high = ceil_quotient-mono (x *ℤ pos unit) (b *ℤ pos unit) y above (units-mono x b h.1) in
    let high' = ceil-between (b *ℤ pos unit) c d y p k in
    let ordered = floor-le-ceil (x *ℤ pos unit) y above in
    let least : least_quotient a b c d ≤ℤ floor_quotient (x *ℤ pos unit) y = omega (arith, ints, clamps, low, low'.0) in
    let most : ceil_quotient (x *ℤ pos unit) y ≤ℤ greatest_quotient a b c d = omega (arith, ints, clamps, high, high'.1) in
    ((least, ≤ℤ_trans _ _ _ ordered most), (≤ℤ_trans _ _ _ least ordered, most))

-- the value of a quotient whose divisor is above 0
quotient-value : (al ah bl bh : ℤ) → pos 0 <ℤ bl → unsigned_abs al < 2 ^ 94 → unsigned_abs ah < 2 ^ 94 → quotient_of_ends al ah bl bh ≡ from_to (least_quotient al ah bl bh) (greatest_quotient al ah bl bh)
quotient-value al ah bl bh p low high = rw (int_le-no bl (pos 0) p, nat_lt-yes (unsigned_abs al) (2 ^ 94) low, nat_lt-yes (unsigned_abs ah) (2 ^ 94) high)

abs-within : (a b x : ℤ) → unsigned_abs a < 2 ^ 94 → unsigned_abs b < 2 ^ 94 → Lies a b x → unsigned_abs x < 2 ^ 94
abs-within a b (pos n) low high h = omega (arith, ints, h.1, high)
abs-within a b (negsuc n) low high h = omega (arith, ints, h.0, low)

quotient-made : (a b c d : ℤ) (i j : Interval) → pos 0 <ℤ c → unsigned_abs a < 2 ^ 94 → unsigned_abs b < 2 ^ 94 → Ends a b i → Ends c d j
    → LiesIn (quotient_of_ends a b c d) (div_of i j)
unfolding div_of
quotient-made a b c d i j p small great x y =
    let low = least_quotient a b c d in
    let high = greatest_quotient a b c d in
    let q = quotient-between a b c d x.lo y.lo p x.lo_lies y.lo_lies in
    let r = quotient-between a b c d x.lo y.hi p x.lo_lies y.hi_lies in
    let s = quotient-between a b c d x.hi y.lo p x.hi_lies y.lo_lies in
    let t = quotient-between a b c d x.hi y.hi p x.hi_lies y.hi_lies in
    let l = four-least (Lies low high) _ _ _ _ q.0 r.0 s.0 t.0 in
    let g = four-greatest (Lies low high) _ _ _ _ q.1 r.1 s.1 t.1 in
    let value = on_ends-bounded quotient_of_ends i j x.lo x.hi y.lo y.hi (x.lo_is, x.hi_is) (y.lo_is, y.hi_is)
    ∙ quotient-value x.lo x.hi y.lo y.hi (omega (arith, ints, p, y.lo_lies.0)) (abs-within a b x.lo small great x.lo_lies) (abs-within a b x.hi small great x.hi_lies) in
    rw (value, quotient-value a b c d p small great) (record { low = (l.0, g.0); high = (l.1, g.1) })

quotient-bounded : (a b c d : ℤ) (i j : Interval) → pos 0 <ℤ c → Ends a b i → Ends c d j → LiesIn (quotient_of_ends a b c d) (div_of i j)
quotient-bounded a b c d i j p x y = by_sizes (size_94 a) (size_94 b) where
  size_94 : (z : ℤ) → (unsigned_abs z < 2 ^ 94) ⊎ (2 ^ 94 ≤ unsigned_abs z)
  size_94 z = cases_lt (unsigned_abs z) (2 ^ 94)

  by_sizes : (unsigned_abs a < 2 ^ 94) ⊎ (2 ^ 94 ≤ unsigned_abs a) → (unsigned_abs b < 2 ^ 94) ⊎ (2 ^ 94 ≤ unsigned_abs b) → LiesIn (quotient_of_ends a b c d) (div_of i j)
  by_sizes (inl small) (inl great) = quotient-made a b c d i j p small great x y
  by_sizes (inl small) (inr large) = rw (quotient_of_ends-large a b c d (inr large)) (LiesIn-All _)
  by_sizes (inr large) great = rw (quotient_of_ends-large a b c d (inl large)) (LiesIn-All _)

-- a range whose low end is at least 1
at_least-one : (end : Option ℤ) (c : ℤ) → end ≡ Some c → is_at_least (pos 1) end ≡ true → pos 0 <ℤ c
at_least-one end c is h = let h' : int_le (pos 1) c ≡ true = rw is at h in grind (arith, ints)

divided : (al ah bl bh : Option ℤ) (i j : Interval) → is_at_least (pos 1) bl ≡ true → LiesIn (record { lo = al; hi = ah }) i → LiesIn (record { lo = bl; hi = bh }) j
    → LiesIn (on_ends quotient_of_ends al ah bl bh) (div_of i j)
divided None ah bl bh i j positive h k = LiesIn-All _
divided (Some a) None bl bh i j positive h k = LiesIn-All _
divided (Some a) (Some b) None bh i j positive h k = LiesIn-All _
divided (Some a) (Some b) (Some c) None i j positive h k = LiesIn-All _
divided (Some a) (Some b) (Some c) (Some d) i j positive h k =
    quotient-bounded a b c d i j (at_least-one (Some c) c refl positive) (ends-of a b i.lo i.hi h) (ends-of c d j.lo j.hi k)

div-is : (a b : Interval) → on_ends quotient_of_ends a.lo a.hi b.lo b.hi ≡ div_of a b
unfolding div_of
div-is a b = refl

quotient-of-ranges : (a b i j : Interval) → is_at_least (pos 1) b.lo ≡ true → LiesIn a i → LiesIn b j → LiesIn (div_of a b) (div_of i j)
quotient-of-ranges a b i j positive h k =
    subst (λ (r : Interval). LiesIn r (div_of i j)) (div-is a b) (divided a.lo a.hi b.lo b.hi i j positive h k)

pub quotient-lies : (a b i j : Interval) → LiesIn a i → LiesIn b j → LiesIn (quotient_range a b) (div_of i j)
unfolding quotient_range
quotient-lies a b i j h k = by_sign (is_at_least (pos 1) b.lo) refl where
  by_sign : (positive : Bool) → is_at_least (pos 1) b.lo ≡ positive → LiesIn (if positive then div_of a b else All) (div_of i j)
  by_sign false e = LiesIn-All _
  by_sign true e = quotient-of-ranges a b i j e h k
