-- The plan length of a path isn't negative, and is bounded; its ends are close.
use Rattle.std.proofs.Common.{refl, zero, suc, ◌+◌, ◌/◌, ◌≡◌, ℕ, ◌*◌, ◌<◌, ◌≤◌, ◌^◌, ℤ, pos, ◌*ℤ◌, unsigned_abs, sym, ap, ◌∙◌, subst, arith, inl, inr, false}
use Rattle.std.specs.Prelude.{Some, ◌⊎◌, int_lt}
use Rattle.std.specs.Int.{div_ceil}
use Rattle.std.proofs.lemmas.Grind.{div_ceil_times}
use Rattle.std.proofs.lemmas.Int.{ints}
use Rattle.std.proofs.lemmas.Nat.{mul-le}
use Rattle.std.proofs.lemmas.Bool.{cases_lt}
use Rattle.fix_interval.specs.Units.{unit, unit-is}
use Rattle.fix_interval.specs.Interval.{Interval, IsInterval}
use Rattle.fix_interval.specs.Round.{ceil_of, floor_root, ceil_root}
use Rattle.fix_interval.specs.Values.{ratio_of, root_of, low_radicand, root_of_high}
use Rattle.fix_interval.specs.Tree.{Const, Root, enc}
use Rattle.fix_interval.proofs.Ratios.{ratio_of-small, IsInterval-Const}
use Rattle.fix_interval.proofs.Rounding.{ceil_of-pos}
use Rattle.fix_interval.proofs.Rooting.{floor_root-below, floor_root-above, ceil_root-le, floor_root-le-ceil_root, floor_root-mono, high_root_is, root_of-roots, IsInterval-root_of}
use Rattle.fix_interval.specs.Bounds.{AreBetween}
use Rattle.fix_interval.proofs.Dividing.{≤ℤ_trans}
use Rattle.fix_interval.proofs.Spans.{Span, units-is}
use Rattle.scene_geom.specs.declared.plan.Pt.{Pt}
use Rattle.scene_geom.specs.declared.plan.Side.{Side}
use Rattle.scene_geom.specs.declared.fractions.fraction.Frac.{Frac}
use Rattle.scene_geom.specs.Point.{from_to}
use Rattle.scene_geom.specs.Reflection.{CanReflect, squared_length, off_wall, along_wall, unfolded_square}
use Rattle.scene_geom.proofs.Walls.{unfolded-fits, over-n}
use Rattle.path_shape.specs.declared.legs.Legs.{Legs}
use Rattle.path_shape.specs.declared.legs.Legs.TheVariants.{One, Two}
use Rattle.path_shape.specs.Shape.{squared, plan_square, plan_length, reflected_length, LegsFit, IsLength, IsZeroOrMore, PathsHaveLengths, plan_square_form, square_form, IsPlanSquare}

squared-within : (n : ℕ) → n ≤ 8000000 → squared n ≤ 64000000000000
unfolding squared
squared-within n h = omega (arith, mul-le n n 8000000 8000000 h h)

pub plan_square-within : (s r : Pt) → plan_square s r ≤ 128000000000000
plan_square-within s r =
    let x = squared-within (unsigned_abs (from_to s r).x) (omega (arith, ints, s.x_in_plan.low, s.x_in_plan.high, r.x_in_plan.low, r.x_in_plan.high)) in
    let y = squared-within (unsigned_abs (from_to s r).y) (omega (arith, ints, s.y_in_plan.low, s.y_in_plan.high, r.y_in_plan.low, r.y_in_plan.high)) in
    omega (arith, x, y)

-- ---- roots of whole numbers

floor_root-within : (m r : ℕ) → m < r * r → floor_root m < r
floor_root-within m r h = by_size (cases_lt (floor_root m) r) where
  by_size : (floor_root m < r) ⊎ (r ≤ floor_root m) → floor_root m < r
  by_size (inl k) = k
  by_size (inr k) = absurd (omega (arith, floor_root-below m, mul-le r r (floor_root m) (floor_root m) k k))

-- the roots of numbers that are at most a unit apart
roots-close : (m k : ℕ) → k ≤ m + 2 ^ 32 → ceil_root k ≤ floor_root m + 65537
roots-close m k h =
    let f = floor_root m in
    omega (arith, ceil_root-le k, floor_root-within k (f + 65537) (omega (arith, floor_root-above m)))

-- ---- the root of a fraction n / q of square metres, of at most 25,299 m

not_below : (h : ℕ) → int_lt (pos h) (pos 0) ≡ false
not_below h = grind arith

units_of : ℕ → ℕ
units_of n = n * unit

ceil-is : (n q : ℕ) → 0 < q → ceil_of (pos n *ℤ pos unit) q ≡ pos (div_ceil (units_of n) q)
unfolding units_of
ceil-is n q h = ceil_of-pos (pos n *ℤ pos unit) q h (rw (units-is n) (omega (arith, ints)))

pub div_ceil-within : (a q k : ℕ) → 0 < q → a ≤ k * q → div_ceil a q ≤ k
div_ceil-within a q k some h = by_size (cases_lt (div_ceil a q) (k + 1)) where
  by_size : (div_ceil a q < k + 1) ⊎ (k + 1 ≤ div_ceil a q) → div_ceil a q ≤ k
  by_size (inl e) = omega arith
  by_size (inr e) = absurd (omega (arith, (div_ceil_times a q some).1, mul-le (k + 1) q (div_ceil a q) q e (omega arith)))

-- the ends of the fraction, in units
record Ends (n q : ℕ) : Type 0 where
  high : ℕ
  low_is : (ratio_of (pos n) q).lo ≡ Some (pos (units_of n / q))
  high_is : (ratio_of (pos n) q).hi ≡ Some (pos high)
  ordered : units_of n / q ≤ high
  close : high ≤ units_of n / q + 1
  small : high ≤ 640000000 * 2 ^ 32

ends : (n q : ℕ) → 0 < q → n ≤ 640000000 * q → n < 2 ^ 94 → Ends n q
unfolding units_of
ends n q some few small =
    let fraction = ratio_of-small (pos n) q small in
    record {
      high = div_ceil (units_of n) q;
      low_is = ap (λ (k : Interval). k.lo) fraction;
      high_is = ap (λ (k : Interval). k.hi) fraction ∙ ap Some (ceil-is n q some);
      ordered = omega arith;
      close = omega arith;
      small = div_ceil-within (n * unit) q (640000000 * 2 ^ 32) some (rw unit-is (omega arith));
    }

-- the ends of a length, in units
pub record Found (dp : Interval) : Type 0 where
  pub low : ℕ
  pub high : ℕ
  pub lo_is : dp.lo ≡ Some (pos low)
  pub hi_is : dp.hi ≡ Some (pos high)
  pub ordered : low ≤ high
  pub within : high ≤ 2 ^ 56
  pub close : high ≤ low + 65537

-- the low end of the root
root-low : (n q : ℕ) → Ends n q → (enc (Root (Const (pos n) q))).lo ≡ Some (pos (floor_root (units_of n / q * 2 ^ 32)))
root-low n q e =
    let i = ratio_of (pos n) q in
    let roots = root_of-roots i (rw e.high_is (not_below e.high)) in
    let radicand : low_radicand i.lo * unit ≡ units_of n / q * 2 ^ 32 = rw (e.low_is, unit-is) (omega (arith, e.ordered, e.small)) in
    ap (λ (k : Interval). k.lo) roots ∙ ap (λ (m : ℕ). Some (pos (floor_root m))) radicand

root-high : (n q : ℕ) → (e : Ends n q) → (enc (Root (Const (pos n) q))).hi ≡ Some (pos (ceil_root (e.high * 2 ^ 32)))
root-high n q e =
    let i = ratio_of (pos n) q in
    let roots = root_of-roots i (rw e.high_is (not_below e.high)) in
    let top : root_of_high i.hi ≡ Some (pos (ceil_root (e.high * 2 ^ 32))) = rw (e.high_is, ← unit-is) (high_root_is e.high (omega (arith, e.small))) in
    ap (λ (k : Interval). k.hi) roots ∙ top

root-found : (n q : ℕ) → 0 < q → n ≤ 640000000 * q → n < 2 ^ 94 → Found (enc (Root (Const (pos n) q)))
root-found n q some few small =
    let e = ends n q some few small in
    let low = units_of n / q * 2 ^ 32 in
    let high = e.high * 2 ^ 32 in
    record {
      low = floor_root low;
      high = ceil_root high;
      lo_is = root-low n q e;
      hi_is = root-high n q e;
      ordered = omega (arith, floor_root-le-ceil_root high, floor_root-mono low high (omega (arith, e.ordered)));
      within = omega (arith, ceil_root-le high, floor_root-within high (2 ^ 55) (omega (arith, e.small)));
      close = roots-close low high (omega (arith, e.close));
    }

-- ---- the lengths of paths

divisor-some : (square : Frac) → 0 < unsigned_abs square.d * 1000000
divisor-some square = omega (arith, ints, square.positive)

-- a fraction of square metres
square-close : (n q : ℕ) → 0 < q → n ≤ 640000000 * q → n < 2 ^ 94 → IsPlanSquare (ratio_of (pos n) q)
square-close n q some few small =
    let e = ends n q some few small in
    record {
      bounds = record {
        lo = rw e.low_is (omega (arith, ints), omega (arith, ints, e.ordered, e.small));
        hi = rw e.high_is (omega (arith, ints), omega (arith, ints, e.small));
      };
      close = rw (e.low_is, e.high_is) (omega (arith, ints, e.ordered), omega (arith, ints, e.close));
    }

pub direct-square : (s r : Pt) → IsPlanSquare (enc (plan_square_form s r))
direct-square s r = let few = plan_square-within s r in square-close (plan_square s r) 1000000 (omega arith) (omega (arith, few)) (omega (arith, few))

pub reflected-square : (side : Side) (s r : Pt) → CanReflect side s r → IsPlanSquare (enc (square_form (unfolded_square side s r)))
reflected-square side s r h =
    let fits = unfolded-fits side s r h in
    let square = unfolded_square side s r in
    let n = (off_wall side s + off_wall side r) ^ 2 + along_wall side s r ^ 2 in
    let above : square.n ≡ pos n = over-n (pos n) (squared_length side) in
    let same = ap unsigned_abs above in
    subst (λ (k : ℤ). IsPlanSquare (enc (Const k (unsigned_abs square.d * 1000000)))) (sym above)
    (square-close n (unsigned_abs square.d * 1000000) (divisor-some square) (omega (arith, same, fits.square)) (omega (arith, same, fits.square, fits.wall)))

direct-found : (s r : Pt) → Found (enc (plan_length s r))
direct-found s r = let few = plan_square-within s r in root-found (plan_square s r) 1000000 (omega arith) (omega (arith, few)) (omega (arith, few))

reflected-found : (side : Side) (s r : Pt) → CanReflect side s r → Found (enc (reflected_length side s r))
reflected-found side s r h =
    let fits = unfolded-fits side s r h in
    let square = unfolded_square side s r in
    let n = (off_wall side s + off_wall side r) ^ 2 + along_wall side s r ^ 2 in
    let above : square.n ≡ pos n = over-n (pos n) (squared_length side) in
    let same = ap unsigned_abs above in
    subst (λ (k : ℤ). Found (enc (Root (Const k (unsigned_abs square.d * 1000000))))) (sym above)
    (root-found n (unsigned_abs square.d * 1000000) (divisor-some square) (omega (arith, same, fits.square)) (omega (arith, same, fits.square, fits.wall)))

pub path-found : (legs : Legs) (s r : Pt) (dp : Interval) → LegsFit legs s r dp → Found dp
path-found (One dir) s r dp h = subst Found (sym h.1) (direct-found s r)
path-found (Two first second p) s r dp h = subst Found (sym h.length_is) (reflected-found h.side s r h.can_reflect)

-- from 0 m to 2^24 m
pub path-span : (legs : Legs) (s r : Pt) (dp : Interval) → LegsFit legs s r dp → Span (pos (2 ^ 56)) dp
path-span legs s r dp h =
    let f = path-found legs s r dp h in
    record {
      lo = pos f.low;
      hi = pos f.high;
      lo_is = f.lo_is;
      hi_is = f.hi_is;
      not_negative = omega (arith, ints);
      ordered = omega (arith, ints, f.ordered);
      below = omega (arith, ints, f.within);
    }

-- a plan length is an interval
pub path-interval : (legs : Legs) (s r : Pt) (dp : Interval) → LegsFit legs s r dp → IsInterval dp
path-interval (One dir) s r dp h =
    subst IsInterval (sym h.1)
    (IsInterval-root_of (ratio_of (pos (plan_square s r)) 1000000) (IsInterval-Const (pos (plan_square s r)) 1000000 (omega arith)))
path-interval (Two first second p) s r dp h =
    let square = unfolded_square h.side s r in
    subst IsInterval (sym h.length_is)
    (IsInterval-root_of (ratio_of square.n (unsigned_abs square.d * 1000000)) (IsInterval-Const square.n (unsigned_abs square.d * 1000000) (divisor-some square)))

found-length : (dp : Interval) → Found dp → IsLength dp
found-length dp f = record {
  bounds = record {
    lo = rw f.lo_is (omega (arith, ints), omega (arith, ints, f.ordered, f.within));
    hi = rw f.hi_is (omega (arith, ints), omega (arith, ints, f.within));
  };
  close = rw (f.lo_is, f.hi_is) (omega (arith, ints, f.close));
}

pub paths-have_lengths : PathsHaveLengths
paths-have_lengths path h = found-length path.dp (path-found path.legs path.s path.r path.dp h)

-- both ends of what isn't negative lie between 0 and its limit
pub span-between : (limit : ℤ) (i : Interval) → Span limit i → AreBetween (pos 0) limit i
span-between limit i span = record {
  lo = rw span.lo_is (span.not_negative, ≤ℤ_trans span.lo span.hi limit span.ordered span.below);
  hi = rw span.hi_is (≤ℤ_trans (pos 0) span.lo span.hi span.not_negative span.ordered, span.below);
}

-- ---- a direct path has a length of 0, or one that isn't small

length-of-zero : enc (Root (Const (pos 0) 1000000)) ≡ record { lo = Some (pos 0); hi = Some (pos 0) }
unfolding ratio_of root_of ceil_root floor_root unit
length-of-zero = refl

root-least : (m : ℕ) → 2 ^ 44 ≤ m → 2 ^ 22 ≤ floor_root m
root-least m h = by_size (cases_lt (floor_root m) (2 ^ 22)) where
  by_size : (floor_root m < 2 ^ 22) ⊎ (2 ^ 22 ≤ floor_root m) → 2 ^ 22 ≤ floor_root m
  by_size (inl k) = absurd (omega (arith, floor_root-above m, mul-le (floor_root m + 1) (floor_root m + 1) (2 ^ 22) (2 ^ 22) (omega arith) (omega arith)))
  by_size (inr k) = k

some-units : (n : ℕ) → 0 < n → 2 ^ 44 ≤ units_of n / 1000000 * 2 ^ 32
unfolding units_of
some-units n h = rw unit-is (omega arith)

zero-or-more : (n : ℕ) → n < 2 ^ 47 → IsZeroOrMore (enc (Root (Const (pos n) 1000000)))
zero-or-more zero h = inl length-of-zero
zero-or-more (suc n) h =
    let least = root-least (units_of (suc n) / 1000000 * 2 ^ 32) (some-units (suc n) (omega arith)) in
    inr (rw (root-low (suc n) 1000000 (ends (suc n) 1000000 (omega arith) (omega arith) (omega arith))) (omega (arith, ints, least)))

pub direct-zero-or-more : (s r : Pt) → IsZeroOrMore (enc (plan_length s r))
direct-zero-or-more s r = zero-or-more (plan_square s r) (omega (arith, plan_square-within s r))
