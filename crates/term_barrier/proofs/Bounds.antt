-- Bounds on the attenuation by screening.
use Rattle.std.proofs.Common.{◌≡◌, ℕ, ◌*◌, ◌≤◌, ◌^◌, ℤ, pos, negsuc, neg_ℤ, ◌*ℤ◌, ◌+ℤ◌, ◌≤ℤ◌, refl, sym, subst, arith, Bool, true, false, List, [], ◌∷◌, map}
use Rattle.std.specs.Prelude.{Option, Some, None, unwrap_or, IfSome, IsSomeAnd}
use Rattle.std.specs.Option.{option_map}
use Rattle.std.proofs.lemmas.Int.{ints, clamps}
use Rattle.fix_interval.specs.Units.{unit, unit-is}
use Rattle.fix_interval.specs.Interval.{Interval}
use Rattle.fix_interval.specs.Bounds.{IsBetween}
use Rattle.fix_interval.specs.Round.{ceil_of}
use Rattle.fix_interval.specs.Values.{ratio_of, is_small, end_of, sum_of_ends, add_of, neg_of, sub_of, greater_low, greater_high, lesser_low, lesser_high, max_of, min_of, hull_of, pick_of, mul_of, on_ends, product_of_ends, rounded_outward, greatest_product, least_product}
use Rattle.fix_interval.specs.Ranges.{LiesIn, logarithm_range}
use Rattle.fix_interval.specs.Lg.{lg_of, decade_of, greatest}
use Rattle.fix_interval.specs.declared.truth.Truth.{Truth}
use Rattle.fix_interval.specs.declared.truth.Truth.TheVariants.{Sure, Never, Unsure}
use Rattle.fix_interval.specs.Tree.{Tree, Known, enc}
use Rattle.fix_interval.proofs.Ratios.{ratio_of-one}
use Rattle.fix_interval.proofs.Rounding.{ceil_of-mono}
use Rattle.fix_interval.proofs.Multiplying.{end_of-small}
use Rattle.fix_interval.proofs.Spans.{at_least_one-low, unit-pos, floor-not_negative}
use Rattle.enclose_log.proofs.LgRange.{logarithm-ranged}
use Rattle.scene_geom.specs.declared.band.Band.{Band}
use Rattle.scene_parts.specs.declared.screening.edge.Edge.{Edge}
use Rattle.path_shape.specs.declared.path.Path.{Path}
use Rattle.term_barrier.specs.Diffraction.{whole, ten_lg, attenuation, single_limit, double_limit}
use Rattle.term_barrier.specs.Edges.{single_argument, pair_argument, where_convex}
use Rattle.term_barrier.specs.Limits.{IsGroundEffect, IsScreening}
use Rattle.term_barrier.specs.Screening.{edges_above, pairs_of, top_attenuation, screening}
use Rattle.term_barrier.specs.inner.Prepared.{max_with_of, greatest_from, single_value, both_value, best_over, best_argument, below_line, screened_by}
use Rattle.term_barrier.proofs.Screened.{top-is, screening-is}

-- ---- ten times a logarithm of what is at least 1

-- an end isn't below 0, where it is bounded
abbrev NotNegative : Option ℤ → Type 0
NotNegative end = IfSome end (λ z. pos 0 ≤ℤ z)

ceil-zero : ceil_of (pos 0) unit ≡ pos 0
unfolding unit
ceil-zero = refl

-- the greater of 1 and a quantity
greater-one : (one : ℤ) (high : Option ℤ) → pos (2 ^ 32) ≤ℤ one → IfSome (greater_high (Some one) high) (λ z. pos (2 ^ 32) ≤ℤ z)
greater-one one None h = tt
greater-one one (Some z) h = omega (arith, ints, clamps)

from-one : (b : Interval) → LiesIn (record { lo = Some (pos (2 ^ 32)); hi = None }) (max_of (ratio_of (pos 1) 1) b)
unfolding max_of
from-one b =
    let is = ratio_of-one (pos 1) (omega arith) in
    let one : pos (2 ^ 32) ≤ℤ (pos 1 *ℤ pos unit) = rw unit-is (omega (arith, ints)) in
    record { low = (at_least_one-low b, rw is (greater-one (pos 1 *ℤ pos unit) b.hi one)); high = tt }

-- its logarithm isn't negative
record IsLogarithm (i : Interval) : Type 0 where
  low : IsSomeAnd i.lo (λ z. pos 0 ≤ℤ z)
  high : NotNegative i.hi

logarithm-from : (b : Interval) → IsLogarithm (lg_of (max_of (ratio_of (pos 1) 1) b))
unfolding logarithm_range unit decade_of greatest
logarithm-from b =
    let h = logarithm-ranged (max_of (ratio_of (pos 1) 1) b) (record { lo = Some (pos (2 ^ 32)); hi = None }) (from-one b) in
    record { low = h.low.0; high = h.low.1 }

kept-small : (z : ℤ) → pos 0 ≤ℤ z → NotNegative (end_of z)
kept-small z h = by_test (is_small z) refl where
  by_test : (test : Bool) → is_small z ≡ test → NotNegative (end_of z)
  by_test true e = rw e h
  by_test false e = rw e tt

outward-low : (least greatest : Option ℤ) → NotNegative least → NotNegative (rounded_outward least greatest).lo
outward-low None greatest h = tt
outward-low (Some x) None h = tt
outward-low (Some x) (Some y) h = floor-not_negative x h

outward-high : (least greatest : Option ℤ) → NotNegative greatest → NotNegative (rounded_outward least greatest).hi
outward-high None greatest h = tt
outward-high (Some x) None h = tt
outward-high (Some x) (Some y) h = let m = ceil_of-mono (pos 0) y unit unit-pos h in rw ceil-zero at m

-- neither end is below 0, where it is bounded
record IsFromZero (i : Interval) : Type 0 where
  low : NotNegative i.lo
  high : NotNegative i.hi

tenfold : (ten low high : Option ℤ) → IsSomeAnd ten (λ z. pos 0 ≤ℤ z) → IsSomeAnd low (λ z. pos 0 ≤ℤ z) → NotNegative high → IsFromZero (on_ends product_of_ends ten ten low high)
tenfold None low high h k l = absurd h
tenfold (Some t) None high h k l = absurd k
tenfold (Some t) (Some x) None h k l = record { low = tt; high = tt }
tenfold (Some (negsuc t)) (Some x) (Some y) h k l = absurd (omega (arith, ints, h))
tenfold (Some (pos t)) (Some (negsuc x)) (Some y) h k l = absurd (omega (arith, ints, k))
tenfold (Some (pos t)) (Some (pos x)) (Some (negsuc y)) h k l = absurd (omega (arith, ints, l))
tenfold (Some (pos t)) (Some (pos x)) (Some (pos y)) h k l =
    let least = least_product (pos t) (pos t) (pos x) (pos y) in
    let greatest = greatest_product (pos t) (pos t) (pos x) (pos y) in
    record {
      low = outward-low (end_of least) (end_of greatest) (kept-small least (omega (arith, ints, clamps)));
      high = outward-high (end_of least) (end_of greatest) (kept-small greatest (omega (arith, ints, clamps)));
    }

ten-from_zero : (b : Interval) → IsFromZero (enc (ten_lg (Known b)))
unfolding ten_lg mul_of
ten-from_zero b =
    let is = ratio_of-one (pos 10) (omega arith) in
    let found = logarithm-from b in
    let ten : pos 0 ≤ℤ (pos 10 *ℤ pos unit) = rw unit-is (omega (arith, ints)) in
    let log = lg_of (max_of (ratio_of (pos 1) 1) b) in
    rw is (tenfold (Some (pos 10 *ℤ pos unit)) log.lo log.hi ten found.low found.high)

abbrev pub Lies : ℤ → Type 0
Lies z = (pos 0 ≤ℤ z) × (z ≤ℤ pos (25 * 2 ^ 32))

-- ---- what lies between 0 dB and 25 dB, but that the low end may be unbounded

pub record IsLimited (i : Interval) : Type 0 where
  pub low : IfSome i.lo Lies
  pub high : IsBetween (pos 0) (pos (25 * 2 ^ 32)) i.hi

min-low : (limit : ℤ) (low : Option ℤ) → Lies limit → NotNegative low → IfSome (lesser_low (Some limit) low) Lies
min-low limit None h k = tt
min-low limit (Some z) h k = (omega (arith, ints, clamps, h.0, k), omega (arith, ints, clamps, h.1))

min-high : (limit : ℤ) (high : Option ℤ) → Lies limit → NotNegative high → IsBetween (pos 0) (pos (25 * 2 ^ 32)) (lesser_high (Some limit) high)
min-high limit None h k = h
min-high limit (Some z) h k = (omega (arith, ints, clamps, h.0), omega (arith, ints, clamps, h.1))

limited-min : (n : ℕ) (i : Interval) → n ≤ 25 → IsFromZero i → IsLimited (min_of (ratio_of (pos n) 1) i)
unfolding min_of
limited-min n i few h =
    let is = ratio_of-one (pos n) (omega arith) in
    let limit : Lies (pos n *ℤ pos unit) = rw unit-is (omega (arith, ints), omega (arith, ints)) in
    rw is (record { low = min-low (pos n *ℤ pos unit) i.lo limit h.low; high = min-high (pos n *ℤ pos unit) i.hi limit h.high })

max-low : (x y : Option ℤ) → IfSome x Lies → IfSome y Lies → IfSome (greater_low x y) Lies
max-low None y h k = k
max-low (Some x) None h k = h
max-low (Some x) (Some y) h k = (omega (arith, ints, clamps, h.0), omega (arith, ints, clamps, h.1, k.1))

max-high : (x y : Option ℤ) → IsBetween (pos 0) (pos (25 * 2 ^ 32)) x → IsBetween (pos 0) (pos (25 * 2 ^ 32)) y → IsBetween (pos 0) (pos (25 * 2 ^ 32)) (greater_high x y)
max-high None y h k = absurd h
max-high (Some x) None h k = absurd k
max-high (Some x) (Some y) h k = (omega (arith, ints, clamps, h.0), omega (arith, ints, clamps, h.1, k.1))

limited-max : (i k : Interval) → IsLimited i → IsLimited k → IsLimited (max_of i k)
unfolding max_of
limited-max i k h l = record { low = max-low i.lo k.lo h.low l.low; high = max-high i.hi k.hi h.high l.high }

hull-low : (x y : Option ℤ) → IfSome x Lies → IfSome y Lies → IfSome (lesser_low x y) Lies
hull-low None y h k = tt
hull-low (Some x) None h k = tt
hull-low (Some x) (Some y) h k = (omega (arith, ints, clamps, h.0, k.0), omega (arith, ints, clamps, h.1))

limited-pick : (t : Truth) (i k : Interval) → IsLimited i → IsLimited k → IsLimited (pick_of t i k)
unfolding pick_of hull_of
limited-pick Sure i k h l = h
limited-pick Never i k h l = l
limited-pick Unsure i k h l = record { low = hull-low i.lo k.lo h.low l.low; high = max-high i.hi k.hi h.high l.high }

limited-zero : IsLimited (enc (whole 0))
unfolding ratio_of unit
limited-zero = record { low = (omega (arith, ints), omega (arith, ints)); high = (omega (arith, ints), omega (arith, ints)) }

-- ---- D_z over the top

limited-attenuation : (limit : ℕ) (b : Interval) → limit ≤ 25 → IsLimited (enc (attenuation limit (Known b)))
unfolding attenuation
limited-attenuation limit b few = limited-min limit (enc (ten_lg (Known b))) few (ten-from_zero b)

pub known-attenuation : (limit : ℕ) (b : Tree) → enc (attenuation limit (Known (enc b))) ≡ enc (attenuation limit b)
unfolding attenuation ten_lg
known-attenuation limit b = refl

limited-single : (path : Path) (d : Interval) (band : Band) (edge : Edge) → IsLimited (single_value path d band edge)
limited-single path d band edge =
    subst IsLimited (known-attenuation single_limit (single_argument path edge (Known d) band))
    (limited-attenuation single_limit (enc (single_argument path edge (Known d) band)) (omega arith))

limited-convex : (path : Path) (first second : Edge) (t : Tree) → IsLimited (enc t) → IsLimited (enc (where_convex path (Known path.dp) first second t))
unfolding where_convex
limited-convex path first second t h =
    limited-pick _ _ _ (limited-pick _ _ _ (limited-pick _ _ _ h limited-zero) limited-zero) limited-zero

limited-pair : (path : Path) (d : Interval) (band : Band) (pair : Edge × Edge) → IsLimited (both_value path d band pair)
limited-pair path d band pair =
    let b = pair_argument path pair.0 pair.1 (Known d) band in
    limited-convex path pair.0 pair.1 (attenuation double_limit b)
    (subst IsLimited (known-attenuation double_limit b) (limited-attenuation double_limit (enc b) (omega arith)))

-- the greatest of them, if there is one
abbrev pub IsLimitedIfAny : Option Interval → Type 0
IsLimitedIfAny None = Unit {0}
IsLimitedIfAny (Some i) = IsLimited i

limited-next : (best : Option Interval) (i : Interval) → IsLimitedIfAny best → IsLimited i → IsLimitedIfAny (max_with_of best i)
limited-next None i h k = k
limited-next (Some best) i h k = limited-max best i h k

limited-greatest : {A : Type 0} (f : A → Interval) → ((x : A) → IsLimited (f x)) → (best : Option Interval) → IsLimitedIfAny best → (xs : List A) → IsLimitedIfAny (greatest_from best (map f xs))
limited-greatest f each best h [] = h
limited-greatest f each best h (x ∷ xs) = limited-greatest f each (max_with_of best (f x)) (limited-next best (f x) h (each x)) xs

pub limited-over : (path : Path) (d : Interval) (band : Band) (edges : List Edge) → IsLimitedIfAny (best_over path d band edges)
limited-over path d band edges =
    limited-greatest (both_value path d band) (limited-pair path d band) _
    (limited-greatest (single_value path d band) (limited-single path d band) None tt (edges_above edges)) (pairs_of (edges_above edges))

limited-any : (best : Option Interval) → IsLimitedIfAny best → IsLimited (unwrap_or best (enc (whole 0)))
limited-any None h = limited-zero
limited-any (Some i) h = h

pub limited-top : (path : Path) (d : Interval) (band : Band) (edges : List Edge)
    → IsLimited (enc (top_attenuation path (Known path.dp) edges (Known d) band))
limited-top path d band edges =
    subst IsLimited (top-is path d band edges) (limited-any (best_over path d band edges) (limited-over path d band edges))

-- ---- A_bar

zero-low : (zero : ℤ) (low : Option ℤ) → zero ≡ pos 0 → IfSome low (λ z. z ≤ℤ pos (48 * 2 ^ 32)) → IsBetween (pos 0) (pos (48 * 2 ^ 32)) (greater_low (Some zero) low)
zero-low zero None e h = rw e (omega (arith, ints), omega (arith, ints))
zero-low zero (Some z) e h = rw e (omega (arith, ints, clamps), omega (arith, ints, clamps, h))

zero-high : (zero : ℤ) (high : Option ℤ) → zero ≡ pos 0 → IsSomeAnd high (λ z. z ≤ℤ pos (48 * 2 ^ 32)) → IsBetween (pos 0) (pos (48 * 2 ^ 32)) (greater_high (Some zero) high)
zero-high zero None e h = absurd h
zero-high zero (Some z) e h = rw e (omega (arith, ints, clamps), omega (arith, ints, clamps, h))

-- what is left of at most 25 dB without at least -16 dB
less-low : (low high : Option ℤ) → IfSome low Lies → IsBetween (neg_ℤ (pos (2 ^ 36))) (pos (2 ^ 58)) high
    → IfSome (sum_of_ends low (option_map neg_ℤ high)) (λ z. z ≤ℤ pos (48 * 2 ^ 32))
less-low None high h k = tt
less-low (Some x) None h k = absurd k
less-low (Some x) (Some y) h k = rw (end_of-small (x +ℤ neg_ℤ y) (omega (arith, ints, h.0, h.1, k.0, k.1))) (omega (arith, ints, h.1, k.0))

less-high : (high low : Option ℤ) → IsBetween (pos 0) (pos (25 * 2 ^ 32)) high → IsBetween (neg_ℤ (pos (2 ^ 36))) (pos (2 ^ 58)) low
    → IsSomeAnd (sum_of_ends high (option_map neg_ℤ low)) (λ z. z ≤ℤ pos (48 * 2 ^ 32))
less-high None low h k = absurd h
less-high (Some x) None h k = absurd k
less-high (Some x) (Some y) h k =
    rw (end_of-small (x +ℤ neg_ℤ y) (omega (arith, ints, h.0, h.1, k.0, k.1))) (omega (arith, ints, h.1, k.0))

zero-is : ratio_of (pos 0) 1 ≡ record { lo = Some (pos 0); hi = Some (pos 0) }
unfolding ratio_of unit
zero-is = refl

less-between : (i gr : Interval) → IsLimited i → IsGroundEffect gr → IsScreening (max_of (ratio_of (pos 0) 1) (sub_of i gr))
unfolding max_of add_of neg_of
less-between i gr h k =
    rw zero-is
    (record {
      lo = zero-low (pos 0) (sum_of_ends i.lo (option_map neg_ℤ gr.hi)) refl (less-low i.lo gr.hi h.low k.hi);
      hi = zero-high (pos 0) (sum_of_ends i.hi (option_map neg_ℤ gr.lo)) refl (less-high i.hi gr.lo h.high k.lo);
    })

zero-screens : IsScreening (enc (whole 0))
unfolding ratio_of unit
zero-screens = record { lo = (omega (arith, ints), omega (arith, ints)); hi = (omega (arith, ints), omega (arith, ints)) }

hull-between : (x y : Option ℤ) → IsBetween (pos 0) (pos (48 * 2 ^ 32)) x → IsBetween (pos 0) (pos (48 * 2 ^ 32)) y → IsBetween (pos 0) (pos (48 * 2 ^ 32)) (lesser_low x y)
hull-between None y h k = absurd h
hull-between (Some x) None h k = absurd k
hull-between (Some x) (Some y) h k = (omega (arith, ints, clamps, h.0, k.0), omega (arith, ints, clamps, h.1))

hull-above : (x y : Option ℤ) → IsBetween (pos 0) (pos (48 * 2 ^ 32)) x → IsBetween (pos 0) (pos (48 * 2 ^ 32)) y → IsBetween (pos 0) (pos (48 * 2 ^ 32)) (greater_high x y)
hull-above None y h k = absurd h
hull-above (Some x) None h k = absurd k
hull-above (Some x) (Some y) h k = (omega (arith, ints, clamps, h.0), omega (arith, ints, clamps, h.1, k.1))

pick-between : (t : Truth) (i k : Interval) → IsScreening i → IsScreening k → IsScreening (pick_of t i k)
unfolding pick_of hull_of
pick-between Sure i k h l = h
pick-between Never i k h l = l
pick-between Unsure i k h l = record { lo = hull-between i.lo k.lo h.lo l.lo; hi = hull-above i.hi k.hi h.hi l.hi }

below-between : (argument : Option Interval) (gr : Interval) → IsGroundEffect gr → IsScreening (below_line argument gr)
below-between None gr h = zero-screens
below-between (Some b) gr h = pick-between _ _ _ (less-between _ gr (limited-attenuation single_limit b (omega arith)) h) zero-screens

either-between : (best argument : Option Interval) (gr : Interval) → IsLimitedIfAny best → IsGroundEffect gr → IsScreening (screened_by best argument gr)
either-between None argument gr h k = below-between argument gr k
either-between (Some best) argument gr h k = less-between best gr h k

pub screening-between : (path : Path) (d gr : Interval) (band : Band) (edges : List Edge) → IsGroundEffect gr → IsScreening (enc (screening path (Known path.dp) edges (Known d) (Known gr) band))
screening-between path d gr band edges h =
    subst IsScreening (sym (screening-is path d gr band edges))
    (either-between (best_over path d band edges) (best_argument path d band edges) gr (limited-over path d band edges) h)
