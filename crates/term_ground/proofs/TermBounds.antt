-- Bounds on the attenuation by the ground, from the ranges of its parts.
use Rattle.std.proofs.Common.{◌≡◌, ℕ, ◌+◌, ◌*◌, ◌<◌, ◌≤◌, ◌^◌, ℤ, pos, neg_ℤ, ◌*ℤ◌, ◌≤ℤ◌, ◌<ℤ◌, refl, sym, ap, ◌∙◌, arith, lit<, inl, inr}
use Rattle.std.specs.Prelude.{Option, Some, None, ◌⊎◌, List, map, int_lt, int_le, Bool, true, false}
use Rattle.std.specs.List.{All}
use Rattle.std.specs.Int.{abs_diff}
use Rattle.std.proofs.lemmas.Int.{ints}
use Rattle.std.proofs.lemmas.Nat.{mul-le}
use Rattle.std.proofs.Math.Nat.{pow-suc, pow-zero}
use Rattle.fix_interval.specs.Units.{unit, unit-is}
use Rattle.fix_interval.specs.Interval.{Interval}
use Rattle.fix_interval.specs.Bounds.{IsBetween, AreBetween}
use Rattle.fix_interval.specs.Round.{floor_of, ceil_of}
use Rattle.fix_interval.specs.Values.{ratio_of, add_of, neg_of, mul_of, div_of, max_of, min_of, hull_of, pick_of, less_of}
use Rattle.fix_interval.specs.Ranges.{LiesIn, HasRanges, from_to, part, constant, sum, negation, product, quotient, greater, lesser, decay, choice, sum_range, quotient_range, decay_range}
use Rattle.fix_interval.specs.Tree.{Tree, Known, Const, Add, Mul, ExpNeg, enc}
use Rattle.fix_interval.specs.declared.truth.Truth.TheVariants.{Never}
use Rattle.fix_interval.proofs.Ratios.{ratio_of-small}
use Rattle.fix_interval.proofs.Rounding.{ceil_of-mono, ceil_of-pos, floor_of-le-ceil_of}
use Rattle.fix_interval.proofs.Ranging.{LiesIn-All}
use Rattle.fix_interval.proofs.RangedFormulas.{between, part-between}
use Rattle.fix_interval.proofs.Dividing.{≤ℤ_trans}
use Rattle.enclose_exp.proofs.PowerRanges.{decay-ranged}
use Rattle.scene_parts.specs.Parts.{Zone}
use Rattle.path_shape.specs.declared.path.Path.{Path}
use Rattle.path_shape.proofs.Lengths.{Found, path-found, div_ceil-within}
use Rattle.path_shape.specs.Shape.{IsPath}
use Rattle.path_shape.proofs.Eight.{all_eight}
use Rattle.term_ground.specs.declared.legs.region.Region.{Region}
use Rattle.term_ground.specs.declared.legs.region.Region.TheVariants.{Source, Middle, Receiver}
use Rattle.path_shape.specs.Forms.{zero_form}
use Rattle.term_ground.specs.Lengths.{factor}
use Rattle.term_ground.specs.Limits.{HasHeights, least_ground, most_ground}
use Rattle.term_ground.specs.Regions.{middle_from, share_of}
use Rattle.term_ground.specs.Ground.{one_and_a_half, near_growth, far_growth, decay_at_125, far_decay_at_125, decay_at_250, decay_at_500, decay_at_1000, a_prime, b_prime, c_prime, d_prime, end_region_below_2khz, end_region_from_2khz, minus_one_and_a_half, middle_part, middle_at_63, middle_above, ground}
use Rattle.term_ground.specs.Ground as form
use Rattle.term_ground.specs.declared.attenuation.EndRegion.{EndRegion}
use Rattle.term_ground.specs.inner.EndRegions.{IsEndRegion, hard}

-- ---- ranges of parts

-- ground factors, from 0 to 1
abbrev factors : Tree
factors = Known (from_to (pos 0) (pos (2 ^ 32)))

-- plan lengths, from 0 m to 2^24 m
abbrev lengths : Tree
lengths = Known (from_to (pos 0) (pos (2 ^ 56)))

-- what isn't negative
abbrev not_negative : Tree
not_negative = Known (record { lo = Some (pos 0); hi = None })

-- parts of a path that are its middle region
abbrev parts : Tree
parts = Known (from_to (neg_ℤ (pos (2 ^ 56))) (pos (2 ^ 32)))

-- ---- ground factors

-- a fraction p / q of at most so many units
pub ratio-within : (p q top : ℕ) → 0 < q → p * 2 ^ 32 ≤ top * q → p < 2 ^ 64 → AreBetween (pos 0) (pos top) (ratio_of (pos p) q)
ratio-within p q top some h small =
    let floor : pos 0 ≤ℤ floor_of (pos p *ℤ pos unit) q = omega (arith, ints) in
    let order = floor_of-le-ceil_of (pos p *ℤ pos unit) q some in
    let most : ceil_of (pos p *ℤ pos unit) q ≤ℤ pos top =
    rw (ceil_of-pos (pos p *ℤ pos unit) q some (omega (arith, ints))) (omega (arith, ints, div_ceil-within (p * unit) q top some (rw unit-is h))) in
    rw (ratio_of-small (pos p) q (omega arith))
    (record { lo = (floor, ≤ℤ_trans _ _ _ order most); hi = (≤ℤ_trans _ _ _ floor order, most) })

pub factor-within : (g0 top : ℕ) → g0 ≤ 100 * top → g0 < 2 ^ 64 → AreBetween (pos 0) (pos (top * 2 ^ 32)) (ratio_of (pos g0) 100)
factor-within g0 top h small = ratio-within g0 100 (top * 2 ^ 32) (omega arith) (omega (arith, h)) small

pub share-between : (region : Region) (zones : List Zone) (g0 : ℕ) (path : Path) (dp : Tree) → g0 ≤ 100 → AreBetween (pos 0) (pos (2 ^ 32)) (enc (share_of region zones g0 path dp))
unfolding share_of unit ratio_of max_of min_of hull_of
share-between region zones g0 path dp h =
    between _ _ {t = share_of region zones g0 path dp}
    (choice {z = zero_form} {w = zero_form} (greater (constant (lit< tt)) (lesser (constant (lit< tt)) (part (LiesIn-All _)))) (part-between _ _ {t = factor g0} (factor-within g0 1 (omega arith) (omega arith)))) refl

-- also where ground outside of zones counts as more than porous
pub share-small : (region : Region) (zones : List Zone) (g0 : ℕ) (path : Path) (dp : Tree) → g0 < 256 → AreBetween (pos 0) (pos (2 ^ 36)) (enc (share_of region zones g0 path dp))
unfolding share_of unit ratio_of max_of min_of hull_of
share-small region zones g0 path dp h =
    between _ _ {t = share_of region zones g0 path dp}
    (choice {z = zero_form} {w = zero_form} (greater (constant (lit< tt)) (lesser (constant (lit< tt)) (part (LiesIn-All _)))) (part-between _ _ {t = factor g0} (factor-within g0 16 (omega arith) (omega arith)))) refl

-- ---- the functions below Table 3

fraction-lies : (p q : ℕ) → p < 2 ^ 94 → 0 < q → LiesIn (record { lo = Some (pos 0); hi = None }) (ratio_of (pos p) q)
fraction-lies p q small positive =
    let floor : pos 0 ≤ℤ floor_of (pos p *ℤ pos unit) q = omega (arith, ints) in
    let order = floor_of-le-ceil_of (pos p *ℤ pos unit) q positive in
    rw (ratio_of-small (pos p) q small) (record { low = (floor, ≤ℤ_trans _ _ _ floor order); high = tt })

decay-has : (p q : ℕ) → p < 2 ^ 94 → 0 < q → HasRanges (form.decay p q) (ExpNeg not_negative)
decay-has p q small positive = decay decay-ranged (part {t = Const (pos p) q} (fraction-lies p q small positive))

near-has : (dp : Tree) → HasRanges dp lengths → HasRanges (near_growth dp) (near_growth lengths)
unfolding near_growth
near-has dp h = sum (constant (lit< tt)) (negation (decay decay-ranged (quotient h (constant (lit< tt)))))

far-has : (dp : Tree) → HasRanges dp lengths → HasRanges (far_growth dp) (far_growth lengths)
unfolding far_growth
far-has dp h =
    sum (constant (lit< tt)) (negation (decay decay-ranged (quotient (product (product h h) (constant (lit< tt))) (constant (lit< tt)))))

square-small : (h : ℕ) → h < 2 ^ 32 → h ^ 2 ≤ 2 ^ 64
square-small h few =
    let square : h ^ 2 ≡ h * h = rw (pow-suc h 1, pow-suc h 0, pow-zero h) (omega arith) in
    omega (arith, square, mul-le h h (2 ^ 32) (2 ^ 32) (omega arith) (omega arith))

-- a decay that begins with a factor
abbrev faded : ℕ → ℕ → Tree
faded n d = Mul (Const (pos n) d) (ExpNeg not_negative)

at-125-has : (h : ℕ) → h < 2 ^ 32 → HasRanges (decay_at_125 h) (faded 3 1)
unfolding decay_at_125
at-125-has h few =
    product (constant (lit< tt)) (decay-has (12 * abs_diff h 5000 ^ 2) (10 ^ 8) (omega (arith, square-small (abs_diff h 5000) (omega arith))) (lit< tt))

far-at-125-has : (h : ℕ) → h < 2 ^ 32 → HasRanges (far_decay_at_125 h) (faded 57 10)
unfolding far_decay_at_125
far-at-125-has h few = product (constant (lit< tt)) (decay-has (9 * h ^ 2) (10 ^ 8) (omega (arith, square-small h few)) (lit< tt))

at-250-has : (h : ℕ) → h < 2 ^ 32 → HasRanges (decay_at_250 h) (faded 86 10)
unfolding decay_at_250
at-250-has h few = product (constant (lit< tt)) (decay-has (9 * h ^ 2) (10 ^ 8) (omega (arith, square-small h few)) (lit< tt))

at-500-has : (h : ℕ) → h < 2 ^ 32 → HasRanges (decay_at_500 h) (faded 14 1)
unfolding decay_at_500
at-500-has h few = product (constant (lit< tt)) (decay-has (46 * h ^ 2) (10 ^ 8) (omega (arith, square-small h few)) (lit< tt))

at-1000-has : (h : ℕ) → h < 2 ^ 32 → HasRanges (decay_at_1000 h) (faded 5 1)
unfolding decay_at_1000
at-1000-has h few = product (constant (lit< tt)) (decay-has (9 * h ^ 2) (10 ^ 7) (omega (arith, square-small h few)) (lit< tt))

length-has : (dp : Interval) → Found dp → HasRanges (Known dp) lengths
length-has dp f =
    part-between (pos 0) (pos (2 ^ 56)) {t = Known dp}
    (record { lo = rw f.lo_is (omega (arith, ints), omega (arith, ints, f.ordered, f.within)); hi = rw f.hi_is (omega (arith, ints), omega (arith, ints, f.within)) })

-- a decay is at most 16
abbrev IsSmall : Tree → Type 0
IsSmall t = AreBetween (pos 0) (pos (2 ^ 36)) (enc t)

pub at-125-small : (h : ℕ) → h < 2 ^ 32 → IsSmall (decay_at_125 h)
unfolding unit ratio_of mul_of decay_range
at-125-small h few = between _ _ {t = decay_at_125 h} (at-125-has h few) refl

pub far-at-125-small : (h : ℕ) → h < 2 ^ 32 → IsSmall (far_decay_at_125 h)
unfolding unit ratio_of mul_of decay_range
far-at-125-small h few = between _ _ {t = far_decay_at_125 h} (far-at-125-has h few) refl

pub at-250-small : (h : ℕ) → h < 2 ^ 32 → IsSmall (decay_at_250 h)
unfolding unit ratio_of mul_of decay_range
at-250-small h few = between _ _ {t = decay_at_250 h} (at-250-has h few) refl

pub at-500-small : (h : ℕ) → h < 2 ^ 32 → IsSmall (decay_at_500 h)
unfolding unit ratio_of mul_of decay_range
at-500-small h few = between _ _ {t = decay_at_500 h} (at-500-has h few) refl

pub at-1000-small : (h : ℕ) → h < 2 ^ 32 → IsSmall (decay_at_1000 h)
unfolding unit ratio_of mul_of decay_range
at-1000-small h few = between _ _ {t = decay_at_1000 h} (at-1000-has h few) refl

-- and a growth at most 1
pub near-small : (dp : Interval) → Found dp → IsSmall (near_growth (Known dp))
unfolding unit ratio_of mul_of div_of neg_of sum_range quotient_range decay_range near_growth
near-small dp f = between _ _ {t = near_growth (Known dp)} (near-has (Known dp) (length-has dp f)) refl

pub far-small : (dp : Interval) → Found dp → IsSmall (far_growth (Known dp))
unfolding unit ratio_of mul_of div_of neg_of sum_range quotient_range decay_range far_growth
far-small dp f = between _ _ {t = far_growth (Known dp)} (far-has (Known dp) (length-has dp f)) refl

-- 1.5 and a decay
abbrev one_part : ℕ → ℕ → Tree
one_part n d = Add one_and_a_half (Mul (faded n d) (near_growth lengths))

-- the ranges of a'(h) to d'(h)
abbrev a_range : Tree
a_range = Add (one_part 3 1) (Mul (faded 57 10) (far_growth lengths))

a-has : (h : ℕ) (dp : Tree) → h < 2 ^ 32 → HasRanges dp lengths → HasRanges (a_prime h dp) a_range
a-has h dp few k =
    sum
    (sum (constant (lit< tt)) (product (at-125-has h few) (near-has dp k)))
    (product (far-at-125-has h few) (far-has dp k))

b-has : (h : ℕ) (dp : Tree) → h < 2 ^ 32 → HasRanges dp lengths → HasRanges (b_prime h dp) (one_part 86 10)
b-has h dp few k = sum (constant (lit< tt)) (product (at-250-has h few) (near-has dp k))

c-has : (h : ℕ) (dp : Tree) → h < 2 ^ 32 → HasRanges dp lengths → HasRanges (c_prime h dp) (one_part 14 1)
c-has h dp few k = sum (constant (lit< tt)) (product (at-500-has h few) (near-has dp k))

d-has : (h : ℕ) (dp : Tree) → h < 2 ^ 32 → HasRanges dp lengths → HasRanges (d_prime h dp) (one_part 5 1)
d-has h dp few k = sum (constant (lit< tt)) (product (at-1000-has h few) (near-has dp k))

-- ---- A_s and A_r

below-has : (g prime range : Tree) → HasRanges g factors → HasRanges prime range → HasRanges (end_region_below_2khz g prime) (end_region_below_2khz factors range)
below-has g prime range h k = sum (constant (lit< tt)) (product h k)

from-has : (g : Tree) → HasRanges g factors → HasRanges (end_region_from_2khz g) (end_region_from_2khz factors)
from-has g h = product (constant (lit< tt)) (sum (constant (lit< tt)) (negation h))

-- ---- A_m

-- 30 times heights of up to 100 m each, in metres
record Reach (r : Interval) : Type 0 where
  low : ℤ
  high : ℤ
  lo_is : r.lo ≡ Some low
  hi_is : r.hi ≡ Some high
  some : pos (2 ^ 26 + 65537) ≤ℤ low
  ordered : low ≤ℤ high
  within : high ≤ℤ pos (2 ^ 45)

reach : (h : ℕ) → 0 < h → h ≤ 200000 → Reach (ratio_of (pos (30 * h)) 1000)
reach h some few =
    let is = ratio_of-small (pos (30 * h)) 1000 (omega arith) in record {
      low = floor_of (pos (30 * h) *ℤ pos unit) 1000;
      high = ceil_of (pos (30 * h) *ℤ pos unit) 1000;
      lo_is = ap (λ (i : Interval). i.lo) is;
      hi_is = ap (λ (i : Interval). i.hi) is;
      some = rw unit-is (omega (arith, ints));
      ordered = floor_of-le-ceil_of (pos (30 * h) *ℤ pos unit) 1000 (omega arith);
      within =
          ≤ℤ_trans _ (ceil_of (pos (1000 * 2 ^ 45)) 1000) _ (ceil_of-mono (pos (30 * h) *ℤ pos unit) (pos (1000 * 2 ^ 45)) 1000 (omega arith) (rw unit-is (omega (arith, ints)))) (omega (arith, ints));
    }

-- a length up to the reach is never above it
never : (r d : Interval) (a b c e : ℤ) → r.lo ≡ Some a → r.hi ≡ Some b → d.lo ≡ Some c → d.hi ≡ Some e → a ≤ℤ b → c ≤ℤ e → e ≤ℤ a → less_of r d ≡ Never
unfolding less_of
never r d a b c e ra rb dc de ab ce ea = rw (ra, rb, dc, de, above, reached) refl where
  above : int_lt b c ≡ false
  above = grind (arith, ints)

  reached : int_le e a ≡ true
  reached = grind (arith, ints)

zero-between : AreBetween (neg_ℤ (pos (2 ^ 56))) (pos (2 ^ 32)) (ratio_of (pos 0) 1)
unfolding ratio_of unit
zero-between = record { lo = (omega (arith, ints), omega (arith, ints)); hi = (omega (arith, ints), omega (arith, ints)) }

-- q where the length is above it at most by the width of its interval
part-long : (path : Path) (dp : Interval) → AreBetween (pos 0) (pos (2 ^ 45)) (enc (middle_from path)) → AreBetween (pos (2 ^ 26)) (pos (2 ^ 56)) dp
    → AreBetween (neg_ℤ (pos (2 ^ 56))) (pos (2 ^ 32)) (enc (middle_part path (Known dp)))
unfolding middle_part unit ratio_of div_of hull_of neg_of sum_range quotient_range
part-long path dp h k =
    between _ _ {t = middle_part path (Known dp)}
    (choice {z = zero_form} {w = zero_form} (sum (constant (lit< tt)) (negation (quotient (part-between (pos 0) (pos (2 ^ 45)) {t = middle_from path} h) (part-between (pos (2 ^ 26)) (pos (2 ^ 56)) {t = Known dp} k)))) (constant (lit< tt))) refl

either : (a b : ℤ) → (a ≤ℤ b) ⊎ (b <ℤ a)
either a b = by_test (int_le a b) refl where
  by_test : (test : Bool) → int_le a b ≡ test → (a ≤ℤ b) ⊎ (b <ℤ a)
  by_test true e = inl (grind (arith, ints))
  by_test false e = inr (grind (arith, ints))

part-in : (path : Path) (dp : Interval) → Found dp → HasHeights path → AreBetween (neg_ℤ (pos (2 ^ 56))) (pos (2 ^ 32)) (enc (middle_part path (Known dp)))
unfolding middle_part pick_of
part-in path dp f heights = by_size (either (pos f.high) r.low) where
  r : Reach (enc (middle_from path))
  r = reach (path.hs + path.hr) heights.above_ground (omega (arith, heights.source, heights.receiver))

  by_size : (pos f.high ≤ℤ r.low) ⊎ (r.low <ℤ pos f.high) → AreBetween (neg_ℤ (pos (2 ^ 56))) (pos (2 ^ 32)) (enc (middle_part path (Known dp)))
  by_size (inl h) =
      rw (never (enc (middle_from path)) dp r.low r.high (pos f.low) (pos f.high) r.lo_is r.hi_is f.lo_is f.hi_is r.ordered (omega (arith, ints, f.ordered)) h) zero-between
  by_size (inr h) =
      part-long path dp
      (record { lo = rw r.lo_is (omega (arith, ints, r.some), omega (arith, ints, r.ordered, r.within)); hi = rw r.hi_is (omega (arith, ints, r.some, r.ordered), r.within) })
      (record { lo = rw f.lo_is (omega (arith, ints, r.some, h, f.close), omega (arith, ints, f.ordered, f.within)); hi = rw f.hi_is (omega (arith, ints, r.some, h), omega (arith, ints, f.within)) })

-- ---- A_gr

-- what makes the sum of a band
record Shares (gs gm gr q : Tree) : Type 0 where
  source : HasRanges gs factors
  middle : HasRanges gm factors
  receiver : HasRanges gr factors
  part : HasRanges q parts

abbrev Within : Tree → Type 0
Within t = AreBetween least_ground most_ground (enc t)

at-63 : (gs gm gr q : Tree) → Shares gs gm gr q → Within (Add (Add minus_one_and_a_half minus_one_and_a_half) (middle_at_63 q))
unfolding unit ratio_of mul_of sum_range
at-63 gs gm gr q h =
    between _ _ {t = Add (Add minus_one_and_a_half minus_one_and_a_half) (middle_at_63 q)}
    (sum (sum (constant (lit< tt)) (constant (lit< tt))) (product (constant (lit< tt)) h.part)) refl

middle-has : (gs gm gr q : Tree) → Shares gs gm gr q → HasRanges (middle_above q gm) (middle_above parts factors)
middle-has gs gm gr q h = product (product (constant (lit< tt)) h.part) (sum (constant (lit< tt)) (negation h.middle))

at-high : (gs gm gr q : Tree) → Shares gs gm gr q → Within (Add (Add (end_region_from_2khz gs) (end_region_from_2khz gr)) (middle_above q gm))
unfolding unit ratio_of mul_of neg_of sum_range
at-high gs gm gr q h =
    between _ _ {t = Add (Add (end_region_from_2khz gs) (end_region_from_2khz gr)) (middle_above q gm)}
    (sum (sum (from-has gs h.source) (from-has gr h.receiver)) (middle-has gs gm gr q h)) refl

-- in the bands from 125 Hz to 1 kHz
abbrev band_below : Tree → Tree → Tree → Tree → Tree → Tree → Tree
band_below gs gm gr q s r = Add (Add (end_region_below_2khz gs s) (end_region_below_2khz gr r)) (middle_above q gm)

at-125 : (gs gm gr q s r : Tree) → Shares gs gm gr q → HasRanges s a_range → HasRanges r a_range → Within (band_below gs gm gr q s r)
unfolding unit ratio_of mul_of div_of neg_of sum_range quotient_range decay_range near_growth far_growth
at-125 gs gm gr q s r h k l =
    between _ _ {t = band_below gs gm gr q s r}
    (sum (sum (below-has gs s a_range h.source k) (below-has gr r a_range h.receiver l)) (middle-has gs gm gr q h)) refl

at-250 : (gs gm gr q s r : Tree) → Shares gs gm gr q → HasRanges s (one_part 86 10) → HasRanges r (one_part 86 10) → Within (band_below gs gm gr q s r)
unfolding unit ratio_of mul_of div_of neg_of sum_range quotient_range decay_range near_growth
at-250 gs gm gr q s r h k l =
    between _ _ {t = band_below gs gm gr q s r}
    (sum (sum (below-has gs s (one_part 86 10) h.source k) (below-has gr r (one_part 86 10) h.receiver l)) (middle-has gs gm gr q h)) refl

at-500 : (gs gm gr q s r : Tree) → Shares gs gm gr q → HasRanges s (one_part 14 1) → HasRanges r (one_part 14 1) → Within (band_below gs gm gr q s r)
unfolding unit ratio_of mul_of div_of neg_of sum_range quotient_range decay_range near_growth
at-500 gs gm gr q s r h k l =
    between _ _ {t = band_below gs gm gr q s r}
    (sum (sum (below-has gs s (one_part 14 1) h.source k) (below-has gr r (one_part 14 1) h.receiver l)) (middle-has gs gm gr q h)) refl

at-1000 : (gs gm gr q s r : Tree) → Shares gs gm gr q → HasRanges s (one_part 5 1) → HasRanges r (one_part 5 1) → Within (band_below gs gm gr q s r)
unfolding unit ratio_of mul_of div_of neg_of sum_range quotient_range decay_range near_growth
at-1000 gs gm gr q s r h k l =
    between _ _ {t = band_below gs gm gr q s r}
    (sum (sum (below-has gs s (one_part 5 1) h.source k) (below-has gr r (one_part 5 1) h.receiver l)) (middle-has gs gm gr q h)) refl

pub ground-between : (zones : List Zone) (g0 : ℕ) (path : Path) → IsPath path → g0 ≤ 100 → HasHeights path
    → All (AreBetween least_ground most_ground) (map enc (ground zones g0 path (Known path.dp)))
unfolding ground
ground-between zones g0 path is g heights =
    let found = path-found path.legs path.s path.r path.dp is in
    let dp = length-has path.dp found in
    let hs : path.hs < 2 ^ 32 = omega (arith, heights.source) in
    let hr : path.hr < 2 ^ 32 = omega (arith, heights.receiver) in
    let gs = share_of Source zones g0 path (Known path.dp) in
    let gm = share_of Middle zones g0 path (Known path.dp) in
    let gr = share_of Receiver zones g0 path (Known path.dp) in
    let q = middle_part path (Known path.dp) in
    let h : Shares gs gm gr q = record {
      source = part-between _ _ {t = gs} (share-between Source zones g0 path (Known path.dp) g);
      middle = part-between _ _ {t = gm} (share-between Middle zones g0 path (Known path.dp) g);
      receiver = part-between _ _ {t = gr} (share-between Receiver zones g0 path (Known path.dp) g);
      part = part-between _ _ {t = q} (part-in path path.dp found heights);
    } in
    let high = at-high gs gm gr q h in
    let below = band_below gs gm gr q in
    let top = Add (Add (end_region_from_2khz gs) (end_region_from_2khz gr)) (middle_above q gm) in
    let at = Known path.dp in
    all_eight (AreBetween least_ground most_ground) (enc (Add (Add minus_one_and_a_half minus_one_and_a_half) (middle_at_63 q)))
    (enc (below (a_prime path.hs at) (a_prime path.hr at))) (enc (below (b_prime path.hs at) (b_prime path.hr at)))
    (enc (below (c_prime path.hs at) (c_prime path.hr at))) (enc (below (d_prime path.hs at) (d_prime path.hr at)))
    (enc top) (enc top) (enc top)
    (at-63 gs gm gr q h)
    (at-125 gs gm gr q _ _ h (a-has path.hs at hs dp) (a-has path.hr at hr dp))
    (at-250 gs gm gr q _ _ h (b-has path.hs at hs dp) (b-has path.hr at hr dp))
    (at-500 gs gm gr q _ _ h (c-has path.hs at hs dp) (c-has path.hr at hr dp))
    (at-1000 gs gm gr q _ _ h (d-has path.hs at hs dp) (d-has path.hr at hr dp))
    high high high

-- ---- hard ground

-- no part of the ground is porous
abbrev none : Interval
none = from_to (pos 0) (pos 0)

end-zero : (end : Option ℤ) → IsBetween (pos 0) (pos 0) end → end ≡ Some (pos 0)
end-zero None h = absurd h
end-zero (Some z) h = ap Some (omega (arith, ints, h.0, h.1))

-- between 0 and 0 there is 0 alone
zero-alone : (i : Interval) → AreBetween (pos 0) (pos 0) i → i ≡ from_to (pos 0) (pos 0)
zero-alone i h = both i.lo i.hi (end-zero i.lo h.lo) (end-zero i.hi h.hi) where
  both : (lo hi : Option ℤ) → lo ≡ Some (pos 0) → hi ≡ Some (pos 0) → ◌≡◌ {A = Interval} (record { lo = lo; hi = hi }) (from_to (pos 0) (pos 0))
  both lo hi e f = rw (e, f)

none-in : HasRanges (Known (from_to (pos 0) (pos 0))) (Known (from_to (pos 0) (pos 0)))
none-in = part-between (pos 0) (pos 0) {t = Known (from_to (pos 0) (pos 0))} (record { lo = (omega (arith, ints), omega (arith, ints)); hi = (omega (arith, ints), omega (arith, ints)) })

none-of-a : (prime : Tree) → HasRanges prime a_range → AreBetween (pos 0) (pos 0) (enc (Mul (Known (from_to (pos 0) (pos 0))) prime))
unfolding unit ratio_of mul_of div_of neg_of sum_range quotient_range decay_range near_growth far_growth
none-of-a prime h = between _ _ {t = Mul (Known (from_to (pos 0) (pos 0))) prime} (product none-in h) refl

none-of-b : (prime : Tree) → HasRanges prime (one_part 86 10) → AreBetween (pos 0) (pos 0) (enc (Mul (Known (from_to (pos 0) (pos 0))) prime))
unfolding unit ratio_of mul_of div_of neg_of sum_range quotient_range decay_range near_growth
none-of-b prime h = between _ _ {t = Mul (Known (from_to (pos 0) (pos 0))) prime} (product none-in h) refl

none-of-c : (prime : Tree) → HasRanges prime (one_part 14 1) → AreBetween (pos 0) (pos 0) (enc (Mul (Known (from_to (pos 0) (pos 0))) prime))
unfolding unit ratio_of mul_of div_of neg_of sum_range quotient_range decay_range near_growth
none-of-c prime h = between _ _ {t = Mul (Known (from_to (pos 0) (pos 0))) prime} (product none-in h) refl

none-of-d : (prime : Tree) → HasRanges prime (one_part 5 1) → AreBetween (pos 0) (pos 0) (enc (Mul (Known (from_to (pos 0) (pos 0))) prime))
unfolding unit ratio_of mul_of div_of neg_of sum_range quotient_range decay_range near_growth
none-of-d prime h = between _ _ {t = Mul (Known (from_to (pos 0) (pos 0))) prime} (product none-in h) refl

base-alone : add_of (enc minus_one_and_a_half) (from_to (pos 0) (pos 0)) ≡ enc minus_one_and_a_half
unfolding add_of ratio_of unit
base-alone = refl

below-hard : (prime : Tree) → AreBetween (pos 0) (pos 0) (enc (Mul (Known (from_to (pos 0) (pos 0))) prime)) → enc minus_one_and_a_half ≡ enc (end_region_below_2khz (Known (from_to (pos 0) (pos 0))) prime)
below-hard prime h = sym (ap (add_of (enc minus_one_and_a_half)) (zero-alone _ h) ∙ base-alone)

from-hard : enc minus_one_and_a_half ≡ enc (end_region_from_2khz (Known (from_to (pos 0) (pos 0))))
unfolding mul_of add_of neg_of ratio_of unit
from-hard = refl

-- A_s or A_r on hard ground
pub hard-end : (region : EndRegion) (share : Interval) (h : ℕ) (dp : Interval) → h < 2 ^ 32 → Found dp → region ≡ hard → share ≡ from_to (pos 0) (pos 0) → IsEndRegion region share h (Known dp)
hard-end region share h dp few found is none =
    let length = length-has dp found in
    rw (is, none)
    (record {
      at_125 = below-hard (a_prime h (Known dp)) (none-of-a (a_prime h (Known dp)) (a-has h (Known dp) few length));
      at_250 = below-hard (b_prime h (Known dp)) (none-of-b (b_prime h (Known dp)) (b-has h (Known dp) few length));
      at_500 = below-hard (c_prime h (Known dp)) (none-of-c (c_prime h (Known dp)) (c-has h (Known dp) few length));
      at_1000 = below-hard (d_prime h (Known dp)) (none-of-d (d_prime h (Known dp)) (d-has h (Known dp) few length));
      high = from-hard;
    })
