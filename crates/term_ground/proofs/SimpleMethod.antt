-- The alternative method for ground: by what its values are known, where its formulas are sound, and their bounds.
use Rattle.std.proofs.Common.{◌≡◌, ℕ, ◌+◌, ◌*◌, ◌/◌, ◌<◌, ◌≤◌, ◌^◌, ℤ, pos, negsuc, ◌*ℤ◌, ◌+ℤ◌, ◌≤ℤ◌, refl, arith, lit<, true, false}
use Rattle.std.specs.Prelude.{Option, Some, None, IsSomeAnd}
use Rattle.std.specs.Int.{abs_diff, div_ceil}
use Rattle.std.proofs.lemmas.Int.{ints, clamps}
use Rattle.std.proofs.lemmas.Bool.{false≢true}
use Rattle.std.proofs.lemmas.Nat.{mul-le}
use Rattle.fix_interval.specs.Units.{unit, unit-is}
use Rattle.fix_interval.specs.Interval.{Interval, All}
use Rattle.fix_interval.specs.Bounds.{IsBetween, AreBetween}
use Rattle.fix_interval.specs.Round.{floor_of, ceil_of}
use Rattle.fix_interval.specs.Values.{ratio_of, add_of, neg_of, mul_of, div_of, max_of, least_of, greatest_of}
use Rattle.fix_interval.specs.Lg.{greatest, decade_of, is_at_least, lg_of}
use Rattle.fix_interval.specs.Ranges.{HasRanges, from_to, constant, sum, negation, product, quotient, greater, logarithm, sum_range, quotient_range, logarithm_range}
use Rattle.fix_interval.specs.Tree.{Tree, Known, Add, Div, Max, IsSound, enc}
use Rattle.fix_interval.proofs.Multiplying.{end_of-small}
use Rattle.fix_interval.proofs.Ratios.{ratio_of-small, nat_lt-yes}
use Rattle.fix_interval.proofs.Rounding.{ceil_of-pos, floor_of-le-ceil_of}
use Rattle.fix_interval.proofs.Dividing.{int_le-no, ≤ℤ_trans}
use Rattle.fix_interval.proofs.RangedFormulas.{between, part-between}
use Rattle.enclose_log.proofs.LgRange.{logarithm-ranged}
use Rattle.path_shape.specs.declared.path.Path.{Path}
use Rattle.path_shape.specs.Forms.{one_form}
use Rattle.path_shape.specs.Shape.{squared, IsPlanSquare}
use Rattle.path_shape.proofs.Lengths.{div_ceil-within}
use Rattle.term_ground.specs.Alternative.{mean_height, simple_ground, height_square, solid_angle}
use Rattle.term_ground.specs.Limits.{HasHeights}

-- ---- the same intervals, and sound formulas

pub simple-same : (path : Path) (a b : Tree) → enc a ≡ enc b → enc (simple_ground path a) ≡ enc (simple_ground path b)
unfolding simple_ground
simple-same path a b e = rw e refl

pub angle-same : (path : Path) (a b : Tree) → enc a ≡ enc b → enc (solid_angle path a) ≡ enc (solid_angle path b)
unfolding solid_angle
angle-same path a b e = rw e refl

pub simple-sound : (path : Path) (d : Tree) → IsSound d → IsSound (simple_ground path d)
unfolding simple_ground
simple-sound path d h =
    let g : IsSound (Max one_form d) = (omega arith, h) in
    (omega arith, (omega arith, (((omega arith, omega arith), g), (omega arith, (omega arith, g)))))

pub angle-sound : (path : Path) (q : Tree) → IsSound q → IsSound (solid_angle path q)
unfolding solid_angle
angle-sound path q h = (omega arith, (omega arith, ((h, omega arith), (h, omega arith))))

-- ---- equation 10

distances : Tree
distances = Known (from_to (pos 0) (pos (2 ^ 60)))

length_of : (d : Interval) → AreBetween (pos 0) (pos (2 ^ 60)) d → HasRanges (Max one_form (Known d)) (Max one_form distances)
unfolding distances
length_of d h = greater (constant (lit< tt)) (part-between _ _ h)

pub simple-between : (path : Path) (d : Interval) → AreBetween (pos 0) (pos (2 ^ 55)) (enc (mean_height path)) → AreBetween (pos 0) (pos (2 ^ 60)) d
    → AreBetween (pos 0) (pos (8 * 2 ^ 32)) (enc (simple_ground path (Known d)))
unfolding simple_ground distances unit ratio_of add_of neg_of mul_of div_of max_of sum_range quotient_range
simple-between path d height h =
    between _ _ {t = simple_ground path (Known d)}
    (greater (constant (lit< tt)) (sum (constant (lit< tt)) (negation (product (quotient (product (constant (lit< tt)) (part-between (pos 0) (pos (2 ^ 55)) {t = mean_height path} height)) (length_of d h)) (sum (constant (lit< tt)) (quotient (constant (lit< tt)) (length_of d h))))))) refl

-- ---- the logarithm of what may be 0 or below

pub at-least-one : (end : Option ℤ) → is_at_least (pos 1) end ≡ true → IsSomeAnd end (λ z. pos 1 ≤ℤ z)
at-least-one None e = absurd (false≢true e)
at-least-one (Some z) e = grind (arith, ints)

pub lg-none : (a : Interval) → is_at_least (pos 1) a.lo ≡ false → lg_of a ≡ All
unfolding lg_of
lg-none a h = rw h refl

-- ---- equation 11: its quotient is at most 2

-- a quotient of ends of which none is more than twice the divisor, rounded up and down
quotient-high : (n d : ℕ) → n ≤ 2 * d → 0 < d → (pos 0 ≤ℤ ceil_of (pos n *ℤ pos unit) d) × (ceil_of (pos n *ℤ pos unit) d ≤ℤ pos (2 * 2 ^ 32))
quotient-high n d h some =
    rw (ceil_of-pos (pos n *ℤ pos unit) d some (omega (arith, ints)))
    (omega (arith, ints), omega (arith, ints, div_ceil-within (n * unit) d (2 * 2 ^ 32) some (rw unit-is (omega (arith, h)))))

quotient-low : (n d : ℕ) → n ≤ 2 * d → 0 < d → (pos 0 ≤ℤ floor_of (pos n *ℤ pos unit) d) × (floor_of (pos n *ℤ pos unit) d ≤ℤ pos (2 * 2 ^ 32))
quotient-low n d h some =
    let least : pos 0 ≤ℤ floor_of (pos n *ℤ pos unit) d = omega (arith, ints) in
    (least, ≤ℤ_trans _ _ _ (floor_of-le-ceil_of (pos n *ℤ pos unit) d some) (quotient-high n d h some).1)

least-within : (k p q r s : ℤ) → (pos 0 ≤ℤ p) × (p ≤ℤ k) → (pos 0 ≤ℤ q) × (q ≤ℤ k) → (pos 0 ≤ℤ r) × (r ≤ℤ k) → (pos 0 ≤ℤ s) × (s ≤ℤ k)
    → (pos 0 ≤ℤ least_of p q r s) × (least_of p q r s ≤ℤ k)
least-within k p q r s a b c d =
    (omega (arith, ints, clamps, a.0, b.0, c.0, d.0), omega (arith, ints, clamps, a.1, b.1, c.1, d.1))

greatest-within : (k p q r s : ℤ) → (pos 0 ≤ℤ p) × (p ≤ℤ k) → (pos 0 ≤ℤ q) × (q ≤ℤ k) → (pos 0 ≤ℤ r) × (r ≤ℤ k) → (pos 0 ≤ℤ s) × (s ≤ℤ k)
    → (pos 0 ≤ℤ greatest_of p q r s) × (greatest_of p q r s ≤ℤ k)
greatest-within k p q r s a b c d =
    (omega (arith, ints, clamps, a.0, b.0, c.0, d.0), omega (arith, ints, clamps, a.1, b.1, c.1, d.1))

abbrev spanned : ℕ → ℕ → Interval
spanned lo hi = record { lo = Some (pos lo); hi = Some (pos hi) }

quotient-between : (nl nh dl dh : ℕ) → nl ≤ 2 * dl → nl ≤ 2 * dh → nh ≤ 2 * dl → nh ≤ 2 * dh → 0 < dl → 0 < dh → nl < 2 ^ 94 → nh < 2 ^ 94
    → AreBetween (pos 0) (pos (2 * 2 ^ 32)) (div_of (spanned nl nh) (spanned dl dh))
unfolding div_of
quotient-between nl nh dl dh a b c d some some' small small' =
    rw (int_le-no (pos dl) (pos 0) (omega (arith, ints, some)), nat_lt-yes nl (2 ^ 94) small, nat_lt-yes nh (2 ^ 94) small')
    (record {
      lo = least-within _ _ _ _ _ (quotient-low nl dl a some) (quotient-low nl dh b some') (quotient-low nh dl c some) (quotient-low nh dh d some');
      hi = greatest-within _ _ _ _ _ (quotient-high nl dl a some) (quotient-high nl dh b some') (quotient-high nh dl c some) (quotient-high nh dh d some');
    })

-- the square of a height, as ends
square-is : (h : ℕ) → squared h < 2 ^ 94 → enc (height_square h) ≡ spanned (squared h * unit / 1000000) (div_ceil (squared h * unit) 1000000)
square-is h small =
    rw (ratio_of-small (pos (squared h)) 1000000 small, ceil_of-pos (pos (squared h) *ℤ pos unit) 1000000 (omega arith) (omega (arith, ints)))
    refl

-- a sum of ends
sum-is : (l h a b : ℕ) → l + a < 2 ^ 126 → h + b < 2 ^ 126 → add_of (spanned l h) (spanned a b) ≡ spanned (l + a) (h + b)
unfolding add_of
sum-is l h a b low high = rw (end_of-small (pos l +ℤ pos a) (omega (arith, ints, low)), end_of-small (pos h +ℤ pos b) (omega (arith, ints, high))) refl

-- the squares of the difference and the sum of two heights
squares-fit : (hs hr : ℕ) → hs ≤ 100000 → hr ≤ 100000 → 0 < hs + hr
    → (squared (abs_diff hs hr) ≤ squared (hs + hr)) × (0 < squared (hs + hr)) × (squared (hs + hr) < 2 ^ 36)
unfolding squared
squares-fit hs hr s r some = (
  mul-le (abs_diff hs hr) (abs_diff hs hr) (hs + hr) (hs + hr) (omega arith) (omega arith),
  mul-le 1 1 (hs + hr) (hs + hr) some some,
  omega (arith, mul-le (hs + hr) (hs + hr) 200000 200000 (omega arith) (omega arith)),
)

-- what the sound of the ground is to that of the source
part-between-two : (l h hs hr : ℕ) → l ≤ h → h ≤ l + 1 → h ≤ 2 ^ 62 → hs ≤ 100000 → hr ≤ 100000 → 0 < hs + hr
    → AreBetween (pos 0) (pos (2 * 2 ^ 32)) (div_of (add_of (spanned l h) (enc (height_square (abs_diff hs hr)))) (add_of (spanned l h) (enc (height_square (hs + hr)))))
part-between-two l h hs hr order near small s r some =
    let fits = squares-fit hs hr s r some in
    let a = squared (abs_diff hs hr) in
    let b = squared (hs + hr) in
    let first : a * unit / 1000000 ≤ b * unit / 1000000 = rw unit-is (omega (arith, fits.0)) in
    let second : div_ceil (a * unit) 1000000 ≤ b * unit / 1000000 + 1 = rw unit-is (omega (arith, fits.0)) in
    let third : b * unit / 1000000 ≤ div_ceil (b * unit) 1000000 = rw unit-is (omega arith) in
    let least : 4294 ≤ b * unit / 1000000 = rw unit-is (omega (arith, fits.1)) in
    let most : div_ceil (b * unit) 1000000 ≤ 2 ^ 50 = rw unit-is (omega (arith, fits.2)) in
    rw (
      square-is (abs_diff hs hr) (omega (arith, fits.0, fits.2)),
      square-is (hs + hr) (omega (arith, fits.2)),
      sum-is l h (a * unit / 1000000) (div_ceil (a * unit) 1000000) (omega (arith, first, third, most)) (omega (arith, second, third, most)),
      sum-is l h (b * unit / 1000000) (div_ceil (b * unit) 1000000) (omega (arith, third, most)) (omega (arith, most)),
    )
    (quotient-between (l + a * unit / 1000000) (h + div_ceil (a * unit) 1000000) (l + b * unit / 1000000) (h + div_ceil (b * unit) 1000000)
    (omega (arith, first)) (omega (arith, first, third)) (omega (arith, second, least)) (omega (arith, second, third, least))
    (omega (arith, least)) (omega (arith, least, third)) (omega (arith, first, third, most)) (omega (arith, second, third, most)))

angle-from : (path : Path) (q : Interval) → AreBetween (pos 0) (pos (2 * 2 ^ 32)) (div_of (add_of q (enc (height_square (abs_diff path.hs path.hr)))) (add_of q (enc (height_square (path.hs + path.hr)))))
    → AreBetween (pos 0) (pos (10 * 2 ^ 32)) (enc (solid_angle path (Known q)))
unfolding solid_angle unit ratio_of mul_of greatest decade_of sum_range logarithm_range
angle-from path q h =
    between _ _ {t = solid_angle path (Known q)}
    (product (constant (lit< tt)) (logarithm logarithm-ranged (sum (constant (lit< tt)) (part-between (pos 0) (pos (2 * 2 ^ 32)) {t = Div (Add (Known q) (height_square (abs_diff path.hs path.hr))) (Add (Known q) (height_square (path.hs + path.hr)))} h)))) refl

pub angle-between : (path : Path) (q : Interval) → HasHeights path → IsPlanSquare q → AreBetween (pos 0) (pos (10 * 2 ^ 32)) (enc (solid_angle path (Known q)))
angle-between path q heights square = by_ends q.lo q.hi refl refl square.bounds.lo square.bounds.hi square.close where
  by_ends : (lo hi : Option ℤ) → q.lo ≡ lo → q.hi ≡ hi → IsBetween (pos 0) (pos (2 ^ 62)) lo → IsBetween (pos 0) (pos (2 ^ 62)) hi
      → IsSomeAnd lo (λ low. IsSomeAnd hi (λ high. (low ≤ℤ high) × (high ≤ℤ (low +ℤ pos 1)))) → AreBetween (pos 0) (pos (10 * 2 ^ 32)) (enc (solid_angle path (Known q)))
  by_ends None hi e f low high close = absurd low
  by_ends (Some l) None e f low high close = absurd high
  by_ends (Some (negsuc l)) (Some h) e f low high close = absurd (omega (arith, ints, low.0))
  by_ends (Some (pos l)) (Some (negsuc h)) e f low high close = absurd (omega (arith, ints, high.0))
  by_ends (Some (pos l)) (Some (pos h)) e f low high close =
      let is : q ≡ spanned l h = rw (e, f) refl in
      angle-from path q
      (rw is (part-between-two l h path.hs path.hr (omega (arith, ints, close.0)) (omega (arith, ints, close.1)) (omega (arith, ints, high.1)) heights.source heights.receiver heights.above_ground))
