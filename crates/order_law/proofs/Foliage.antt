-- That the attenuation by foliage doesn't depend on the order of the foliage.
use Rattle.std.proofs.Common.{◌≡◌, ℕ, ◌+◌, ◌-◌, ◌*◌, ◌<◌, ◌≤◌, pos, ◌*ℤ◌, ◌≤ℤ◌, unsigned_abs, Bool, true, false, arith, refl, sym, ◌∙◌, inl, inr, List, [], ◌∷◌, filter}
use Rattle.std.specs.Prelude.{Option, Some, None, IfSome, ◌^◌, ◌⊎◌, nat_lt}
use Rattle.std.specs.List.{filter_map}
use Rattle.std.specs.Int.{abs_diff}
use Rattle.std.proofs.lemmas.Bool.{cases_lt}
use Rattle.std.proofs.lemmas.Nat.{mul-le}
use Rattle.std.proofs.lemmas.Int.{ints, unsigned_abs-mul}
use Rattle.fix_interval.specs.Units.{unit, unit-is}
use Rattle.fix_interval.specs.Interval.{Interval, All}
use Rattle.fix_interval.specs.Round.{floor_of, ceil_of}
use Rattle.fix_interval.specs.Values.{ratio_of, add_of, mul_of, root_of, product_of_ends}
use Rattle.fix_interval.specs.Tree.{Tree, Const, enc}
use Rattle.fix_interval.proofs.Ends.{on_ends-second}
use Rattle.fix_interval.proofs.Ratios.{ratio_of-small, ratio_of-large}
use Rattle.fix_interval.proofs.Rounding.{ceil_of-pos, floor_of-le-ceil_of}
use Rattle.fix_interval.proofs.Ceilings.{quotient_up-le}
use Rattle.scene_geom.specs.declared.plan.Pt.{Pt}
use Rattle.scene_geom.specs.declared.fractions.fraction.Frac.{Frac}
use Rattle.scene_geom.specs.declared.band.Band.{Band}
use Rattle.scene_parts.specs.Parts.{Foliage}
use Rattle.scene_book.specs.Orders.{Shuffled}
use Rattle.scene_undo.specs.Scenes.{IsFoliageWithin}
use Rattle.path_shape.specs.Shape.{squared}
use Rattle.path_shape.specs.declared.path.Path.{Path}
use Rattle.path_shape.specs.Forms.{zero_form, one_form, plus_all}
use Rattle.path_shape.specs.Outlines.{meets_legs}
use Rattle.term_foliage.specs.Foliage.{low_stretch, length_in, lengths_in, foliage_distance, foliage_in, foliage_attenuation}
use Rattle.path_calc.specs.Lengths.{space_square, distance, reflected_distance}
use Rattle.order_law.proofs.Shuffles.{Each, AreFew, filter-shuffled, filter_map-shuffled, length-filter, each-filter, fewer}
use Rattle.order_law.proofs.Ends.{Ends, NotNegative, ratio-positive}
use Rattle.order_law.proofs.Sums.{IsTerm, none-added, few-sums-alike}
use Rattle.order_law.proofs.Outlines.{UpToOne, IsStretch, end-is, more-within, one-up-to-one, zero-within, legs-within}

-- ---- where the sight line is low

-- a fraction up to 1
module _ (n q : ℕ) (small : n < 2 ^ 94) (most : n ≤ q) (positive : 0 < q) where
  ceil-up-to-one : ceil_of (pos n *ℤ pos unit) q ≤ℤ pos (2 ^ 32)
  ceil-up-to-one =
      let size : unsigned_abs (pos n *ℤ pos unit) ≡ n * unit = unsigned_abs-mul (pos n) (pos unit) in
      let less : n * unit ≤ 2 ^ 32 * q = rw unit-is (omega (arith, most)) in
      rw (ceil_of-pos (pos n *ℤ pos unit) q positive (omega (arith, ints)))
      (omega (arith, ints, quotient_up-le (unsigned_abs (pos n *ℤ pos unit)) (2 ^ 32) q positive (omega (arith, size, less))))

  fraction-up-to-one : Ends UpToOne (ratio_of (pos n) q)
  fraction-up-to-one =
      rw (ratio_of-small (pos n) q small)
      (omega (arith, ints, floor_of-le-ceil_of (pos n *ℤ pos unit) q positive, ceil-up-to-one), ceil-up-to-one)

  low-there : (ratio_of (pos n) q).lo ≡ Some (floor_of (pos n *ℤ pos unit) q)
  low-there = rw (ratio_of-small (pos n) q small) refl

  high-there : (ratio_of (pos n) q).hi ≡ Some (ceil_of (pos n *ℤ pos unit) q)
  high-there = rw (ratio_of-small (pos n) q small) refl

  -- as the end of a stretch, and as its start
  to-fraction : IsStretch (enc zero_form) (enc (Const (pos n) q))
  unfolding ratio_of unit
  to-fraction =
      let above = end-is NotNegative _ _ high-there (ratio-positive n q).1 in
      record {
        start = ratio-positive 0 1;
        end = fraction-up-to-one;
        first = pos 0;
        last = ceil_of (pos n *ℤ pos unit) q;
        first_there = refl;
        last_there = high-there;
        close = omega (arith, ints, above, ceil-up-to-one);
      }

  from-fraction : IsStretch (enc (Const (pos n) q)) (enc one_form)
  unfolding ratio_of unit
  from-fraction =
      let above = end-is NotNegative _ _ low-there (ratio-positive n q).0 in
      let below = end-is UpToOne _ _ low-there fraction-up-to-one.0 in
      record {
        start = ratio-positive n q;
        end = one-up-to-one;
        first = floor_of (pos n *ℤ pos unit) q;
        last = pos (2 ^ 32);
        first_there = low-there;
        last_there = refl;
        close = omega (arith, ints, above, below);
      }

-- the whole path
from-end-to-end : IsStretch (enc zero_form) (enc one_form)
unfolding ratio_of unit
from-end-to-end = record {
  start = ratio-positive 0 1;
  end = one-up-to-one;
  first = pos 0;
  last = pos (2 ^ 32);
  first_there = refl;
  last_there = refl;
  close = omega (arith, ints);
}

-- heights that aren't farther apart than a fraction can tell
pub record AreNear (hs hr : ℕ) : Type 0 where
  pub not_above : hs < hr + 2 ^ 94
  pub not_below : hr < hs + 2 ^ 94

stretch-low : (top hs hr : ℕ) → AreNear hs hr → IfSome (low_stretch top hs hr) (λ stretch. IsStretch (enc stretch.0) (enc stretch.1))
stretch-low top hs hr near = by (nat_lt hs top) (nat_lt hr top) refl refl where
  by : (low_here low_there : Bool) → nat_lt hs top ≡ low_here → nat_lt hr top ≡ low_there
      → IfSome (low_stretch top hs hr) (λ stretch. IsStretch (enc stretch.0) (enc stretch.1))
  by true true e h = rw (e, h) from-end-to-end
  by true false e h =
      let here : hs < top = grind arith in
      let there : top ≤ hr = grind arith in
      rw (e, h) (to-fraction (top - hs) (hr - hs) (omega (arith, near.not_below)) (omega arith) (omega arith))
  by false true e h =
      let here : top ≤ hs = grind arith in
      let there : hr < top = grind arith in
      rw (e, h) (from-fraction (hs - top) (hs - hr) (omega (arith, near.not_above)) (omega arith) (omega arith))
  by false false e h = rw (e, h) tt

-- ---- sums of lengths

module _ (path : Path) (near : AreNear path.hs path.hr) where
  lengths-within : (foliage : List Foliage) → Each IsFoliageWithin foliage → Each IsTerm (filter_map (length_in path) foliage)
  lengths-within [] h = tt
  lengths-within (one ∷ rest) h =
      by (low_stretch one.h path.hs path.hr) refl (stretch-low one.h path.hs path.hr near) (lengths-within rest h.1) where
        by : (stretch : Option (Tree × Tree)) → low_stretch one.h path.hs path.hr ≡ stretch
            → IfSome stretch (λ stretch. IsStretch (enc stretch.0) (enc stretch.1))
            → Each IsTerm (filter_map (length_in path) rest) → Each IsTerm (filter_map (length_in path) (one ∷ rest))
        by None e is made = rw e made
        by (Some stretch) e is made =
            rw e (more-within (2 ^ 43) (2 ^ 108) _ (omega arith) (legs-within path.legs path.s path.r one.points stretch.0 stretch.1 is h.0.few), made)

  lengths-alike : {xs ys : List Foliage} → Shuffled xs ys → AreFew IsFoliageWithin xs
      → enc (plus_all zero_form (lengths_in path xs)) ≡ enc (plus_all zero_form (lengths_in path ys))
  lengths-alike {xs = xs} {ys = ys} h few =
      let test = λ (one : Foliage). meets_legs path.legs path.s path.r one.points in
      few-sums-alike zero_form (filter_map-shuffled (length_in path) (filter-shuffled test h))
      (omega (arith, fewer (length_in path) (filter test xs), length-filter test xs, few.count))
      (zero-within (2 ^ 32)) (lengths-within (filter test xs) (each-filter IsFoliageWithin test xs few.each))

-- ---- the attenuation

-- a product with what has no high end says nothing
unbounded-mul : (x y : Interval) → y.hi ≡ None → mul_of x y ≡ All
unfolding mul_of
unbounded-mul x y none = on_ends-second product_of_ends x.lo x.hi y.lo y.hi (inr none)

-- The ends of a path are near in height, or its length d has no high end: then no share of it has one either
abbrev pub IsTold : ℕ → ℕ → Tree → Type 0
IsTold hs hr d = AreNear hs hr ⊎ ((enc d).hi ≡ None)

module _ (path : Path) (d : Tree) (told : IsTold path.hs path.hr d) {xs ys : List Foliage} (h : Shuffled xs ys) (few : AreFew IsFoliageWithin xs) where
  distance-alike : enc (foliage_distance xs path d) ≡ enc (foliage_distance ys path d)
  distance-alike = by told where
    by : IsTold path.hs path.hr d → enc (foliage_distance xs path d) ≡ enc (foliage_distance ys path d)
    by (inl near) = rw (lengths-alike path near h few)
    by (inr none) = unbounded-mul _ (enc d) none ∙ sym (unbounded-mul _ (enc d) none)

  -- in each band
  pub foliage-alike : (band : Band) → enc (foliage_attenuation xs path d band) ≡ enc (foliage_attenuation ys path d band)
  unfolding foliage_in
  foliage-alike band = rw distance-alike

-- ---- the lengths of paths

-- heights that are too far apart
module _ (hs hr : ℕ) (apart : 2 ^ 94 ≤ abs_diff hs hr) where
  square-apart : 2 ^ 94 ≤ squared (abs_diff hs hr)
  unfolding squared
  square-apart = omega (arith, mul-le (2 ^ 94) 1 (abs_diff hs hr) (abs_diff hs hr) apart (omega (arith, apart)))

  distance-untold : (s r : Pt) → (enc (distance s hs r hr)).hi ≡ None
  unfolding root_of
  distance-untold s r =
      rw (ratio_of-large (pos (space_square s hs r hr)) 1000000 (omega (arith, square-apart))) refl

  reflected-untold : (square : Frac) → (enc (reflected_distance square hs hr)).hi ≡ None
  unfolding root_of add_of
  reflected-untold square =
      rw (ratio_of-large (pos (squared (abs_diff hs hr))) 1000000 square-apart, none-added (ratio_of square.n (unsigned_abs square.d * 1000000)).hi) refl

told : (hs hr : ℕ) (d : Tree) → (2 ^ 94 ≤ abs_diff hs hr → (enc d).hi ≡ None) → IsTold hs hr d
told hs hr d untold = by (cases_lt hs (hr + 2 ^ 94)) (cases_lt hr (hs + 2 ^ 94)) where
  by : (hs < hr + 2 ^ 94) ⊎ (hr + 2 ^ 94 ≤ hs) → (hr < hs + 2 ^ 94) ⊎ (hs + 2 ^ 94 ≤ hr) → IsTold hs hr d
  by (inl below) (inl above) = inl (record { not_above = below; not_below = above })
  by (inl below) (inr far) = inr (untold (omega (arith, far)))
  by (inr far) other = inr (untold (omega (arith, far)))

-- so it is for the direct path, and for a path by way of a wall
pub distance-told : (s : Pt) (hs : ℕ) (r : Pt) (hr : ℕ) → IsTold hs hr (distance s hs r hr)
distance-told s hs r hr = told hs hr (distance s hs r hr) (λ apart. distance-untold hs hr apart s r)

pub reflected-told : (square : Frac) (hs hr : ℕ) → IsTold hs hr (reflected_distance square hs hr)
reflected-told square hs hr = told hs hr (reflected_distance square hs hr) (λ apart. reflected-untold hs hr apart square)
