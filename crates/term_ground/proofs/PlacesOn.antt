-- What lies before a place on a path doesn't depend on how far beyond the path the place is.
use Rattle.std.proofs.Common.{◌≡◌, ℕ, ◌<◌, ◌^◌, ℤ, pos, neg_ℤ, ◌+ℤ◌, ◌*ℤ◌, ◌≤ℤ◌, refl, sym, subst, arith, ◌∙◌}
use Rattle.std.specs.Prelude.{Bool, true, false, Option, None, Some, IfSome, unsigned_abs}
use Rattle.std.specs.Int.{int_min, int_max}
use Rattle.std.proofs.lemmas.Int.{ints, clamps}
use Rattle.std.proofs.Math.Nat.{zero-div}
use Rattle.fix_interval.specs.Interval.{Interval}
use Rattle.fix_interval.specs.Tree.{Tree, Known, Add, Sub, Max, Min, enc}
use Rattle.fix_interval.specs.Units.{unit, unit-is}
use Rattle.fix_interval.specs.Round.{floor_of, ceil_of}
use Rattle.fix_interval.specs.Values.{ratio_of, add_of, neg_of, max_of, min_of}
use Rattle.fix_interval.proofs.Dividing.{units-mono}
use Rattle.fix_interval.proofs.Multiplying.{end_of-small}
use Rattle.fix_interval.proofs.Ratios.{ratio_of-small, unsigned_abs-units}
use Rattle.fix_interval.proofs.Rounding.{floor_of-mono, ceil_of-mono, floor_of-le-ceil_of, floor_of-scaled, floor_of-one, ceil_of-pos, div_ceil_zero, unsigned_abs-floor_of, unsigned_abs-ceil_of}
use Rattle.path_shape.specs.declared.stretch.Stretch.{Stretch}
use Rattle.path_shape.specs.Forms.{zero_form}
use Rattle.path_shape.specs.Outlines.{signed}
use Rattle.path_shape.specs.Stretches.{part_of}
use Rattle.term_ground.specs.declared.extents.extent.Extent.{Extent}
use Rattle.term_ground.specs.declared.extents.extent.Section.{Section}
use Rattle.term_ground.specs.inner.Extents.{by_ends, part_at, clamped, IsPlaceOn, IsSection}

-- ---- what lies before a place

part-ends : (pl ph fl fh tl th : ℤ) → unsigned_abs pl < 2 ^ 125 → unsigned_abs ph < 2 ^ 125 → unsigned_abs fl < 2 ^ 62 → unsigned_abs fh < 2 ^ 62
    → unsigned_abs tl < 2 ^ 62 → unsigned_abs th < 2 ^ 62
    → part_at (record { lo = Some pl; hi = Some ph }) (record { lo = Some fl; hi = Some fh }) (record { lo = Some tl; hi = Some th })
    ≡ record { lo = Some (int_max (pos 0) (int_min pl tl +ℤ neg_ℤ fh)); hi = Some (int_max (pos 0) (int_min ph th +ℤ neg_ℤ fl)) }
unfolding max_of min_of add_of neg_of ratio_of unit
part-ends pl ph fl fh tl th h k l m n o =
    rw (
      end_of-small (int_min pl tl +ℤ neg_ℤ fh) (omega (arith, ints, clamps, h, m, n)),
      end_of-small (int_min ph th +ℤ neg_ℤ fl) (omega (arith, ints, clamps, k, l, o)),
    )
    refl

same-part : (z e s : ℤ) → e ≤ℤ pos (2 ^ 32) → pos 0 ≤ℤ s
    → int_max (pos 0) (int_min (clamped z) e +ℤ neg_ℤ s) ≡ int_max (pos 0) (int_min z e +ℤ neg_ℤ s)
same-part z e s h k = omega (arith, ints, clamps, h, k)

clamped-small : (z : ℤ) → unsigned_abs (clamped z) < 2 ^ 125
clamped-small z = omega (arith, ints, clamps)

pub part-on : (place : Extent) (at : Interval) (from to : Extent) → IsPlaceOn place at → pos 0 ≤ℤ from.lo → to.hi ≤ℤ pos (2 ^ 32)
    → part_at (by_ends place) (by_ends from) (by_ends to) ≡ part_at at (by_ends from) (by_ends to)
part-on place at from to is starts ends =
    rw (is.place_is, is.low, is.high)
    (part-ends (clamped is.lo) (clamped is.hi) from.lo from.hi to.lo to.hi (clamped-small is.lo) (clamped-small is.hi) from.low_end from.high_end to.low_end to.high_end
    ∙ rw (
      same-part is.lo to.lo from.hi (omega (arith, ints, to.ordered, ends)) (omega (arith, ints, from.ordered, starts)),
      same-part is.hi to.hi from.lo ends starts,
    )
    (sym (part-ends is.lo is.hi from.lo from.hi to.lo to.hi is.low_fits is.high_fits from.low_end from.high_end to.low_end to.high_end)))

-- ---- places beyond a path

floor-none : (d : ℕ) → floor_of (pos 0) d ≡ pos 0
floor-none d = rw (zero-div d) refl

ceil-none : (d : ℕ) → 0 < d → ceil_of (pos 0) d ≡ pos 0
ceil-none d h = ceil_of-pos (pos 0) d h (omega (arith, ints)) ∙ rw (div_ceil_zero d h) refl

whole-floor : (d : ℕ) → 0 < d → floor_of (pos d *ℤ pos unit) d ≡ pos unit
whole-floor d h = search (arith, floor_of-scaled (pos unit) 1 d (omega arith) h, floor_of-one (pos unit))

unit-one : pos unit ≡ pos (2 ^ 32)
unit-one = rw unit-is refl

clamped-start : (z : ℤ) → z ≤ℤ pos 0 → pos 0 ≡ clamped z
clamped-start z h = omega (arith, ints, clamps, h)

clamped-end : (z : ℤ) → pos (2 ^ 32) ≤ℤ z → pos (2 ^ 32) ≡ clamped z
clamped-end z h = omega (arith, ints, clamps, h)

clamped-within : (z : ℤ) → pos 0 ≤ℤ z → z ≤ℤ pos (2 ^ 32) → z ≡ clamped z
clamped-within z h k = omega (arith, ints, clamps, h, k)

module _ (n : ℤ) (d : ℕ) (h : unsigned_abs n < 2 ^ 62) (positive : 0 < d) where
  abbrev low : ℤ
  low = floor_of (n *ℤ pos unit) d

  abbrev high : ℤ
  high = ceil_of (n *ℤ pos unit) d

  units-fit : unsigned_abs (n *ℤ pos unit) < 2 ^ 125
  units-fit = rw (unsigned_abs-units n) (omega (arith, h))

  low-fits : unsigned_abs low < 2 ^ 125
  low-fits = omega (arith, units-fit, unsigned_abs-floor_of (n *ℤ pos unit) d positive)

  high-fits : unsigned_abs high < 2 ^ 125
  high-fits = omega (arith, units-fit, unsigned_abs-ceil_of (n *ℤ pos unit) d positive)

  ordered : low ≤ℤ high
  ordered = floor_of-le-ceil_of (n *ℤ pos unit) d positive

  place : ratio_of n d ≡ record { lo = Some low; hi = Some high }
  place = ratio_of-small n d (omega (arith, h))

  on : (extent : Extent) → extent.lo ≡ clamped low → extent.hi ≡ clamped high → IsPlaceOn extent (ratio_of n d)
  on extent l g = record {
    lo = low;
    hi = high;
    place_is = place;
    low_fits = low-fits;
    high_fits = high-fits;
    low = l;
    high = g;
  }

  pub before-start : (extent : Extent) → n ≤ℤ pos 0 → extent.lo ≡ pos 0 → extent.hi ≡ pos 0 → IsPlaceOn extent (ratio_of n d)
  unfolding unit
  before-start extent behind l g =
      let up : high ≤ℤ ceil_of (pos 0 *ℤ pos unit) d = ceil_of-mono (n *ℤ pos unit) (pos 0 *ℤ pos unit) d positive (units-mono n (pos 0) behind) in
      let top : high ≤ℤ pos 0 = subst (λ (z : ℤ). high ≤ℤ z) (ceil-none d positive) up in
      on extent (l ∙ clamped-start low (omega (arith, ints, ordered, top))) (g ∙ clamped-start high top)

  pub behind-end : (extent : Extent) → pos d ≤ℤ n → extent.lo ≡ pos (2 ^ 32) → extent.hi ≡ pos (2 ^ 32) → IsPlaceOn extent (ratio_of n d)
  behind-end extent beyond l g =
      let down : floor_of (pos d *ℤ pos unit) d ≤ℤ low = floor_of-mono (pos d *ℤ pos unit) (n *ℤ pos unit) d positive (units-mono (pos d) n beyond) in
      let bottom : pos (2 ^ 32) ≤ℤ low = subst (λ (z : ℤ). z ≤ℤ low) (whole-floor d positive ∙ unit-one) down in
      on extent (l ∙ clamped-end low bottom) (g ∙ clamped-end high (omega (arith, ints, ordered, bottom)))

  pub between-ends : (extent : Extent) → by_ends extent ≡ ratio_of n d → pos 0 ≤ℤ extent.lo → extent.hi ≤ℤ pos (2 ^ 32) → IsPlaceOn extent (ratio_of n d)
  between-ends extent is starts ends =
      record {
        lo = extent.lo;
        hi = extent.hi;
        place_is = sym is;
        low_fits = omega (arith, ints, extent.low_end);
        high_fits = omega (arith, ints, extent.high_end);
        low = clamped-within extent.lo starts (omega (arith, ints, extent.ordered, ends));
        high = clamped-within extent.hi (omega (arith, ints, extent.ordered, starts)) ends;
      }

-- ---- a length with a part

same-signed : (to_left : Bool) (length : Interval) (t u : Tree) → enc t ≡ enc u
    → enc (Add (Known length) (signed to_left t)) ≡ enc (Add (Known length) (signed to_left u))
same-signed true length t u e = rw e refl
same-signed false length t u e = rw e refl

pub extended-is : (result : Option Extent) (length place part : Extent) (section : Section) (to_left : Bool)
    → IfSome result (λ after. by_ends after ≡ enc (Add (Known (by_ends length)) (signed to_left (Known (by_ends part)))))
    → by_ends part ≡ part_at (by_ends place) (by_ends section.from) (by_ends section.to)
    → IfSome result (λ after. (at : Interval) (stretch : Stretch) → IsPlaceOn place at → IsSection section stretch
    → by_ends after ≡ enc (Add (Known (by_ends length)) (part_of (Known at) to_left stretch)))
extended-is None length place part section to_left counted is = counted
extended-is (Some after) length place part section to_left counted is = λ at stretch on found.
    counted
    ∙ same-signed to_left (by_ends length) (Known (by_ends part)) (Max zero_form (Sub (Min (Known at) (Known stretch.to)) (Known stretch.from)))
    (is ∙ part-on place at section.from section.to on section.begins section.ends ∙ rw (found.from_is, found.to_is) refl)
