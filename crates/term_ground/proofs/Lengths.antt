-- Quotients of lengths by short divisions.
use Rattle.std.proofs.Common.{◌≡◌, ◌∙◌, ℕ, ◌*◌, ◌/◌, ◌<◌, ◌^◌, ℤ, pos, ◌*ℤ◌, ◌≤ℤ◌, ◌<ℤ◌, to_z, of_z, refl, sym, subst, arith}
use Rattle.std.specs.Prelude.{Some, unsigned_abs}
use Rattle.std.specs.Int.{w128, div_ceil}
use Rattle.std.proofs.lemmas.Int.{ints}
use Rattle.fix_interval.specs.Interval.{IsInterval}
use Rattle.fix_interval.specs.Units.{unit}
use Rattle.fix_interval.specs.Values.{div_of, quotient_of_ends}
use Rattle.fix_interval.proofs.Dividing.{least_by_positive, greatest_by_positive, units-not_negative, quotient_of_ends-positive, IsInterval-quotient_by_positive}
use Rattle.fix_interval.proofs.Ratios.{passed, unsigned_abs-units}
use Rattle.fix_interval.proofs.Rounding.{ceil_of-pos}
use Rattle.term_ground.proofs.ShortEnds.{floor-positive}

module _ (al ah bl bh : ℤ) (a : pos 0 ≤ℤ al) (ordered : al ≤ℤ ah) (high-fits : ah <ℤ pos (2 ^ 47)) (p : pos 0 <ℤ bl) (o : bl ≤ℤ bh) where
  low-small : unsigned_abs al < 2 ^ 94
  low-small = omega (arith, ints, a, ordered, high-fits)

  high-small : unsigned_abs ah < 2 ^ 94
  high-small = omega (arith, ints, a, ordered, high-fits)

  divisor : 0 < unsigned_abs bl
  divisor = omega (arith, ints, p)

  ends : (l h : ℕ) → l ≡ unsigned_abs al * 2 ^ 32 / unsigned_abs bh → h ≡ div_ceil (unsigned_abs ah * 2 ^ 32) (unsigned_abs bl)
      → quotient_of_ends al ah bl bh ≡ record { lo = Some (pos l); hi = Some (pos h) }
  ends l h low high =
      let above : pos 0 ≤ℤ ah = omega (arith, ints, a, ordered) in
      quotient_of_ends-positive al ah bl bh p o ordered low-small high-small
      ∙ rw (
        low,
        high,
        least_by_positive (al *ℤ pos unit) bl bh p o (units-not_negative al a),
        greatest_by_positive (ah *ℤ pos unit) bl bh p o (units-not_negative ah above),
        floor-positive (al *ℤ pos unit) (unsigned_abs bh) (units-not_negative al a),
        ceil_of-pos (ah *ℤ pos unit) (unsigned_abs bl) divisor (units-not_negative ah above),
        unsigned_abs-units al,
        unsigned_abs-units ah,
      )
      refl

  lengths-interval : (l h : ℕ) → l ≡ unsigned_abs al * 2 ^ 32 / unsigned_abs bh → h ≡ div_ceil (unsigned_abs ah * 2 ^ 32) (unsigned_abs bl)
      → IsInterval (record { lo = Some (pos l); hi = Some (pos h) })
  lengths-interval l h low high =
      subst IsInterval (ends l h low high) (IsInterval-quotient_by_positive al ah bl bh p o ordered low-small high-small)

  lengths-found : (l h : ℕ) → l ≡ unsigned_abs al * 2 ^ 32 / unsigned_abs bh → h ≡ div_ceil (unsigned_abs ah * 2 ^ 32) (unsigned_abs bl)
      → record { lo = Some (pos l); hi = Some (pos h) } ≡ div_of (record { lo = Some al; hi = Some ah }) (record { lo = Some bl; hi = Some bh })
  unfolding div_of
  lengths-found l h low high = sym (ends l h low high)

  -- as the code passes the ends
  module _ (l h : ℕ) (z w : ℤ) (zl : z ≡ pos l) (wh : w ≡ pos h) (low : l ≡ unsigned_abs al * 2 ^ 32 / unsigned_abs bh) (high : h ≡ div_ceil (unsigned_abs ah * 2 ^ 32) (unsigned_abs bl)) where
    pub passed-interval : IsInterval (record { lo = Some (to_z w128 (of_z w128 z)); hi = Some (to_z w128 (of_z w128 w)) })
    passed-interval =
        let is = lengths-interval l h low high in
        rw (zl, wh, passed (pos l) is.low_end, passed (pos h) is.high_end) is

    pub passed-found : record { lo = Some (to_z w128 (of_z w128 z)); hi = Some (to_z w128 (of_z w128 w)) } ≡ div_of (record { lo = Some al; hi = Some ah }) (record { lo = Some bl; hi = Some bh })
    passed-found =
        let is = lengths-interval l h low high in
        rw (zl, wh, passed (pos l) is.low_end, passed (pos h) is.high_end) (lengths-found l h low high)
