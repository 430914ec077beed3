-- Quantities whose ends are kept in 64 bits are those of the table of enclosures.
use Rattle.std.proofs.Common.{◌≡◌, ◌∙◌, ℕ, ◌+◌, ◌*◌, ◌/◌, ◌%◌, ◌<◌, ◌≤◌, ◌^◌, ℤ, pos, negsuc, neg_ℤ, ◌+ℤ◌, ◌-ℤ◌, ◌*ℤ◌, ◌≤ℤ◌, ◌<ℤ◌, to_z, of_z, refl, sym, ap, subst, arith}
use Rattle.std.specs.Prelude.{Option, Some, None, unsigned_abs}
use Rattle.std.specs.Int.{w64, w128, div_ceil, int_min, int_max}
use Rattle.std.proofs.lemmas.Int.{ints, clamps}
use Rattle.std.proofs.Math.Nat.{zero-div}
use Rattle.std.proofs.lemmas.Nat.{div-add-mod'}
use Rattle.fix_interval.specs.Interval.{Interval, IsInterval, IsEnd}
use Rattle.fix_interval.specs.Units.{unit, unit-is}
use Rattle.fix_interval.specs.Round.{floor_of, ceil_of, floor_quotient, ceil_quotient}
use Rattle.fix_interval.specs.Values.{ratio_of, sum_of_ends, add_of, neg_of, sub_of, mul_of, div_of, max_of, min_of, quotient_of_ends}
use Rattle.fix_interval.proofs.Dividing.{least_by_positive, least_by_positive_negative, greatest_by_positive, greatest_by_positive_negative, units-not_negative, units-negative, quotient_of_ends-positive, quotient_of_ends-negative, IsInterval-quotient_by_positive}
use Rattle.fix_interval.proofs.Multiplying.{end_of-small}
use Rattle.fix_interval.proofs.Ratios.{passed, ratio_of-small, unsigned_abs-units}
use Rattle.fix_interval.proofs.WholeFactors.{within-64}
use Rattle.fix_interval.proofs.Rounding.{ceil_of-pos, floor_of-negative, unsigned_abs-floor_of, unsigned_abs-ceil_of, div_ceil_zero, div-parts}
use Rattle.term_ground.specs.inner.Extents.{part_at, no_length}

-- ---- what lies before a place

pub beyond-small : (p e s r : ℤ) → unsigned_abs p < 2 ^ 62 → unsigned_abs e < 2 ^ 62 → unsigned_abs s < 2 ^ 62 → r ≡ int_max (pos 0) (int_min p e +ℤ neg_ℤ s)
    → (pos 0 ≤ℤ r) × (unsigned_abs r < 2 ^ 63) × (unsigned_abs (int_min p e +ℤ neg_ℤ s) < 2 ^ 63)
beyond-small p e s r h k l is =
    (omega (arith, ints, clamps, is), omega (arith, ints, clamps, is, h, k, l), omega (arith, ints, clamps, h, k, l))

pub beyond-ordered : (p p' e e' s s' r r' : ℤ) → p ≤ℤ p' → e ≤ℤ e' → s' ≤ℤ s → r ≡ int_max (pos 0) (int_min p e +ℤ neg_ℤ s) → r' ≡ int_max (pos 0) (int_min p' e' +ℤ neg_ℤ s') → r ≤ℤ r'
beyond-ordered p p' e e' s s' r r' h k l is is' = omega (arith, ints, clamps, is, is', h, k, l)

module _ (pl ph fl fh tl th l h : ℤ) (pl_end : unsigned_abs pl < 2 ^ 62) (ph_end : unsigned_abs ph < 2 ^ 62) (fl_end : unsigned_abs fl < 2 ^ 62) (fh_end : unsigned_abs fh < 2 ^ 62) (tl_end : unsigned_abs tl < 2 ^ 62) (th_end : unsigned_abs th < 2 ^ 62)
    (p : pl ≤ℤ ph) (f : fl ≤ℤ fh) (t : tl ≤ℤ th) (low : l ≡ int_max (pos 0) (int_min pl tl +ℤ neg_ℤ fh)) (high : h ≡ int_max (pos 0) (int_min ph th +ℤ neg_ℤ fl)) where
  pub part-interval : IsInterval (record { lo = Some l; hi = Some h })
  part-interval = record {
    low_end = omega (arith, (beyond-small pl tl fh l pl_end tl_end fh_end low).1);
    high_end = omega (arith, (beyond-small ph th fl h ph_end th_end fl_end high).1);
    ordered = beyond-ordered pl ph tl th fh fl l h p t f low high;
  }

  pub part-is : record { lo = Some l; hi = Some h } ≡ part_at (record { lo = Some pl; hi = Some ph }) (record { lo = Some fl; hi = Some fh }) (record { lo = Some tl; hi = Some th })
  unfolding max_of min_of add_of neg_of ratio_of unit
  part-is =
      rw (
        low,
        high,
        end_of-small (int_min pl tl +ℤ neg_ℤ fh) (omega (arith, (beyond-small pl tl fh l pl_end tl_end fh_end low).2)),
        end_of-small (int_min ph th +ℤ neg_ℤ fl) (omega (arith, (beyond-small ph th fl h ph_end th_end fl_end high).2)),
      )
      refl

-- as the code passes the ends
pub beyond-passed : (p e s r : ℤ) → unsigned_abs p < 2 ^ 62 → unsigned_abs e < 2 ^ 62 → unsigned_abs s < 2 ^ 62
    → r ≡ int_max (pos 0) (int_min (to_z w64 (of_z w64 p)) (to_z w64 (of_z w64 e)) +ℤ neg_ℤ (to_z w64 (of_z w64 s))) → r ≡ int_max (pos 0) (int_min p e +ℤ neg_ℤ s)
beyond-passed p e s r h k l is =
    rw (within-64 p (omega (arith, h)), within-64 e (omega (arith, k)), within-64 s (omega (arith, l))) at is

pub end-passed : (z e : ℤ) → unsigned_abs z < 2 ^ 63 → e ≡ to_z w64 (of_z w64 z) → to_z w128 (of_z w128 e) ≡ z
end-passed z e h is = rw (is, within-64 z h, passed z (omega (arith, h)))

-- ---- sums

sum-short : (al ah bl bh : ℤ) → unsigned_abs al < 2 ^ 62 → unsigned_abs ah < 2 ^ 62 → unsigned_abs bl < 2 ^ 62 → unsigned_abs bh < 2 ^ 62
    → record { lo = Some (al +ℤ bl); hi = Some (ah +ℤ bh) } ≡ add_of (record { lo = Some al; hi = Some ah }) (record { lo = Some bl; hi = Some bh })
unfolding add_of
sum-short al ah bl bh h k l m =
    rw (end_of-small (al +ℤ bl) (omega (arith, ints, h, l)), end_of-small (ah +ℤ bh) (omega (arith, ints, k, m))) refl

rest-short : (al ah bl bh : ℤ) → unsigned_abs al < 2 ^ 62 → unsigned_abs ah < 2 ^ 62 → unsigned_abs bl < 2 ^ 62 → unsigned_abs bh < 2 ^ 62
    → record { lo = Some (al -ℤ bh); hi = Some (ah -ℤ bl) } ≡ sub_of (record { lo = Some al; hi = Some ah }) (record { lo = Some bl; hi = Some bh })
unfolding add_of neg_of
rest-short al ah bl bh h k l m =
    let low : al -ℤ bh ≡ al +ℤ neg_ℤ bh = omega (arith, ints) in
    let high : ah -ℤ bl ≡ ah +ℤ neg_ℤ bl = omega (arith, ints) in
    rw (
      low,
      high,
      end_of-small (al +ℤ neg_ℤ bh) (omega (arith, ints, h, m)),
      end_of-small (ah +ℤ neg_ℤ bl) (omega (arith, ints, k, l)),
    )
    refl

-- as the code passes the ends
pub sum-passed : (al ah bl bh : ℤ) → unsigned_abs al < 2 ^ 62 → unsigned_abs ah < 2 ^ 62 → unsigned_abs bl < 2 ^ 62 → unsigned_abs bh < 2 ^ 62
    → record {
      lo = Some (to_z w64 (of_z w64 (to_z w64 (of_z w64 al) +ℤ to_z w64 (of_z w64 bl))));
      hi = Some (to_z w64 (of_z w64 (to_z w64 (of_z w64 ah) +ℤ to_z w64 (of_z w64 bh))));
    } ≡ add_of (record { lo = Some al; hi = Some ah }) (record { lo = Some bl; hi = Some bh })
sum-passed al ah bl bh h k l m =
    rw (
      within-64 al (omega (arith, h)),
      within-64 ah (omega (arith, k)),
      within-64 bl (omega (arith, l)),
      within-64 bh (omega (arith, m)),
      within-64 (al +ℤ bl) (omega (arith, ints, h, l)),
      within-64 (ah +ℤ bh) (omega (arith, ints, k, m)),
    )
    (sum-short al ah bl bh h k l m)

pub rest-passed : (al ah bl bh : ℤ) → unsigned_abs al < 2 ^ 62 → unsigned_abs ah < 2 ^ 62 → unsigned_abs bl < 2 ^ 62 → unsigned_abs bh < 2 ^ 62
    → record {
      lo = Some (to_z w64 (of_z w64 (to_z w64 (of_z w64 al) -ℤ to_z w64 (of_z w64 bh))));
      hi = Some (to_z w64 (of_z w64 (to_z w64 (of_z w64 ah) -ℤ to_z w64 (of_z w64 bl))));
    } ≡ sub_of (record { lo = Some al; hi = Some ah }) (record { lo = Some bl; hi = Some bh })
rest-passed al ah bl bh h k l m =
    rw (
      within-64 al (omega (arith, h)),
      within-64 ah (omega (arith, k)),
      within-64 bl (omega (arith, l)),
      within-64 bh (omega (arith, m)),
      within-64 (al -ℤ bh) (omega (arith, ints, h, m)),
      within-64 (ah -ℤ bl) (omega (arith, ints, k, l)),
    )
    (rest-short al ah bl bh h k l m)

-- ---- parts

pub part-within : (p e s r : ℤ) → e ≤ℤ pos (2 ^ 32) → pos 0 ≤ℤ s → r ≡ int_max (pos 0) (int_min p e +ℤ neg_ℤ s) → (pos 0 ≤ℤ r) × (r ≤ℤ pos (2 ^ 32))
part-within p e s r h k is = (omega (arith, ints, clamps, is, h, k), omega (arith, ints, clamps, is, h, k))

pub within-short : (r : ℤ) → (pos 0 ≤ℤ r) × (r ≤ℤ pos (2 ^ 32)) → unsigned_abs r < 2 ^ 62
within-short r (h, k) = omega (arith, ints, h, k)

pub within-passed : (r : ℤ) → (pos 0 ≤ℤ r) × (r ≤ℤ pos (2 ^ 32)) → to_z w64 (of_z w64 r) ≡ r
within-passed r (h, k) = within-64 r (omega (arith, ints, h, k))

-- ---- quotients

pub least-passed : (u bl bh r : ℤ) → unsigned_abs u < 2 ^ 32 → r ≡ int_min (floor_quotient (to_z w64 (of_z w64 u) *ℤ pos unit) bl) (floor_quotient (to_z w64 (of_z w64 u) *ℤ pos unit) bh)
    → r ≡ int_min (floor_quotient (u *ℤ pos unit) bl) (floor_quotient (u *ℤ pos unit) bh)
least-passed u bl bh r h is = rw (within-64 u (omega (arith, h))) at is

pub greatest-passed : (u bl bh r : ℤ) → unsigned_abs u < 2 ^ 32 → r ≡ int_max (ceil_quotient (to_z w64 (of_z w64 u) *ℤ pos unit) bl) (ceil_quotient (to_z w64 (of_z w64 u) *ℤ pos unit) bh)
    → r ≡ int_max (ceil_quotient (u *ℤ pos unit) bl) (ceil_quotient (u *ℤ pos unit) bh)
greatest-passed u bl bh r h is = rw (within-64 u (omega (arith, h))) at is

pub floor-positive : (x : ℤ) (d : ℕ) → pos 0 ≤ℤ x → floor_of x d ≡ pos (unsigned_abs x / d)
floor-positive (pos a) d h = refl
floor-positive (negsuc a) d h = absurd (omega (arith, ints))

ceil-negative : (x : ℤ) (d : ℕ) → x <ℤ pos 0 → ceil_of x d ≡ neg_ℤ (pos (unsigned_abs x / d))
ceil-negative (negsuc a) d h = refl
ceil-negative (pos a) d h = absurd (omega (arith, ints))

small-down : (a d : ℕ) → 0 < d → a < 2 ^ 64 → a / d < 2 ^ 126
small-down a d h k = omega (arith, unsigned_abs-floor_of (pos a) d h)

small-up : (a d : ℕ) → 0 < d → a < 2 ^ 64 → div_ceil a d < 2 ^ 126
small-up a d h k =
    omega (arith, ap unsigned_abs (ceil_of-pos (pos a) d h (omega (arith, ints))), unsigned_abs-ceil_of (pos a) d h)

turned : (n : ℕ) → n < 2 ^ 126 → to_z w128 (of_z w128 (pos 0 -ℤ to_z w128 (of_z w128 (pos n)))) ≡ neg_ℤ (pos n)
turned n h =
    let same : pos 0 -ℤ pos n ≡ neg_ℤ (pos n) = omega (arith, ints) in
    rw (passed (pos n) h, same, passed (neg_ℤ (pos n)) (omega (arith, ints, h)))

module _ (u bl bh q : ℤ) (p : pos 0 <ℤ bl) (o : bl ≤ℤ bh) (small : unsigned_abs u < 2 ^ 32) where
  low-divisor : 0 < unsigned_abs bl
  low-divisor = omega (arith, ints)

  high-divisor : 0 < unsigned_abs bh
  high-divisor = omega (arith, ints)

  pub least-positive : pos 0 ≤ℤ u → q ≡ pos (unsigned_abs u * 2 ^ 32 / unsigned_abs bh)
      → to_z w128 (of_z w128 q) ≡ int_min (floor_quotient (u *ℤ pos unit) bl) (floor_quotient (u *ℤ pos unit) bh)
  least-positive h is =
      rw (
        is,
        passed (pos (unsigned_abs u * 2 ^ 32 / unsigned_abs bh)) (small-down (unsigned_abs u * 2 ^ 32) (unsigned_abs bh) high-divisor (omega (arith, small))),
        least_by_positive (u *ℤ pos unit) bl bh p o (units-not_negative u h),
        floor-positive (u *ℤ pos unit) (unsigned_abs bh) (units-not_negative u h),
        unsigned_abs-units u,
      )
      refl

  pub least-negative : u <ℤ pos 0 → q ≡ pos (div_ceil (unsigned_abs u * 2 ^ 32) (unsigned_abs bl))
      → to_z w128 (of_z w128 (pos 0 -ℤ to_z w128 (of_z w128 q))) ≡ int_min (floor_quotient (u *ℤ pos unit) bl) (floor_quotient (u *ℤ pos unit) bh)
  least-negative h is =
      rw (
        is,
        turned (div_ceil (unsigned_abs u * 2 ^ 32) (unsigned_abs bl)) (small-up (unsigned_abs u * 2 ^ 32) (unsigned_abs bl) low-divisor (omega (arith, small))),
        least_by_positive_negative (u *ℤ pos unit) bl bh p o (units-negative u h),
        floor_of-negative (u *ℤ pos unit) (unsigned_abs bl) low-divisor (units-negative u h),
        unsigned_abs-units u,
      )
      refl

  pub greatest-positive : pos 0 ≤ℤ u → q ≡ pos (div_ceil (unsigned_abs u * 2 ^ 32) (unsigned_abs bl))
      → to_z w128 (of_z w128 q) ≡ int_max (ceil_quotient (u *ℤ pos unit) bl) (ceil_quotient (u *ℤ pos unit) bh)
  greatest-positive h is =
      rw (
        is,
        passed (pos (div_ceil (unsigned_abs u * 2 ^ 32) (unsigned_abs bl))) (small-up (unsigned_abs u * 2 ^ 32) (unsigned_abs bl) low-divisor (omega (arith, small))),
        greatest_by_positive (u *ℤ pos unit) bl bh p o (units-not_negative u h),
        ceil_of-pos (u *ℤ pos unit) (unsigned_abs bl) low-divisor (units-not_negative u h),
        unsigned_abs-units u,
      )
      refl

  pub greatest-negative : u <ℤ pos 0 → q ≡ pos (unsigned_abs u * 2 ^ 32 / unsigned_abs bh)
      → to_z w128 (of_z w128 (pos 0 -ℤ to_z w128 (of_z w128 q))) ≡ int_max (ceil_quotient (u *ℤ pos unit) bl) (ceil_quotient (u *ℤ pos unit) bh)
  greatest-negative h is =
      rw (
        is,
        turned (unsigned_abs u * 2 ^ 32 / unsigned_abs bh) (small-down (unsigned_abs u * 2 ^ 32) (unsigned_abs bh) high-divisor (omega (arith, small))),
        greatest_by_positive_negative (u *ℤ pos unit) bl bh p o (units-negative u h),
        ceil-negative (u *ℤ pos unit) (unsigned_abs bh) (units-negative u h),
        unsigned_abs-units u,
      )
      refl

-- both ends
module _ (al ah bl bh l g : ℤ) (p : pos 0 <ℤ bl) (o : bl ≤ℤ bh) (a : al ≤ℤ ah) (low-small : unsigned_abs al < 2 ^ 32) (high-small : unsigned_abs ah < 2 ^ 32)
    (low : l ≡ int_min (floor_quotient (al *ℤ pos unit) bl) (floor_quotient (al *ℤ pos unit) bh)) (high : g ≡ int_max (ceil_quotient (ah *ℤ pos unit) bl) (ceil_quotient (ah *ℤ pos unit) bh)) where
  least-dividend : unsigned_abs al < 2 ^ 94
  least-dividend = omega (arith, low-small)

  greatest-dividend : unsigned_abs ah < 2 ^ 94
  greatest-dividend = omega (arith, high-small)

  same-ends : quotient_of_ends al ah bl bh ≡ record { lo = Some l; hi = Some g }
  same-ends = rw (low, high) (quotient_of_ends-positive al ah bl bh p o a least-dividend greatest-dividend)

  ends-fit : IsInterval (record { lo = Some l; hi = Some g })
  ends-fit = subst IsInterval same-ends (IsInterval-quotient_by_positive al ah bl bh p o a least-dividend greatest-dividend)

  pub quotient-found : record { lo = Some (to_z w128 (of_z w128 l)); hi = Some (to_z w128 (of_z w128 g)) } ≡ quotient_of_ends al ah bl bh
  quotient-found = rw (passed l ends-fit.low_end, passed g ends-fit.high_end) (sym same-ends)

  pub quotient-interval : IsInterval (record { lo = Some (to_z w128 (of_z w128 l)); hi = Some (to_z w128 (of_z w128 g)) })
  quotient-interval = rw (passed l ends-fit.low_end, passed g ends-fit.high_end) ends-fit

-- ---- no length

no-product : (z : ℤ) → z *ℤ pos 0 ≡ pos 0
no-product z = omega (arith, ints)

nothing-over : (wl wh : ℤ) → pos 0 <ℤ wl → wl ≤ℤ wh → quotient_of_ends (pos 0) (pos 0) wl wh ≡ no_length
nothing-over wl wh p o =
    let none : pos 0 ≤ℤ (pos 0 *ℤ pos unit) = units-not_negative (pos 0) (omega (arith, ints)) in
    let low : 0 < unsigned_abs wl = omega (arith, ints) in
    rw (
      quotient_of_ends-positive (pos 0) (pos 0) wl wh p o (omega (arith, ints)) (omega arith) (omega arith),
      least_by_positive (pos 0 *ℤ pos unit) wl wh p o none,
      greatest_by_positive (pos 0 *ℤ pos unit) wl wh p o none,
      floor-positive (pos 0 *ℤ pos unit) (unsigned_abs wh) none,
      ceil_of-pos (pos 0 *ℤ pos unit) (unsigned_abs wl) low none,
      unsigned_abs-units (pos 0),
      zero-div (unsigned_abs wh),
      div_ceil_zero (unsigned_abs wl) low,
    )
    refl

nothing-under : (wl wh : ℤ) → wh <ℤ pos 0 → wl ≤ℤ wh → quotient_of_ends (pos 0) (pos 0) wl wh ≡ no_length
nothing-under wl wh n o =
    quotient_of_ends-negative (pos 0) (pos 0) wl wh n o (omega arith) (omega arith)
    ∙ nothing-over (neg_ℤ wh) (neg_ℤ wl) (omega (arith, ints, n)) (omega (arith, ints, o))

module _ (dl dh wl wh : ℤ) where
  pub nothing-above : pos 0 <ℤ wl → wl ≤ℤ wh
      → div_of (mul_of (record { lo = Some dl; hi = Some dh }) no_length) (record { lo = Some wl; hi = Some wh }) ≡ no_length
  unfolding mul_of div_of unit
  nothing-above p o = rw (no-product dl, no-product dh) (nothing-over wl wh p o)

  pub nothing-below : wh <ℤ pos 0 → wl ≤ℤ wh
      → div_of (mul_of (record { lo = Some dl; hi = Some dh }) no_length) (record { lo = Some wl; hi = Some wh }) ≡ no_length
  unfolding mul_of div_of unit
  nothing-below n o = rw (no-product dl, no-product dh) (nothing-under wl wh n o)

pub ends-interval : (lo hi : ℤ) → unsigned_abs lo < 2 ^ 62 → unsigned_abs hi < 2 ^ 62 → lo ≤ℤ hi → IsInterval (record { lo = Some lo; hi = Some hi })
ends-interval lo hi h k o = record { low_end = omega (arith, h); high_end = omega (arith, k); ordered = o }

pub sum-kept : (i : Interval) → IsInterval i → add_of i no_length ≡ i
unfolding add_of
sum-kept i is = both i.lo i.hi is.low_end is.high_end where
  same : (z : ℤ) → z +ℤ pos 0 ≡ z
  same z = omega (arith, ints)

  kept : (end : Option ℤ) → IsEnd end → sum_of_ends end (Some (pos 0)) ≡ end
  kept None h = refl
  kept (Some z) h = rw (same z, end_of-small z h) refl

  both : (lo hi : Option ℤ) → IsEnd lo → IsEnd hi → add_of (record { lo = lo; hi = hi }) no_length ≡ record { lo = lo; hi = hi }
  both lo hi l h = rw (kept lo l, kept hi h) refl

-- ---- places

module _ (n d : ℕ) (positive : 0 < d) where
  abbrev first : ℕ
  first = n * 65536

  abbrev second : ℕ
  second = first % d * 65536

  pub place-down : first / d * 65536 + second / d ≡ n * 2 ^ 32 / d
  place-down =
      let whole : n * 2 ^ 32 / 65536 ≡ n * 65536 = omega arith in
      let none : n * 2 ^ 32 % 65536 ≡ 0 = omega arith in
      let parts : n * 2 ^ 32 / 65536 / d * 65536 + (n * 2 ^ 32 / 65536 % d * 65536 + n * 2 ^ 32 % 65536) / d ≡ n * 2 ^ 32 / d = div-parts (n * 2 ^ 32) d 65536 positive (omega arith) in
      let with-whole = subst (λ (m : ℕ). m / d * 65536 + (m % d * 65536 + n * 2 ^ 32 % 65536) / d ≡ n * 2 ^ 32 / d) whole parts in
      let with-none = subst (λ (m : ℕ). first / d * 65536 + (first % d * 65536 + m) / d ≡ n * 2 ^ 32 / d) none with-whole in
      subst (λ (m : ℕ). first / d * 65536 + m / d ≡ n * 2 ^ 32 / d) (omega arith) with-none

  pub place-rest : second % d ≡ n * 2 ^ 32 % d
  place-rest =
      let all : n * 2 ^ 32 / d * d + n * 2 ^ 32 % d ≡ n * 2 ^ 32 = div-add-mod' (n * 2 ^ 32) d in
      let found = subst (λ (q : ℕ). q * d + n * 2 ^ 32 % d ≡ n * 2 ^ 32) (sym place-down) all in
      omega (arith, found, div-add-mod' first d, div-add-mod' second d)

  pub place-up-exact : second % d ≡ 0 → div_ceil (n * 2 ^ 32) d ≡ first / d * 65536 + second / d
  place-up-exact h = omega (arith, place-rest, place-down, h)

  pub place-up : 0 < second % d → div_ceil (n * 2 ^ 32) d ≡ first / d * 65536 + second / d + 1
  place-up h = omega (arith, place-rest, place-down, h)

  pub place-up-any : first / d * 65536 + div_ceil second d ≡ div_ceil (n * 2 ^ 32) d
  place-up-any = omega (arith, place-rest, place-down, positive)

place-found : (n d down up : ℕ) → n < d → d < 2 ^ 48 → down ≡ n * 2 ^ 32 / d → up ≡ div_ceil (n * 2 ^ 32) d
    → record { lo = Some (pos down); hi = Some (pos up) } ≡ ratio_of (pos n) d
place-found n d down up before short low high =
    rw (
      low,
      high,
      ratio_of-small (pos n) d (omega (arith, before, short)),
      unit-is,
      ceil_of-pos (pos (n * 2 ^ 32)) d (omega (arith, before)) (omega (arith, ints)),
    )
    refl

unsigned-passed : (n : ℕ) → n ≤ 2 ^ 32 → to_z w64 n ≡ pos n
unsigned-passed n h = omega (arith, ints, h)

pub place-passed : (n d down up : ℕ) → n < d → d < 2 ^ 48 → down ≡ n * 2 ^ 32 / d → up ≡ div_ceil (n * 2 ^ 32) d → down ≤ up → up ≤ 2 ^ 32
    → record { lo = Some (to_z w64 down); hi = Some (to_z w64 up) } ≡ ratio_of (pos n) d
place-passed n d down up before short low high ordered small =
    rw (unsigned-passed down (omega (arith, ordered, small)), unsigned-passed up small)
    (place-found n d down up before short low high)
