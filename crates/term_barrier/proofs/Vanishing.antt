-- K_met of long ways: it is less than the least end above 0.
use Rattle.std.proofs.Common.{◌≡◌, ℕ, zero, suc, ◌-◌, ◌*◌, ◌/◌, ◌<◌, ◌≤◌, ◌^◌, ℤ, pos, negsuc, ◌*ℤ◌, ◌≤ℤ◌, ◌<ℤ◌, unsigned_abs, Option, Some, None, true, false, refl, ap, subst, arith, lit<, min, ◌∙◌, to_z, of_z}
use Rattle.std.specs.Prelude.{int_lt}
use Rattle.std.specs.Int.{w128}
use Rattle.std.proofs.lemmas.Int.{ints}
use Rattle.std.proofs.lemmas.Nat.{mul-le}
use Rattle.std.proofs.lemmas.Grind.{div_ceil_times}
use Rattle.std.proofs.Math.Nat.{le-div_iff_mul-le}
use Rattle.fix_interval.specs.Units.{unit, unit-is}
use Rattle.fix_interval.specs.Interval.{Interval}
use Rattle.fix_interval.specs.Bounds.{IsBetween, AreBetween}
use Rattle.fix_interval.specs.Round.{floor_root, ceil_root, floor_of, ceil_of}
use Rattle.fix_interval.specs.Values.{ratio_of, max_of, mul_of, div_of, root_of, is_below_zero, less_of, pick_of}
use Rattle.fix_interval.specs.declared.truth.Truth.TheVariants.{Sure}
use Rattle.fix_interval.specs.Ranges.{LiesIn, from_to, constant, quotient, greater, quotient_range}
use Rattle.fix_interval.specs.Tree.{Known, Div, Max, enc}
use Rattle.fix_interval.specs.ExpNeg.{exp_neg_of}
use Rattle.fix_interval.proofs.Rooting.{floor_root-unique, floor_root-mono, floor_root-small, floor_root-le-ceil_root, ceil_root-le, high_root_is, root_of-roots}
use Rattle.fix_interval.proofs.Multiplying.{least_product-positive, greatest_product-positive, end_of-small}
use Rattle.fix_interval.proofs.Dividing.{quotient_of_ends-positive, least_by_positive, greatest_by_positive}
use Rattle.fix_interval.proofs.Rounding.{ceil_of-pos}
use Rattle.fix_interval.proofs.Ratios.{ratio_of-one, passed}
use Rattle.fix_interval.proofs.Spans.{unit-pos}
use Rattle.fix_interval.proofs.Ranging.{are_between, lies_in}
use Rattle.fix_interval.proofs.RangedProducts.{product-lies, quotient-lies}
use Rattle.fix_interval.proofs.RangedFormulas.{between, part-between}
use Rattle.enclose_exp.proofs.DecayInterval.{exp_neg_of-ends}
use Rattle.enclose_exp.proofs.DecayLaw.{exp_neg_low-past, exp_neg_high-past}
use Rattle.term_barrier.specs.Diffraction.{whole, k_met}
use Rattle.term_barrier.proofs.Reaching.{wider}

-- ---- the quotient, from whole metres

floor-whole : (n m : ℕ) → n ≡ m * 2 ^ 32 → floor_of (pos n) unit ≡ pos m
floor-whole n m e = rw unit-is (ap pos (omega (arith, e)))

ceil-whole : (n m : ℕ) → n ≡ m * 2 ^ 32 → ceil_of (pos n) unit ≡ pos m
ceil-whole n m e =
    let times = div_ceil_times n (2 ^ 32) (omega arith) in
    ceil_of-pos (pos n) unit unit-pos (omega (arith, ints)) ∙ rw unit-is (ap pos (omega (arith, e, times.0, times.1)))

naturals-range : (a b c d m n : ℕ) → a ≤ b → c ≤ d → b * d < 2 ^ 126 → a * c ≡ m * 2 ^ 32 → b * d ≡ n * 2 ^ 32
    → mul_of (from_to (pos a) (pos b)) (from_to (pos c) (pos d)) ≡ from_to (pos m) (pos n)
unfolding mul_of
naturals-range a b c d m n first second few low high =
    let least = least_product-positive (pos a) (pos b) (pos c) (pos d) (omega (arith, ints)) (omega (arith, ints, first)) (omega (arith, ints, second)) (omega (arith, ints)) in
    let greatest = greatest_product-positive (pos a) (pos b) (pos c) (pos d) (omega (arith, ints)) (omega (arith, ints, first)) (omega (arith, ints, second)) (omega (arith, ints)) in
    let small : a * c < 2 ^ 126 = omega (arith, few, mul-le a c b d first second) in
    rw (least, greatest, end_of-small (pos (a * c)) small, end_of-small (pos (b * d)) few, floor-whole (a * c) m low, ceil-whole (b * d) n high) refl

product-between : (a b c d m n : ℕ) (i k : Interval) → a ≤ b → c ≤ d → b * d < 2 ^ 126 → a * c ≡ m * 2 ^ 32 → b * d ≡ n * 2 ^ 32
    → AreBetween (pos a) (pos b) i → AreBetween (pos c) (pos d) k → AreBetween (pos m) (pos n) (mul_of i k)
product-between a b c d m n i k first second few low high h l =
    are_between _ _ _
    (subst (λ (range : Interval). LiesIn range (mul_of i k)) (naturals-range a b c d m n first second few low high)
    (product-lies _ _ i k (lies_in _ _ i h) (lies_in _ _ k l)))

-- the product of three distances
distances-between : (a b c : ℕ) (i j k : Interval) → a ≤ 2 ^ 14 → b ≤ 2 ^ 14 → c ≤ 2 ^ 14
    → AreBetween (pos (a * 2 ^ 32)) (pos (2 ^ 46)) i → AreBetween (pos (b * 2 ^ 32)) (pos (2 ^ 46)) j → AreBetween (pos (c * 2 ^ 32)) (pos (2 ^ 46)) k
    → AreBetween (pos (a * b * c * 2 ^ 32)) (pos (2 ^ 74)) (mul_of (mul_of i j) k)
distances-between a b c i j k first second third x y z =
    let few : a * b ≤ 2 ^ 28 = omega (arith, mul-le a b (2 ^ 14) (2 ^ 14) first second) in
    product-between (a * b * 2 ^ 32) (2 ^ 60) (c * 2 ^ 32) (2 ^ 46) (a * b * c * 2 ^ 32) (2 ^ 74) (mul_of i j) k
    (omega (arith, few)) (omega (arith, third)) (lit< tt) (omega arith) refl
    (product-between (a * 2 ^ 32) (2 ^ 46) (b * 2 ^ 32) (2 ^ 46) (a * b * 2 ^ 32) (2 ^ 60) i j (omega (arith, first)) (omega (arith, second)) (lit< tt) (omega arith) refl x y)
    z

two-between : AreBetween (pos (2 ^ 33)) (pos (2 ^ 33)) (ratio_of (pos 2) 1)
unfolding unit
two-between = rw (ratio_of-one (pos 2) (omega arith)) (record { lo = (omega (arith, ints), omega (arith, ints)); hi = (omega (arith, ints), omega (arith, ints)) })

twice-between : (n : ℕ) (i : Interval) → 2 ^ 11 ≤ n → n ≤ 2 ^ 42 → AreBetween (pos (2 ^ 11)) (pos n) i → AreBetween (pos (2 ^ 12)) (pos (2 * n)) (mul_of (ratio_of (pos 2) 1) i)
twice-between n i some few h =
    product-between (2 ^ 33) (2 ^ 33) (2 ^ 11) n (2 ^ 12) (2 * n) (ratio_of (pos 2) 1) i (omega arith) some (omega (arith, few)) refl (omega arith) two-between h

-- the least quotient is that of the least dividend and the greatest divisor
quotient-is : (m n : ℕ) → 2 ^ 12 ≤ n → m ≤ 2 ^ 74
    → quotient_range (from_to (pos m) (pos (2 ^ 74))) (from_to (pos (2 ^ 12)) (pos n)) ≡ from_to (floor_of (pos m *ℤ pos unit) n) (ceil_of (pos (2 ^ 74) *ℤ pos unit) (2 ^ 12))
unfolding quotient_range div_of
quotient-is m n some few =
    let divisor : pos 0 <ℤ pos (2 ^ 12) = omega (arith, ints) in
    let ordered : pos (2 ^ 12) ≤ℤ pos n = omega (arith, ints, some) in
    rw (
      quotient_of_ends-positive (pos m) (pos (2 ^ 74)) (pos (2 ^ 12)) (pos n) divisor ordered (omega (arith, ints, few)) (omega (arith, few)) (omega arith),
      least_by_positive (pos m *ℤ pos unit) (pos (2 ^ 12)) (pos n) divisor ordered (omega (arith, ints)),
      greatest_by_positive (pos (2 ^ 74) *ℤ pos unit) (pos (2 ^ 12)) (pos n) divisor ordered (omega (arith, ints)),
    )
    refl

most-is : ceil_of (pos (2 ^ 74) *ℤ pos unit) (2 ^ 12) ≡ pos (2 ^ 94)
unfolding unit
most-is = refl

quotient-between : (n : ℕ) (i k : Interval) → 2 ^ 11 ≤ n → n ≤ 2 ^ 42 → AreBetween (pos (n * 2 ^ 32)) (pos (2 ^ 74)) i → AreBetween (pos (2 ^ 12)) (pos (2 * n)) k
    → AreBetween (pos (46000 * 46000 * 2 ^ 32)) (pos (2 ^ 95 - 1)) (div_of i k)
quotient-between n i k some few h l =
    let least : 46000 * 46000 * 2 ^ 32 ≤ n * 2 ^ 32 * unit / (2 * n) = (le-div_iff_mul-le {k = 2 * n} (omega (arith, some))).1 (rw unit-is (omega arith)) in
    wider _ _ _ _ (div_of i k)
    (are_between _ _ _
    (subst (λ (range : Interval). LiesIn range (div_of i k)) (quotient-is (n * 2 ^ 32) (2 * n) (omega (arith, some)) (omega (arith, few)))
    (quotient-lies _ _ i k (lies_in _ _ i h) (lies_in _ _ k l))))
    (omega (arith, ints, least))
    (rw most-is (omega (arith, ints)))

-- ---- the root

root-from : (n : ℕ) → 46000 * 46000 * 2 ^ 32 ≤ n → 46000 * 2 ^ 32 ≤ floor_root (n * unit)
root-from n h =
    let side : ℕ = 46000 * 2 ^ 32 in
    let square : side * side ≤ n * unit = rw unit-is (omega (arith, h)) in
    omega (arith, floor_root-unique (side * side) side (omega arith) (omega arith), floor_root-mono (side * side) (n * unit) square)

root-within : (n : ℕ) → n < 2 ^ 95 → ceil_root (n * unit) ≤ 2 ^ 64
root-within n h =
    let small : n * unit < 2 ^ 128 = rw unit-is (omega (arith, h)) in
    omega (arith, ceil_root-le (n * unit), floor_root-small (n * unit) small)

roots : (a b : ℕ) → a < 2 ^ 95 → b < 2 ^ 95
    → root_of (record { lo = Some (pos a); hi = Some (pos b) }) ≡ record { lo = Some (pos (floor_root (a * unit))); hi = Some (pos (ceil_root (b * unit))) }
roots a b low high =
    let kept : min a (2 ^ 95 - 1) ≡ a = omega (arith, low) in
    let natural : is_below_zero (Some (pos b)) ≡ false = grind (arith, ints) in
    rw (root_of-roots (record { lo = Some (pos a); hi = Some (pos b) }) natural, high_root_is b high, kept) refl

root-between : (i : Interval) → AreBetween (pos (46000 * 46000 * 2 ^ 32)) (pos (2 ^ 95 - 1)) i → AreBetween (pos (46000 * 2 ^ 32)) (pos (2 ^ 64)) (root_of i)
root-between i h = by_ends i.lo i.hi h.lo h.hi where
  by_ends : (lo hi : Option ℤ) → IsBetween (pos (46000 * 46000 * 2 ^ 32)) (pos (2 ^ 95 - 1)) lo → IsBetween (pos (46000 * 46000 * 2 ^ 32)) (pos (2 ^ 95 - 1)) hi
      → AreBetween (pos (46000 * 2 ^ 32)) (pos (2 ^ 64)) (root_of (record { lo = lo; hi = hi }))
  by_ends None hi l g = absurd l
  by_ends (Some x) None l g = absurd g
  by_ends (Some (negsuc a)) (Some y) l g = absurd (omega (arith, ints, l.0))
  by_ends (Some (pos a)) (Some (negsuc b)) l g = absurd (omega (arith, ints, g.0))
  by_ends (Some (pos a)) (Some (pos b)) l g =
      let small : a < 2 ^ 95 = omega (arith, ints, l.1) in
      let small' : b < 2 ^ 95 = omega (arith, ints, g.1) in
      let low = root-from a (omega (arith, ints, l.0)) in
      let low' = root-from b (omega (arith, ints, g.0)) in
      let high = root-within a small in
      let high' = root-within b small' in
      rw (roots a b small small')
      (record {
        lo = (omega (arith, ints, low), omega (arith, ints, high, floor_root-le-ceil_root (a * unit)));
        hi = (omega (arith, ints, low', floor_root-le-ceil_root (b * unit)), omega (arith, ints, high'));
      })

-- ---- the exponent

exponent-between : (root : Interval) → AreBetween (pos (46000 * 2 ^ 32)) (pos (2 ^ 64)) root
    → AreBetween (pos (23 * 2 ^ 32)) (pos (2 ^ 64)) (enc (Max (whole 0) (Div (Known root) (whole 2000))))
unfolding unit ratio_of max_of div_of quotient_range
exponent-between root h =
    between _ _ {t = Max (whole 0) (Div (Known root) (whole 2000))}
    (greater (constant (lit< tt)) (quotient (part-between _ _ {t = Known root} h) (constant (lit< tt)))) refl

past : (i : Interval) → AreBetween (pos (23 * 2 ^ 32)) (pos (2 ^ 64)) i → exp_neg_of i ≡ record { lo = Some (pos 0); hi = Some (pos 1) }
past i h = by_ends i.lo i.hi h.lo h.hi where
  by_ends : (lo hi : Option ℤ) → IsBetween (pos (23 * 2 ^ 32)) (pos (2 ^ 64)) lo → IsBetween (pos (23 * 2 ^ 32)) (pos (2 ^ 64)) hi
      → exp_neg_of (record { lo = lo; hi = hi }) ≡ record { lo = Some (pos 0); hi = Some (pos 1) }
  by_ends None hi l g = absurd l
  by_ends (Some x) None l g = absurd g
  by_ends (Some x) (Some y) l g =
      rw (
        exp_neg_of-ends (Some x) (Some y) (omega (arith, ints, l.0)),
        exp_neg_low-past (unsigned_abs y) (omega (arith, ints, g.0)),
        exp_neg_high-past (unsigned_abs x) (omega (arith, ints, l.0)),
      )
      refl

-- ---- K_met

longer-sure : (n : ℕ) (z : Interval) → AreBetween (pos (2 ^ 11)) (pos n) z → less_of (enc (whole 0)) z ≡ Sure
unfolding less_of
longer-sure n z h = by_end z.lo h.lo where
  by_end : (lo : Option ℤ) → IsBetween (pos (2 ^ 11)) (pos n) lo → less_of (enc (whole 0)) (record { lo = lo; hi = z.hi }) ≡ Sure
  by_end None l = absurd l
  by_end (Some x) l =
      let before : int_lt (pos 0 *ℤ pos unit) x ≡ true = (let above = l.0 in grind (arith, ints)) in
      rw (ratio_of-one (pos 0) (omega arith), before) refl

product-small : (a b c : ℕ) → a ≤ 2 ^ 14 → b ≤ 2 ^ 14 → c ≤ 2 ^ 14 → a * b * c ≤ 2 ^ 42
product-small a b c first second third =
    let two : a * b ≤ 2 ^ 28 = omega (arith, mul-le a b (2 ^ 14) (2 ^ 14) first second) in
    omega (arith, mul-le (a * b) c (2 ^ 28) (2 ^ 14) two third)

-- the quotient is at least 46000², so that the root is at least 46000 and the exponent at least 23
vanishing : (a b c : ℕ) (d_ss d_sr d z : Interval) → a ≤ 2 ^ 14 → b ≤ 2 ^ 14 → c ≤ 2 ^ 14
    → AreBetween (pos (a * 2 ^ 32)) (pos (2 ^ 46)) d_ss → AreBetween (pos (b * 2 ^ 32)) (pos (2 ^ 46)) d_sr → AreBetween (pos (c * 2 ^ 32)) (pos (2 ^ 46)) d
    → 2 ^ 11 ≤ a * b * c → AreBetween (pos (2 ^ 11)) (pos (a * b * c)) z
    → enc (k_met (Known d_ss) (Known d_sr) (Known d) (Known z)) ≡ record { lo = Some (pos 0); hi = Some (pos 1) }
unfolding k_met pick_of
vanishing a b c d_ss d_sr d z first second third x y w some h =
    let few = product-small a b c first second third in
    let product = distances-between a b c d_ss d_sr d first second third x y w in
    let quotient = quotient-between (a * b * c) _ _ some few product (twice-between (a * b * c) z some few h) in
    rw (longer-sure (a * b * c) z h) (past _ (exponent-between _ (root-between _ quotient)))

-- there is a z only where there are metres
some-metres : (n : ℕ) (z : Interval) → AreBetween (pos (2 ^ 11)) (pos n) z → 2 ^ 11 ≤ n
some-metres n z h = by_end z.lo h.lo where
  by_end : (lo : Option ℤ) → IsBetween (pos (2 ^ 11)) (pos n) lo → 2 ^ 11 ≤ n
  by_end None l = absurd l
  by_end (Some x) l = omega (arith, ints, l.0, l.1)

pub k_met-vanishes : (a b c : ℕ) (most : ℤ) (d_ss d_sr d z : Interval) → a ≤ 2 ^ 14 → b ≤ 2 ^ 14 → c ≤ 2 ^ 14
    → (0 < a → AreBetween (pos (a * 2 ^ 32)) (pos (2 ^ 46)) d_ss) → (0 < b → AreBetween (pos (b * 2 ^ 32)) (pos (2 ^ 46)) d_sr)
    → (0 < c → AreBetween (pos (c * 2 ^ 32)) (pos (2 ^ 46)) d) → most ≡ pos (a * b * c) → AreBetween (pos (2 ^ 11)) (to_z w128 (of_z w128 most)) z
    → enc (k_met (Known d_ss) (Known d_sr) (Known d) (Known z)) ≡ record { lo = Some (pos 0); hi = Some (pos 1) }
k_met-vanishes a b c most d_ss d_sr d z first second third x y w e h =
    let few = product-small a b c first second third in
    let is : AreBetween (pos (2 ^ 11)) (pos (a * b * c)) z = rw (e, passed (pos (a * b * c)) (omega (arith, few))) at h in
    let some = some-metres (a * b * c) z is in
    by_factors a b c first second third x y w some is
  where
    by_factors : (a b c : ℕ) → a ≤ 2 ^ 14 → b ≤ 2 ^ 14 → c ≤ 2 ^ 14
        → (0 < a → AreBetween (pos (a * 2 ^ 32)) (pos (2 ^ 46)) d_ss) → (0 < b → AreBetween (pos (b * 2 ^ 32)) (pos (2 ^ 46)) d_sr)
        → (0 < c → AreBetween (pos (c * 2 ^ 32)) (pos (2 ^ 46)) d) → 2 ^ 11 ≤ a * b * c → AreBetween (pos (2 ^ 11)) (pos (a * b * c)) z
        → enc (k_met (Known d_ss) (Known d_sr) (Known d) (Known z)) ≡ record { lo = Some (pos 0); hi = Some (pos 1) }
    by_factors zero b c first second third x y w some is = absurd (omega (arith, some))
    by_factors (suc a) zero c first second third x y w some is = absurd (omega (arith, some))
    by_factors (suc a) (suc b) zero first second third x y w some is = absurd (omega (arith, some))
    by_factors (suc a) (suc b) (suc c) first second third x y w some is =
        vanishing (suc a) (suc b) (suc c) d_ss d_sr d z first second third (x (omega arith)) (y (omega arith)) (w (omega arith)) some is
