-- The values of the table enclose what they are taken of, node by node.
use Rattle.std.proofs.Common.{◌≡◌, ℕ, zero, suc, ◌*◌, ◌<◌, ◌≤◌, ◌^◌, ℤ, pos, negsuc, ◌+ℤ◌, ◌*ℤ◌, neg_ℤ, ◌≤ℤ◌, ◌<ℤ◌, arith, refl, inl, inr, true, false}
use Rattle.std.specs.Prelude.{unsigned_abs, Option, Some, None, IfSome, ◌⊎◌, unwrap_or, Bool, int_lt, int_le, nat_lt, if◌then◌else◌, ◌&&◌, ◌||◌, not}
use Rattle.std.specs.Option.{option_map}
use Rattle.std.specs.Int.{int_max, int_min}
use Rattle.std.specs.Int.Signed.{≤ℤ_refl}
use Rattle.std.proofs.lemmas.Int.{ints, clamps}
use Rattle.std.proofs.lemmas.Bool.{cases_lt}
use Rattle.fix_interval.specs.declared.truth.Truth.{Truth}
use Rattle.fix_interval.specs.declared.truth.Truth.TheVariants.{Sure, Never, Unsure}
use Rattle.fix_interval.specs.Interval.{Interval, All, IsInterval, IsOrdered}
use Rattle.fix_interval.specs.Units.{unit}
use Rattle.fix_interval.specs.Round.{floor_of, ceil_of, floor_quotient, ceil_quotient, floor_root}
use Rattle.fix_interval.specs.Values.{end_of, ratio_of, sum_of_ends, add_of, neg_of, greater_low, lesser_low, greater_high, lesser_high, max_of, min_of, hull_of, on_ends, least_of, greatest_of, least_product, greatest_product, product_of_ends, rounded_outward, mul_of, holds_zero, quotient_of_ends, div_of, low_radicand, root_of_high, is_below_zero, root_of, less_of, pick_of}
use Rattle.fix_interval.specs.Rules.{EndMeets, NotAbove, NotBelow, IsBounded, IsAtMostQuotient, IsAtLeastQuotient, exact_sum, HasEnd, Holds, HoldsSum, HoldsNegation, HoldsGreater, HoldsLesser, HoldsProduct, HoldsQuotient}
use Rattle.fix_interval.specs.Tree.{Tree, Known, Const, Add, Neg, Mul, Div, Max, Min, Root, Pick}
use Rattle.fix_interval.specs.Encloses.{Encloses, everything, known, constant, sum, negation, product, quotient, greater, lesser, square_root, pick_first, pick_second, pick_both}
use Rattle.fix_interval.proofs.Rounding.{floor_of-times, ceil_of-times}
use Rattle.fix_interval.proofs.Ratios.{ratio_of-small, ratio_of-large}
use Rattle.fix_interval.proofs.Dividing.{≤ℤ_trans, unit-pos}
use Rattle.fix_interval.proofs.Multiplying.{end_of-small, end_of-large, times-mono}
use Rattle.fix_interval.proofs.Rooting.{floor_root-below, ceil_root-above, high_root_is, high_root-large, root_of-below_zero, root_of-roots}
use Rattle.fix_interval.proofs.Widening.{Encloses-wider, AtMostQuotient-lower, AtLeastQuotient-higher}

-- ---- known quantities and constants

NotAbove_refl : (x : Option ℤ) → NotAbove x x
NotAbove_refl None = tt
NotAbove_refl (Some x) = ≤ℤ_refl x

NotBelow_refl : (x : Option ℤ) → NotBelow x x
NotBelow_refl None = tt
NotBelow_refl (Some x) = ≤ℤ_refl x

pub Encloses-Known : (i : Interval) → Encloses (Known i) i
Encloses-Known i = known (record { low = NotAbove_refl i.lo; high = NotBelow_refl i.hi })

pub Encloses-Const : (p : ℤ) (q : ℕ) → 0 < q → Encloses (Const p q) (ratio_of p q)
Encloses-Const p q h = const_by (cases_lt (unsigned_abs p) (2 ^ 94)) where
  const_by : (unsigned_abs p < 2 ^ 94) ⊎ (2 ^ 94 ≤ unsigned_abs p) → Encloses (Const p q) (ratio_of p q)
  const_by (inr k) = rw (ratio_of-large p q k) everything
  const_by (inl k) =
      rw (ratio_of-small p q k)
      (constant (record { low = floor_of-times (p *ℤ pos unit) q h; high = ceil_of-times (p *ℤ pos unit) q h }))

-- ---- sums and negations

NotAbove-end_of : (z : ℤ) → NotAbove (end_of z) (Some z)
NotAbove-end_of z = grind (arith, ints)

NotBelow-end_of : (z : ℤ) → NotBelow (end_of z) (Some z)
NotBelow-end_of z = grind (arith, ints)

NotAbove-sum : (x y : Option ℤ) → NotAbove (sum_of_ends x y) (exact_sum x y)
NotAbove-sum (Some x) (Some y) = NotAbove-end_of (x +ℤ y)
NotAbove-sum (Some x) None = tt
NotAbove-sum None y = tt

NotBelow-sum : (x y : Option ℤ) → NotBelow (sum_of_ends x y) (exact_sum x y)
NotBelow-sum (Some x) (Some y) = NotBelow-end_of (x +ℤ y)
NotBelow-sum (Some x) None = tt
NotBelow-sum None y = tt

HoldsSum-add_of : (i j : Interval) → HoldsSum i j (add_of i j)
unfolding add_of
HoldsSum-add_of i j = record { low = NotAbove-sum i.lo j.lo; high = NotBelow-sum i.hi j.hi }

pub Encloses-Add : (a b : Tree) (i j : Interval) → Encloses a i → Encloses b j → Encloses (Add a b) (add_of i j)
Encloses-Add a b i j x y = sum x y (HoldsSum-add_of i j)

HoldsNegation-neg_of : (i : Interval) → HoldsNegation i (neg_of i)
unfolding neg_of
HoldsNegation-neg_of i =
    record { low = NotAbove_refl (option_map neg_ℤ i.hi); high = NotBelow_refl (option_map neg_ℤ i.lo) }

pub Encloses-Neg : (a : Tree) (i : Interval) → Encloses a i → Encloses (Neg a) (neg_of i)
Encloses-Neg a i x = negation x (HoldsNegation-neg_of i)

-- ---- the greater and the lesser

max_is_one : (x y : ℤ) → (int_max x y ≤ℤ x) ⊎ (int_max x y ≤ℤ y)
max_is_one x y =
    elim (int_lt y x) as (λ b. ((if b then x else y) ≤ℤ x) ⊎ ((if b then x else y) ≤ℤ y)) [ true ↦ inl (≤ℤ_refl x) | false ↦ inr (≤ℤ_refl y) ]

min_is_one : (x y : ℤ) → (x ≤ℤ int_min x y) ⊎ (y ≤ℤ int_min x y)
min_is_one x y =
    elim (int_lt y x) as (λ b. (x ≤ℤ (if b then y else x)) ⊎ (y ≤ℤ (if b then y else x))) [ true ↦ inr (≤ℤ_refl y) | false ↦ inl (≤ℤ_refl x) ]

greater_low-one : (x y : Option ℤ) → NotAbove (greater_low x y) x ⊎ NotAbove (greater_low x y) y
greater_low-one None y = inr (NotAbove_refl y)
greater_low-one (Some x) None = inl (≤ℤ_refl x)
greater_low-one (Some x) (Some y) = max_is_one x y

greater_high-first : (x y : Option ℤ) → NotBelow (greater_high x y) x
greater_high-first None y = tt
greater_high-first (Some x) None = tt
greater_high-first (Some x) (Some y) = omega (arith, ints, clamps)

greater_high-second : (x y : Option ℤ) → NotBelow (greater_high x y) y
greater_high-second None y = tt
greater_high-second (Some x) None = tt
greater_high-second (Some x) (Some y) = omega (arith, ints, clamps)

lesser_high-one : (x y : Option ℤ) → NotBelow (lesser_high x y) x ⊎ NotBelow (lesser_high x y) y
lesser_high-one None y = inr (NotBelow_refl y)
lesser_high-one (Some x) None = inl (≤ℤ_refl x)
lesser_high-one (Some x) (Some y) = min_is_one x y

lesser_low-first : (x y : Option ℤ) → NotAbove (lesser_low x y) x
lesser_low-first None y = tt
lesser_low-first (Some x) None = tt
lesser_low-first (Some x) (Some y) = omega (arith, ints, clamps)

lesser_low-second : (x y : Option ℤ) → NotAbove (lesser_low x y) y
lesser_low-second None y = tt
lesser_low-second (Some x) None = tt
lesser_low-second (Some x) (Some y) = omega (arith, ints, clamps)

HoldsGreater-max_of : (i j : Interval) → HoldsGreater i j (max_of i j)
unfolding max_of
HoldsGreater-max_of i j = record {
  low = greater_low-one i.lo j.lo;
  high = (greater_high-first i.hi j.hi, greater_high-second i.hi j.hi);
}

pub Encloses-Max : (a b : Tree) (i j : Interval) → Encloses a i → Encloses b j → Encloses (Max a b) (max_of i j)
Encloses-Max a b i j x y = greater x y (HoldsGreater-max_of i j)

HoldsLesser-min_of : (i j : Interval) → HoldsLesser i j (min_of i j)
unfolding min_of
HoldsLesser-min_of i j = record {
  low = (lesser_low-first i.lo j.lo, lesser_low-second i.lo j.lo);
  high = lesser_high-one i.hi j.hi;
}

pub Encloses-Min : (a b : Tree) (i j : Interval) → Encloses a i → Encloses b j → Encloses (Min a b) (min_of i j)
Encloses-Min a b i j x y = lesser x y (HoldsLesser-min_of i j)

-- ---- choices

Holds-hull_first : (i j : Interval) → Holds i (hull_of i j)
unfolding hull_of
Holds-hull_first i j = record { low = lesser_low-first i.lo j.lo; high = greater_high-first i.hi j.hi }

Holds-hull_second : (i j : Interval) → Holds j (hull_of i j)
unfolding hull_of
Holds-hull_second i j = record { low = lesser_low-second i.lo j.lo; high = greater_high-second i.hi j.hi }

pub Encloses-hull : (a b : Tree) (i j : Interval) → Encloses a i → Encloses b j → Encloses a (hull_of i j) × Encloses b (hull_of i j)
Encloses-hull a b i j x y =
    (Encloses-wider a i (hull_of i j) x (Holds-hull_first i j), Encloses-wider b j (hull_of i j) y (Holds-hull_second i j))

pub Encloses-Pick : (x y a b : Tree) (i j k l : Interval) → Encloses x i → Encloses y j → Encloses a k → Encloses b l → Encloses (Pick x y a b) (pick_of (less_of j i) k l)
unfolding pick_of
Encloses-Pick x y a b i j k l p q r s = pick_by (less_of j i) refl where
  pick_by : (t : Truth) → less_of j i ≡ t → Encloses (Pick x y a b) (pick_of t k l)
  pick_by Sure e = pick_first p q e r
  pick_by Never e = pick_second p q e s
  pick_by Unsure e = pick_both p q e (Encloses-hull a b k l r s).0 (Encloses-hull a b k l r s).1

-- ---- products

least_of-all : (p q r s : ℤ) → (least_of p q r s ≤ℤ p) × (least_of p q r s ≤ℤ q) × (least_of p q r s ≤ℤ r) × (least_of p q r s ≤ℤ s)
least_of-all p q r s = (omega (arith, ints, clamps), omega (arith, ints, clamps), omega (arith, ints, clamps), omega (arith, ints, clamps))

greatest_of-all : (p q r s : ℤ) → (p ≤ℤ greatest_of p q r s) × (q ≤ℤ greatest_of p q r s) × (r ≤ℤ greatest_of p q r s) × (s ≤ℤ greatest_of p q r s)
greatest_of-all p q r s = (omega (arith, ints, clamps), omega (arith, ints, clamps), omega (arith, ints, clamps), omega (arith, ints, clamps))

at_ends : (R : ℤ → ℤ → Type 0) (a b x y : ℤ) → a ≡ x → b ≡ y → R a b → R x y
at_ends R a b x y e f p = rw (← e, ← f) p

-- what holds of each pair of ends holds of every end of one interval with every end of another
corners : (R : ℤ → ℤ → Type 0) (al ah bl bh : ℤ) → R al bl → R al bh → R ah bl → R ah bh → (x y : ℤ) → HasEnd (record { lo = Some al; hi = Some ah }) x → HasEnd (record { lo = Some bl; hi = Some bh }) y → R x y
corners R al ah bl bh p q r s x y (inl e) (inl f) = at_ends R al bl x y (cc) (cc) p
corners R al ah bl bh p q r s x y (inl e) (inr f) = at_ends R al bh x y (cc) (cc) q
corners R al ah bl bh p q r s x y (inr e) (inl f) = at_ends R ah bl x y (cc) (cc) r
corners R al ah bl bh p q r s x y (inr e) (inr f) = at_ends R ah bh x y (cc) (cc) s

abbrev span : ℤ → ℤ → Interval
span lo hi = record { lo = Some lo; hi = Some hi }

span-bounded : (lo hi : ℤ) → IsBounded (span lo hi)
span-bounded lo hi = (refl, refl)

HoldsProduct-least : (al ah bl bh : ℤ) → HoldsProduct (span al ah) (span bl bh) (span (floor_of (least_product al ah bl bh) unit) (ceil_of (greatest_product al ah bl bh) unit))
HoldsProduct-least al ah bl bh =
    let least : ℤ = least_product al ah bl bh in
    let greatest : ℤ = greatest_product al ah bl bh in
    let down : (floor_of least unit *ℤ pos unit) ≤ℤ least = floor_of-times least unit unit-pos in
    let up : greatest ≤ℤ (ceil_of greatest unit *ℤ pos unit) = ceil_of-times greatest unit unit-pos in
    let lows = least_of-all (al *ℤ bl) (al *ℤ bh) (ah *ℤ bl) (ah *ℤ bh) in
    let highs = greatest_of-all (al *ℤ bl) (al *ℤ bh) (ah *ℤ bl) (ah *ℤ bh) in
    record {
      first_bounded = span-bounded al ah;
      second_bounded = span-bounded bl bh;
      low = corners (λ x y. (floor_of least unit *ℤ pos unit) ≤ℤ (x *ℤ y)) al ah bl bh
          (≤ℤ_trans (floor_of least unit *ℤ pos unit) least (al *ℤ bl) down lows.0)
          (≤ℤ_trans (floor_of least unit *ℤ pos unit) least (al *ℤ bh) down lows.1)
          (≤ℤ_trans (floor_of least unit *ℤ pos unit) least (ah *ℤ bl) down lows.2)
          (≤ℤ_trans (floor_of least unit *ℤ pos unit) least (ah *ℤ bh) down lows.3);
      high = corners (λ x y. (x *ℤ y) ≤ℤ (ceil_of greatest unit *ℤ pos unit)) al ah bl bh
          (≤ℤ_trans (al *ℤ bl) greatest (ceil_of greatest unit *ℤ pos unit) highs.0 up)
          (≤ℤ_trans (al *ℤ bh) greatest (ceil_of greatest unit *ℤ pos unit) highs.1 up)
          (≤ℤ_trans (ah *ℤ bl) greatest (ceil_of greatest unit *ℤ pos unit) highs.2 up)
          (≤ℤ_trans (ah *ℤ bh) greatest (ceil_of greatest unit *ℤ pos unit) highs.3 up);
    }

rounded_outward-open : (x : Option ℤ) → rounded_outward x None ≡ All
rounded_outward-open None = refl
rounded_outward-open (Some x) = refl

product_step : (a b : Tree) (al ah bl bh : ℤ) → Encloses a (span al ah) → Encloses b (span bl bh) → Encloses (Mul a b) (product_of_ends al ah bl bh)
product_step a b al ah bl bh x y = product_by (cases_lt (unsigned_abs (least_product al ah bl bh)) (2 ^ 126)) (cases_lt (unsigned_abs (greatest_product al ah bl bh)) (2 ^ 126)) where
  product_by : (unsigned_abs (least_product al ah bl bh) < 2 ^ 126) ⊎ (2 ^ 126 ≤ unsigned_abs (least_product al ah bl bh)) → (unsigned_abs (greatest_product al ah bl bh) < 2 ^ 126) ⊎ (2 ^ 126 ≤ unsigned_abs (greatest_product al ah bl bh)) → Encloses (Mul a b) (product_of_ends al ah bl bh)
  product_by (inr h) k = rw (end_of-large (least_product al ah bl bh) h) everything
  product_by (inl h) (inr k) =
      rw (end_of-large (greatest_product al ah bl bh) k, rounded_outward-open (end_of (least_product al ah bl bh))) everything
  product_by (inl h) (inl k) =
      rw (end_of-small (least_product al ah bl bh) h, end_of-small (greatest_product al ah bl bh) k) (product x y (HoldsProduct-least al ah bl bh))

mul_step : (a b : Tree) (al ah bl bh : Option ℤ) → Encloses a (record { lo = al; hi = ah }) → Encloses b (record { lo = bl; hi = bh }) → Encloses (Mul a b) (on_ends product_of_ends al ah bl bh)
mul_step a b None ah bl bh x y = everything
mul_step a b (Some al) None bl bh x y = everything
mul_step a b (Some al) (Some ah) None bh x y = everything
mul_step a b (Some al) (Some ah) (Some bl) None x y = everything
mul_step a b (Some al) (Some ah) (Some bl) (Some bh) x y = product_step a b al ah bl bh x y

pub Encloses-Mul : (a b : Tree) (i j : Interval) → Encloses a i → Encloses b j → Encloses (Mul a b) (mul_of i j)
unfolding mul_of
Encloses-Mul a b i j x y = mul_step a b i.lo i.hi j.lo j.hi x y

-- ---- quotients

times_negsuc : (x : ℤ) (d : ℕ) → x *ℤ negsuc d ≡ neg_ℤ (x *ℤ pos (suc d))
times_negsuc (pos zero) d = omega (arith, ints)
times_negsuc (pos (suc n)) d = omega (arith, ints)
times_negsuc (negsuc n) d = omega (arith, ints)

floor_quotient-below : (n y : ℤ) → (pos 0 <ℤ y) ⊎ (y <ℤ pos 0) → IsAtMostQuotient (floor_quotient n y) n y
floor_quotient-below n (pos zero) (inl h) = absurd (omega (arith, ints))
floor_quotient-below n (pos zero) (inr h) = absurd (omega (arith, ints))
floor_quotient-below n (pos (suc d)) h = floor_of-times n (suc d) (omega arith)
floor_quotient-below n (negsuc d) h =
    rw (times_negsuc (floor_of (neg_ℤ n) (suc d)) d) (omega (arith, ints, floor_of-times (neg_ℤ n) (suc d) (omega arith)))

ceil_quotient-above : (n y : ℤ) → (pos 0 <ℤ y) ⊎ (y <ℤ pos 0) → IsAtLeastQuotient (ceil_quotient n y) n y
ceil_quotient-above n (pos zero) (inl h) = absurd (omega (arith, ints))
ceil_quotient-above n (pos zero) (inr h) = absurd (omega (arith, ints))
ceil_quotient-above n (pos (suc d)) h = ceil_of-times n (suc d) (omega arith)
ceil_quotient-above n (negsuc d) h =
    rw (times_negsuc (ceil_of (neg_ℤ n) (suc d)) d) (omega (arith, ints, ceil_of-times (neg_ℤ n) (suc d) (omega arith)))

least_quotient_of : ℤ → ℤ → ℤ → ℤ → ℤ
least_quotient_of al ah bl bh =
    least_of (floor_quotient (al *ℤ pos unit) bl) (floor_quotient (al *ℤ pos unit) bh) (floor_quotient (ah *ℤ pos unit) bl) (floor_quotient (ah *ℤ pos unit) bh)

greatest_quotient_of : ℤ → ℤ → ℤ → ℤ → ℤ
greatest_quotient_of al ah bl bh =
    greatest_of (ceil_quotient (al *ℤ pos unit) bl) (ceil_quotient (al *ℤ pos unit) bh) (ceil_quotient (ah *ℤ pos unit) bl) (ceil_quotient (ah *ℤ pos unit) bh)

Apart : ℤ → Type 0
Apart y = (pos 0 <ℤ y) ⊎ (y <ℤ pos 0)

HoldsQuotient-least : (al ah bl bh : ℤ) → (pos 0 <ℤ bl) ⊎ (bh <ℤ pos 0) → Apart bl → Apart bh → HoldsQuotient (span al ah) (span bl bh) (span (least_quotient_of al ah bl bh) (greatest_quotient_of al ah bl bh))
unfolding least_quotient_of greatest_quotient_of Apart
HoldsQuotient-least al ah bl bh apart p q =
    let l : ℤ = al *ℤ pos unit in
    let g : ℤ = ah *ℤ pos unit in
    let least : ℤ = least_of (floor_quotient l bl) (floor_quotient l bh) (floor_quotient g bl) (floor_quotient g bh) in
    let greatest : ℤ = greatest_of (ceil_quotient l bl) (ceil_quotient l bh) (ceil_quotient g bl) (ceil_quotient g bh) in
    let lows = least_of-all (floor_quotient l bl) (floor_quotient l bh) (floor_quotient g bl) (floor_quotient g bh) in
    let highs = greatest_of-all (ceil_quotient l bl) (ceil_quotient l bh) (ceil_quotient g bl) (ceil_quotient g bh) in
    record {
      dividend_bounded = span-bounded al ah;
      divisor_bounded = span-bounded bl bh;
      apart_from_zero = apart;
      low = corners (λ x y. IsAtMostQuotient least (x *ℤ pos unit) y) al ah bl bh
          (AtMostQuotient-lower l bl (floor_quotient l bl) least lows.0 (floor_quotient-below l bl p))
          (AtMostQuotient-lower l bh (floor_quotient l bh) least lows.1 (floor_quotient-below l bh q))
          (AtMostQuotient-lower g bl (floor_quotient g bl) least lows.2 (floor_quotient-below g bl p))
          (AtMostQuotient-lower g bh (floor_quotient g bh) least lows.3 (floor_quotient-below g bh q));
      high = corners (λ x y. IsAtLeastQuotient greatest (x *ℤ pos unit) y) al ah bl bh
          (AtLeastQuotient-higher l bl (ceil_quotient l bl) greatest highs.0 (ceil_quotient-above l bl p))
          (AtLeastQuotient-higher l bh (ceil_quotient l bh) greatest highs.1 (ceil_quotient-above l bh q))
          (AtLeastQuotient-higher g bl (ceil_quotient g bl) greatest highs.2 (ceil_quotient-above g bl p))
          (AtLeastQuotient-higher g bh (ceil_quotient g bh) greatest highs.3 (ceil_quotient-above g bh q));
    }

-- a choice of nothing known or an enclosure encloses
chosen : (t : Tree) (zero low high : Bool) (i : Interval) → (zero ≡ false → Encloses t i) → Encloses t (if (zero || not (low && high)) then All else i)
chosen t true low high i h = everything
chosen t false false high i h = everything
chosen t false true false i h = everything
chosen t false true true i h = h refl

apart_from_zero : (bl bh : ℤ) → holds_zero bl bh ≡ false → (pos 0 <ℤ bl) ⊎ (bh <ℤ pos 0)
apart_from_zero bl bh h = apart_by (int_le bl (pos 0)) (int_le (pos 0) bh) refl refl where
  apart_by : (x y : Bool) → int_le bl (pos 0) ≡ x → int_le (pos 0) bh ≡ y → (pos 0 <ℤ bl) ⊎ (bh <ℤ pos 0)
  apart_by false y e f = inl (grind (arith, ints))
  apart_by true false e f = inr (grind (arith, ints))
  apart_by true true e f = absurd (let clash = rw (e, f) at h in cc)

quotient_step : (a b : Tree) (al ah bl bh : ℤ) → bl ≤ℤ bh → Encloses a (span al ah) → Encloses b (span bl bh) → Encloses (Div a b) (quotient_of_ends al ah bl bh)
unfolding least_quotient_of greatest_quotient_of Apart
quotient_step a b al ah bl bh o x y =
    chosen (Div a b) (holds_zero bl bh) (nat_lt (unsigned_abs al) (2 ^ 94)) (nat_lt (unsigned_abs ah) (2 ^ 94)) (span (least_quotient_of al ah bl bh) (greatest_quotient_of al ah bl bh))
    (λ h. quotient x y (quotient_by (apart_from_zero bl bh h))) where
      quotient_by : (pos 0 <ℤ bl) ⊎ (bh <ℤ pos 0) → HoldsQuotient (span al ah) (span bl bh) (span (least_quotient_of al ah bl bh) (greatest_quotient_of al ah bl bh))
      quotient_by (inl p) = HoldsQuotient-least al ah bl bh (inl p) (inl p) (inl (omega (arith, ints)))
      quotient_by (inr n) = HoldsQuotient-least al ah bl bh (inr n) (inr (omega (arith, ints))) (inr n)

div_step : (a b : Tree) (al ah bl bh : Option ℤ) → IsOrdered bl bh → Encloses a (record { lo = al; hi = ah }) → Encloses b (record { lo = bl; hi = bh }) → Encloses (Div a b) (on_ends quotient_of_ends al ah bl bh)
div_step a b None ah bl bh o x y = everything
div_step a b (Some al) None bl bh o x y = everything
div_step a b (Some al) (Some ah) None bh o x y = everything
div_step a b (Some al) (Some ah) (Some bl) None o x y = everything
div_step a b (Some al) (Some ah) (Some bl) (Some bh) o x y = quotient_step a b al ah bl bh o x y

pub Encloses-Div : (a b : Tree) (i j : Interval) → IsInterval j → Encloses a i → Encloses b j → Encloses (Div a b) (div_of i j)
unfolding div_of
Encloses-Div a b i j h x y = div_step a b i.lo i.hi j.lo j.hi h.ordered x y

-- ---- roots

low_radicand-below : (low : Option ℤ) → pos (low_radicand low) ≤ℤ int_max (unwrap_or low (pos 0)) (pos 0)
low_radicand-below None = omega (arith, ints, clamps)
low_radicand-below (Some (negsuc n)) = omega (arith, ints, clamps)
low_radicand-below (Some (pos n)) = omega (arith, ints, clamps)

low_root-below : (low : Option ℤ) → (pos (floor_root (low_radicand low * unit)) *ℤ pos (floor_root (low_radicand low * unit))) ≤ℤ (int_max (unwrap_or low (pos 0)) (pos 0) *ℤ pos unit)
low_root-below low =
    ≤ℤ_trans (pos (floor_root (low_radicand low * unit)) *ℤ pos (floor_root (low_radicand low * unit))) (pos (low_radicand low) *ℤ pos unit) (int_max (unwrap_or low (pos 0)) (pos 0) *ℤ pos unit)
    (omega (arith, ints, floor_root-below (low_radicand low * unit)))
    (times-mono (pos (low_radicand low)) (int_max (unwrap_or low (pos 0)) (pos 0)) (pos unit) (omega (arith, ints)) (low_radicand-below low))

high_root-above : (high : Option ℤ) → EndMeets (λ h x. (pos 0 ≤ℤ h) × ((x *ℤ pos unit) ≤ℤ (h *ℤ h))) (root_of_high high) high
high_root-above None = tt
high_root-above (Some (negsuc n)) = tt
high_root-above (Some (pos n)) = above_by (cases_lt n (2 ^ 95)) where
  above_by : (n < 2 ^ 95) ⊎ (2 ^ 95 ≤ n) → EndMeets (λ h x. (pos 0 ≤ℤ h) × ((x *ℤ pos unit) ≤ℤ (h *ℤ h))) (root_of_high (Some (pos n))) (Some (pos n))
  above_by (inr h) = rw (high_root-large n h) tt
  above_by (inl h) = rw (high_root_is n h) (omega (arith, ints), omega (arith, ints, ceil_root-above (n * unit)))

not_below_zero : (high : Option ℤ) → is_below_zero high ≡ false → IfSome high (λ x. pos 0 ≤ℤ x)
not_below_zero None h = tt
not_below_zero (Some z) h = grind (arith, ints)

pub Encloses-Root : (a : Tree) (i : Interval) → Encloses a i → Encloses (Root a) (root_of i)
Encloses-Root a i x = root_by (is_below_zero i.hi) refl where
  root_by : (b : Bool) → is_below_zero i.hi ≡ b → Encloses (Root a) (root_of i)
  root_by true h = rw (root_of-below_zero i h) everything
  root_by false h =
      rw (root_of-roots i h)
      (square_root x (record { not_negative = not_below_zero i.hi h; low = inr (low_root-below i.lo); high = high_root-above i.hi }))
