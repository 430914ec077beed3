-- The ends of the quantities of a path are bounded.
use Rattle.std.proofs.Common.{◌≡◌, subst, ℕ, ◌+◌, ◌*◌, ◌/◌, ◌<◌, ◌≤◌, ◌^◌, ℤ, pos, negsuc, neg_ℤ, ◌*ℤ◌, ◌≤ℤ◌, unsigned_abs, Option, refl, sym, ◌∙◌, arith, inl, inr, lit<}
use Rattle.std.specs.Prelude.{◌⊎◌, ◌+ℤ◌, ◌<ℤ◌, Some, None, IfSome, IsTrue, IsSomeAnd, All, List, length, get_or, Bool, true, false, nat_le}
use Rattle.std.specs.Int.{div_ceil}
use Rattle.std.proofs.lemmas.Grind.{div_ceil_times}
use Rattle.std.proofs.lemmas.Nat.{mul-le}
use Rattle.std.proofs.lemmas.Bool.{cases_lt}
use Rattle.std.specs.List.{list_all}
use Rattle.std.proofs.lemmas.Int.{ints}
use Rattle.std.proofs.lemmas.List.Folds.{list_all_at}
use Rattle.std.proofs.lemmas.List.Elements.{All-get_or}
use Rattle.std.proofs.lemmas.Bool.{false≢true}
use Rattle.fix_interval.specs.Units.{unit, unit-is}
use Rattle.fix_interval.specs.Interval.{Interval}
use Rattle.fix_interval.specs.Bounds.{IsBetween, AreBetween}
use Rattle.fix_interval.specs.Round.{floor_of, ceil_of}
use Rattle.fix_interval.specs.Values.{ratio_of, add_of, neg_of, mul_of}
use Rattle.fix_interval.specs.Tree.{Tree, Known, Const, Add, Sub, Mul, Root, Lg, enc}
use Rattle.scene_geom.specs.Fraction.{over}
use Rattle.scene_parts.specs.declared.kinds.Ground.{Ground}
use Rattle.scene_parts.specs.declared.kinds.Ground.TheVariants as methods
use Rattle.path_shape.specs.declared.path.Path.{Path}
use Rattle.path_shape.specs.Shape.{IsPlanSquare}
use Rattle.path_calc.specs.inner.Hearing.{omega_along}
use Rattle.fix_interval.specs.Lg.{lg_of, lg_low, lg_high, greatest, decade_of, digits_low, digits_high, turns}
use Rattle.fix_interval.specs.Ranges.{is_inside, from_to, constant, sum, negation, product, square_root, logarithm, sum_range, root_limit, root_range, logarithm_range}
use Rattle.enclose_log.proofs.LgRange.{logarithm-ranged}
use Rattle.fix_interval.proofs.Ratios.{ratio_of-small}
use Rattle.fix_interval.proofs.Rounding.{floor_of-mono, ceil_of-mono, floor_of-le-ceil_of, ceil_of-pos}
use Rattle.fix_interval.proofs.Spans.{units-is}
use Rattle.scene_geom.specs.declared.fractions.fraction.Frac.{Frac}
use Rattle.fix_interval.proofs.Dividing.{units-mono}
use Rattle.fix_interval.proofs.RangedFormulas.{between, part-between}
use Rattle.scene_parts.specs.Parts.{is_power}
use Rattle.term_div_atm.specs.Terms.{divergence, absorption}
use Rattle.term_div_atm.proofs.Ends.{divergence-between, absorption-between}
use Rattle.term_barrier.specs.Limits.{IsDistance, IsGroundEffect, IsScreening}
use Rattle.path_calc.specs.Contributions.{unscreened_level, reflection_level}
use Rattle.path_calc.specs.inner.Propagations.{IsReflectionLevel, IsSolidAngle, IsSimpleGround, IsRaised, IsGroundBy}
use Rattle.path_calc.specs.inner.Losses.{IsFoliageLoss}
use Rattle.path_calc.specs.inner.Prepared.{IsEmission, IsSent, IsSentOn}
use Rattle.energy_sum.specs.Weather.{IsWeatherCorrection}
use Rattle.path_calc.specs.inner.Ranges.{IsPower, IsDirectivity, IsCorrection, IsWeight, IsOnMap, IsPathSquare, IsUnscreened, IsScreened, IsAtReceiver, IsHearable, IsSmall, IsSumOf}
use Rattle.path_calc.specs.Levels.{IsLevel, IsLevelEnd}

-- ---- constants

-- a fraction lies between the ends of the bounds of its numerator
pub ratio-between : (l h z lo hi : ℤ) (q : ℕ) → 0 < q → unsigned_abs z < 2 ^ 94 → l ≤ℤ z → z ≤ℤ h
    → floor_of (l *ℤ pos unit) q ≡ lo → ceil_of (l *ℤ pos unit) q ≡ lo → floor_of (h *ℤ pos unit) q ≡ hi → ceil_of (h *ℤ pos unit) q ≡ hi
    → AreBetween lo hi (ratio_of z q)
ratio-between l h z lo hi q positive small low high floor-low ceil-low floor-high ceil-high = rw (ratio_of-small z q small) (record {
  lo = (
    rw floor-low at (floor_of-mono (l *ℤ pos unit) (z *ℤ pos unit) q positive (units-mono l z low)),
    rw floor-high at (floor_of-mono (z *ℤ pos unit) (h *ℤ pos unit) q positive (units-mono z h high)),
  );
  hi = (
    rw ceil-low at (ceil_of-mono (l *ℤ pos unit) (z *ℤ pos unit) q positive (units-mono l z low)),
    rw ceil-high at (ceil_of-mono (z *ℤ pos unit) (h *ℤ pos unit) q positive (units-mono z h high)),
  );
})

abs-small : (z : ℤ) → neg_ℤ (pos 20000) ≤ℤ z → z ≤ℤ pos 20000 → unsigned_abs z < 2 ^ 94
abs-small (pos n) low high = omega (arith, ints, high)
abs-small (negsuc n) low high = omega (arith, ints, low)

power-within : (z : ℤ) → IsPower z → AreBetween (neg_ℤ (pos (20 * 2 ^ 32))) (pos (160 * 2 ^ 32)) (ratio_of z 100)
unfolding unit
power-within z p =
    ratio-between (neg_ℤ (pos 2000)) (pos 16000) z _ _ 100 (lit< tt) (abs-small z (omega (arith, ints, p.low)) (omega (arith, ints, p.high))) p.low p.high refl refl refl refl

pub directivity-within : (z : ℤ) → IsDirectivity z → IsCorrection (ratio_of z 100)
unfolding unit
directivity-within z p =
    ratio-between (neg_ℤ (pos 3000)) (pos 2000) z _ _ 100 (lit< tt) (abs-small z (omega (arith, ints, p.low)) (omega (arith, ints, p.high))) p.low p.high refl refl refl refl

-- ---- levels

pub emission-within : (p : ℤ) (directivity : Interval) → IsPower p → IsCorrection directivity → IsEmission (enc (Add (Const p 100) (Known directivity)))
unfolding sum_range
emission-within p directivity hp hd =
    between _ _ {t = Add (Const p 100) (Known directivity)} (sum (part-between _ _ {t = Const p 100} (power-within p hp)) (part-between _ _ hd)) refl

-- by the general method for ground, and by the alternative one, which raises what is sent
general-within : (emission d : Interval) (alpha10 : ℕ) (ground : Interval) → IsSentOn None emission → IsDistance d → alpha10 < 4096 → IsGroundEffect ground
    → IsUnscreened (enc (unscreened_level (Known emission) (Known d) alpha10 (Known ground)))
unfolding sum_range neg_of
general-within emission d alpha10 ground he hd few hg =
    between _ _ {t = unscreened_level (Known emission) (Known d) alpha10 (Known ground)}
    (sum (sum (sum (part-between _ _ he) (negation (part-between _ _ {t = divergence (Known d)} (divergence-between d hd)))) (negation (part-between _ _ {t = absorption (Known d) alpha10} (absorption-between d alpha10 few hd)))) (negation (part-between _ _ hg))) refl

simple-within : (emission d : Interval) (alpha10 : ℕ) (ground : Interval) → AreBetween (neg_ℤ (pos (60 * 2 ^ 32))) (pos (190 * 2 ^ 32)) emission → IsDistance d → alpha10 < 4096 → IsSimpleGround ground
    → IsUnscreened (enc (unscreened_level (Known emission) (Known d) alpha10 (Known ground)))
unfolding sum_range neg_of
simple-within emission d alpha10 ground he hd few hg =
    between _ _ {t = unscreened_level (Known emission) (Known d) alpha10 (Known ground)}
    (sum (sum (sum (part-between _ _ he) (negation (part-between _ _ {t = divergence (Known d)} (divergence-between d hd)))) (negation (part-between _ _ {t = absorption (Known d) alpha10} (absorption-between d alpha10 few hd)))) (negation (part-between _ _ hg))) refl

pub unscreened-within : (omega : Option Interval) (power d : Interval) (alpha10 : ℕ) (ground : Interval) → IsSentOn omega power → IsDistance d → alpha10 < 4096 → IsGroundBy omega ground
    → IsUnscreened (enc (unscreened_level (Known power) (Known d) alpha10 (Known ground)))
unscreened-within None power d alpha10 ground hp hd few hg = general-within power d alpha10 ground hp hd few hg
unscreened-within (Some omega) power d alpha10 ground hp hd few hg = simple-within power d alpha10 ground hp hd few hg

pub screened-within : (level screening : Interval) → IsUnscreened level → IsScreening screening → IsScreened (enc (Sub (Known level) (Known screening)))
unfolding sum_range neg_of
screened-within level screening h k = between _ _ {t = Sub (Known level) (Known screening)} (sum (part-between _ _ h) (negation (part-between _ _ k))) refl

pub past-within : (level foliage : Interval) → IsScreened level → IsFoliageLoss foliage → IsAtReceiver (enc (Sub (Known level) (Known foliage)))
unfolding sum_range neg_of
past-within level foliage h k = between _ _ {t = Sub (Known level) (Known foliage)} (sum (part-between _ _ h) (negation (part-between _ _ k))) refl

-- a level with the A-weight and less C_met has an energy
pub weighted-level : (level weight c_met : Interval) → IsAtReceiver level → IsWeight weight → IsWeatherCorrection c_met → IsHearable (add_of (add_of level weight) (neg_of c_met))
unfolding sum_range neg_of
weighted-level level weight c_met p q w =
    between _ _ {t = Sub (Add (Known level) (Known weight)) (Known c_met)} (sum (sum (part-between _ _ p) (part-between _ _ q)) (negation (part-between _ _ w))) refl

-- ---- small quantities

-- what lies between small bounds is small
pub small : (low high : ℤ) (i : Interval) → AreBetween low high i → is_inside (neg_ℤ (pos (2 ^ 120))) (pos (2 ^ 120)) (Some low) (Some high) ≡ true → IsSmall i
small low high i h inside = between _ _ {t = Known i} (part-between low high h) inside

pub small-divergence : (d : Interval) → IsDistance d → IsSmall (enc (divergence (Known d)))
small-divergence d h = small _ _ (enc (divergence (Known d))) (divergence-between d h) refl

pub small-absorption : (d : Interval) (alpha10 : ℕ) → alpha10 < 4096 → IsDistance d → IsSmall (enc (absorption (Known d) alpha10))
small-absorption d alpha10 few h = small _ _ (enc (absorption (Known d) alpha10)) (absorption-between d alpha10 few h) refl

-- wider bounds
wider-end : (l h k m : ℤ) (end : Option ℤ) → k ≤ℤ l → h ≤ℤ m → IsBetween l h end → IsBetween k m end
wider-end l h k m None low high p = absurd p
wider-end l h k m (Some z) low high p = (omega (arith, ints, p.0, low), omega (arith, ints, p.1, high))

pub wider : (l h k m : ℤ) (i : Interval) → k ≤ℤ l → h ≤ℤ m → AreBetween l h i → AreBetween k m i
wider l h k m i low high p = record { lo = wider-end l h k m i.lo low high p.lo; hi = wider-end l h k m i.hi low high p.hi }

-- what is sent by either method
sent-wide : (omega : Option Interval) (power : Interval) → IsSentOn omega power → AreBetween (neg_ℤ (pos (60 * 2 ^ 32))) (pos (190 * 2 ^ 32)) power
sent-wide None power h = wider _ _ _ _ power (omega (arith, ints)) (omega (arith, ints)) h
sent-wide (Some o) power h = h

pub small-sent : (o : Option Interval) (power : Interval) → IsSentOn o power → IsSmall power
small-sent o power h = small _ _ power (sent-wide o power h) refl

-- the levels on the way to that before screening
pub small-spread : (o : Option Interval) (power d : Interval) → IsSentOn o power → IsDistance d → IsSmall (enc (Sub (Known power) (divergence (Known d))))
unfolding sum_range neg_of
small-spread o power d he hd =
    between _ _ {t = Sub (Known power) (divergence (Known d))} (sum (part-between _ _ (sent-wide o power he)) (negation (part-between _ _ {t = divergence (Known d)} (divergence-between d hd)))) refl

pub small-in_the_open : (o : Option Interval) (power d : Interval) (alpha10 : ℕ) → IsSentOn o power → IsDistance d → alpha10 < 4096 → IsSmall (enc (Sub (Sub (Known power) (divergence (Known d))) (absorption (Known d) alpha10)))
unfolding sum_range neg_of
small-in_the_open o power d alpha10 he hd few =
    between _ _ {t = Sub (Sub (Known power) (divergence (Known d))) (absorption (Known d) alpha10)}
    (sum (sum (part-between _ _ (sent-wide o power he)) (negation (part-between _ _ {t = divergence (Known d)} (divergence-between d hd)))) (negation (part-between _ _ {t = absorption (Known d) alpha10} (absorption-between d alpha10 few hd)))) refl

-- a level with the A-weight of its band
pub small-weighted : (level weight : Interval) → IsAtReceiver level → IsWeight weight → IsSmall (add_of level weight)
unfolding sum_range
small-weighted level weight p q = between _ _ {t = Add (Known level) (Known weight)} (sum (part-between _ _ p) (part-between _ _ q)) refl

-- ---- what walls reflect

-- what is sent is sent on, and so is what a wall reflects of it
pub sent : (o : Option Interval) (power : Interval) → IsSent o power → IsSentOn o power
sent None power h = wider _ _ _ _ power (omega (arith, ints)) (omega (arith, ints)) h
sent (Some o) power h = wider _ _ _ _ power (omega (arith, ints)) (omega (arith, ints)) h

emission-reflected : (emission level : Interval) → IsEmission emission → IsReflectionLevel level → IsSentOn None (add_of emission level)
unfolding sum_range
emission-reflected emission level h k = between _ _ {t = Add (Known emission) (Known level)} (sum (part-between _ _ h) (part-between _ _ k)) refl

raised-reflected : (o power level : Interval) → IsSent (Some o) power → IsReflectionLevel level → IsSentOn (Some o) (add_of power level)
unfolding sum_range
raised-reflected o power level h k = between _ _ {t = Add (Known power) (Known level)} (sum (part-between _ _ h) (part-between _ _ k)) refl

pub reflected-sent : (o : Option Interval) (power level : Interval) → IsSent o power → IsReflectionLevel level → IsSentOn o (add_of power level)
reflected-sent None power level h k = emission-reflected power level h k
reflected-sent (Some o) power level h k = raised-reflected o power level h k

-- D_Omega raises what is emitted
pub small-emission : (emission : Interval) → IsEmission emission → IsSmall emission
small-emission emission h = small _ _ emission h refl

pub small-omega : (o : Interval) → IsSolidAngle o → IsSmall o
small-omega o h = small _ _ o h refl

pub raised-within : (emission o : Interval) → IsEmission emission → IsSolidAngle o → IsSent (Some o) (add_of emission o)
unfolding sum_range
raised-within emission o h k = between _ _ {t = Add (Known emission) (Known o)} (sum (part-between _ _ h) (part-between _ _ k)) refl

pub power-raised : (o : Option Interval) (grounds : List Interval) (emission w : Interval) → IsRaised o grounds → o ≡ Some w → IsEmission emission → IsSent o (add_of emission w)
power-raised None grounds emission w raised is h = absurd (cc)
power-raised (Some v) grounds emission w raised is h =
    let same : v ≡ w = cc in
    subst (λ (u : Interval). IsSent (Some v) (add_of emission u)) same (raised-within emission v h raised.0)

-- the attenuation by the ground in a band is one of its method
pub ground-by : (o : Option Interval) (grounds : List Interval) (i : ℕ) (d : Interval) → i < length grounds → All IsGroundEffect grounds → IsRaised o grounds → IsGroundBy o (get_or grounds i d)
ground-by None grounds i d below all raised = All-get_or IsGroundEffect grounds i d below all
ground-by (Some o) grounds i d below all raised = All-get_or IsSimpleGround grounds i d below raised.1

-- what a wall reflects per mille, as a ratio: it isn't 0, and its logarithm isn't above that of 1
ratio-of-wall : (low high : ℕ) (rho : ℕ) → low ≤ rho → rho ≤ high → high ≤ 1000 → AreBetween (floor_of (pos low *ℤ pos unit) 1000) (ceil_of (pos high *ℤ pos unit) 1000) (ratio_of (pos rho) 1000)
ratio-of-wall low high rho some few most =
    let small = ratio_of-small (pos rho) 1000 (omega (arith, few, most)) in
    let from = units-mono (pos low) (pos rho) (omega (arith, ints, some)) in
    let to = units-mono (pos rho) (pos high) (omega (arith, ints, few)) in
    rw small (record {
      lo = (floor_of-mono (pos low *ℤ pos unit) (pos rho *ℤ pos unit) 1000 (lit< tt) from, floor-to (pos rho *ℤ pos unit) (pos high *ℤ pos unit) to);
      hi = (floor-to (pos low *ℤ pos unit) (pos rho *ℤ pos unit) from, ceil_of-mono (pos rho *ℤ pos unit) (pos high *ℤ pos unit) 1000 (lit< tt) to);
    })
  where
    floor-to : (a b : ℤ) → a ≤ℤ b → floor_of a 1000 ≤ℤ ceil_of b 1000
    floor-to a b h = omega (arith, ints, floor_of-mono a b 1000 (lit< tt) h, floor_of-le-ceil_of b 1000 (lit< tt))

pub ratio-positive : (rho : ℕ) → 0 < rho → rho ≤ 1000 → IsSomeAnd (ratio_of (pos rho) 1000).lo (λ x. pos 1 ≤ℤ x)
unfolding unit
ratio-positive rho some few = low-of (ratio_of (pos rho) 1000).lo (ratio-of-wall 1 1000 rho some few (omega arith)).lo where
  low-of : (end : Option ℤ) → IsBetween (pos 4294967) (pos 4294967296) end → IsSomeAnd end (λ x. pos 1 ≤ℤ x)
  low-of None p = p
  low-of (Some z) p = omega (arith, ints, p.0)

less-than-all : (rho : ℕ) → 200 < rho → rho ≤ 999 → AreBetween (pos 858993459) (pos 4290672329) (ratio_of (pos rho) 1000)
unfolding unit
less-than-all rho some few = ratio-of-wall 200 999 rho (omega (arith, some)) few (omega arith)

part-reflected : (rho : ℕ) → 200 < rho → rho ≤ 999 → IsReflectionLevel (enc (reflection_level rho))
unfolding reflection_level unit ratio_of mul_of greatest decade_of logarithm_range
part-reflected rho some few =
    between _ _ {t = reflection_level rho} {r = Mul (Const (pos 10) 1) (Lg (Known (from_to (pos 858993459) (pos 4290672329))))}
    (product (constant (lit< tt)) (logarithm logarithm-ranged (part-between _ _ {t = Const (pos rho) 1000} (less-than-all rho some few)))) refl

all-reflected : IsReflectionLevel (enc (reflection_level 1000))
unfolding reflection_level unit ratio_of mul_of lg_of lg_low lg_high greatest decade_of digits_low digits_high turns
all-reflected = record { lo = (omega (arith, ints), omega (arith, ints)); hi = (omega (arith, ints), omega (arith, ints)) }

pub level-reflected : (rho : ℕ) → 200 < rho → rho ≤ 1000 → IsReflectionLevel (enc (reflection_level rho))
level-reflected rho some few = by (nat_le rho 999) refl where
  less : nat_le rho 999 ≡ true → rho ≤ 999
  less e = grind arith

  all : nat_le rho 999 ≡ false → rho ≡ 1000
  all e = grind arith

  by : (test : Bool) → nat_le rho 999 ≡ test → IsReflectionLevel (enc (reflection_level rho))
  by true e = part-reflected rho some (less e)
  by false e = rw (all e) all-reflected

-- ---- sums of energies

pub small-energies : (count : ℕ) (e : Interval) → count < 2 ^ 18 → IsSumOf count e → IsSmall e
small-energies count e few h = wider _ _ _ _ e (omega (arith, ints)) (omega (arith, ints, few)) h

-- ---- the level of a sum

level-end : (end : Option ℤ) → IsBetween (pos 0) (pos (290 * 2 ^ 32)) end → IsLevelEnd end
level-end None p = absurd p
level-end (Some z) p = (p.0, omega (arith, ints, p.1))

pub is-level : (i : Interval) → AreBetween (pos 0) (pos (290 * 2 ^ 32)) i → IsLevel i
is-level i p = record { low = level-end i.lo p.lo; high = level-end i.hi p.hi }

-- ---- what every source keeps of its powers

passes : {X : Type 0} (p : X → Bool) (xs : List X) (i : ℕ) (d : X) (told : Bool) → p (get_or xs i d) ≡ told → i < length xs → list_all p xs ≡ true → told ≡ true
passes p xs i d true is below all = refl
passes p xs i d false is below all = absurd (false≢true (sym (list_all_at p xs i d below is) ∙ all))

power-known : (power : Option ℤ) → is_power power ≡ true → IfSome power IsPower
power-known None is = tt
power-known (Some z) is = record { low = grind (arith, ints); high = grind (arith, ints) }

pub power-in-range : (powers : List (Option ℤ)) (i : ℕ) → i < 8 → length powers ≡ 8 → IsTrue (list_all is_power powers) → IfSome (get_or powers i None) IsPower
power-in-range powers i below eight all = power-known (get_or powers i None) (passes is_power powers i None (is_power (get_or powers i None)) refl (omega (arith, below, eight)) all)

-- ---- distances

square-within : (n : ℕ) → n < 2 ^ 66 → AreBetween (pos 0) (pos (2 ^ 79)) (ratio_of (pos n) 1000000)
unfolding unit
square-within n small =
    ratio-between (pos 0) (pos (2 ^ 47 * 1000000)) (pos n) _ _ 1000000 (lit< tt) (omega (arith, small)) (omega (arith, ints)) (omega (arith, ints, small)) refl refl refl refl

near-square : (n : ℕ) → n < 2 ^ 48 → AreBetween (pos 0) (pos (2 ^ 61)) (ratio_of (pos n) 1000000)
unfolding unit
near-square n small =
    ratio-between (pos 0) (pos (2 ^ 29 * 1000000)) (pos n) _ _ 1000000 (lit< tt) (omega (arith, small)) (omega (arith, ints)) (omega (arith, ints, small)) refl refl refl refl

pub on-map : (n : ℕ) → n < 2 ^ 48 → IsOnMap (enc (Root (Const (pos n) 1000000)))
unfolding unit root_limit root_range
on-map n small =
    between _ _ {t = Root (Const (pos n) 1000000)} (square_root (part-between _ _ {t = Const (pos n) 1000000} (near-square n small))) refl

pub distance-bounded : (n : ℕ) → n < 2 ^ 66 → IsDistance (enc (Root (Const (pos n) 1000000)))
unfolding unit root_limit root_range
distance-bounded n small =
    between _ _ {t = Root (Const (pos n) 1000000)} (square_root (part-between _ _ {t = Const (pos n) 1000000} (square-within n small))) refl

-- ---- the square of the plan length of a path by way of a wall, in m²

quotient-below : (a q k : ℕ) → 0 < q → a ≤ k * q → div_ceil a q ≤ k
quotient-below a q k some h = by_size (cases_lt (div_ceil a q) (k + 1)) where
  by_size : (div_ceil a q < k + 1) ⊎ (k + 1 ≤ div_ceil a q) → div_ceil a q ≤ k
  by_size (inl e) = omega arith
  by_size (inr e) = absurd (omega (arith, (div_ceil_times a q some).1, mul-le (k + 1) q (div_ceil a q) q e (omega arith)))

plan-ratio : (n q : ℕ) → 0 < q → n ≤ 640000000 * q → n < 2 ^ 94 → AreBetween (pos 0) (pos (640000000 * 2 ^ 32)) (ratio_of (pos n) q)
plan-ratio n q some few small =
    let fraction = ratio_of-small (pos n) q small in
    let top : div_ceil (n * unit) q ≤ 640000000 * 2 ^ 32 = quotient-below (n * unit) q (640000000 * 2 ^ 32) some (rw unit-is (omega (arith, few))) in
    let whole : n * unit / q ≤ div_ceil (n * unit) q = omega arith in
    let high : ceil_of (pos n *ℤ pos unit) q ≡ pos (div_ceil (n * unit) q) = ceil_of-pos (pos n *ℤ pos unit) q some (rw (units-is n) (omega (arith, ints))) in
    rw fraction (record {
      lo = (omega (arith, ints), omega (arith, ints, whole, top));
      hi = rw high (omega (arith, ints), omega (arith, ints, top));
    })

plan-square : (n d : ℤ) → pos 0 <ℤ d → pos 0 ≤ℤ n → unsigned_abs n ≤ 640000000000000 * unsigned_abs d → unsigned_abs d ≤ 68718952449
    → AreBetween (pos 0) (pos (640000000 * 2 ^ 32)) (ratio_of n (unsigned_abs d * 1000000))
plan-square (negsuc n) d some from few wall = absurd (omega (arith, ints))
plan-square (pos n) (negsuc d) some from few wall = absurd (omega (arith, ints))
plan-square (pos n) (pos d) some from few wall = plan-ratio n (d * 1000000) (omega (arith, ints)) (omega (arith, few)) (omega (arith, few, wall))

-- both ends of a fraction are at most one unit apart
plan-close : (n q : ℕ) → 0 < q → n < 2 ^ 94 → IsSomeAnd (ratio_of (pos n) q).lo (λ low. IsSomeAnd (ratio_of (pos n) q).hi (λ high. (low ≤ℤ high) × (high ≤ℤ (low +ℤ pos 1))))
plan-close n q some small =
    let fraction = ratio_of-small (pos n) q small in
    let high : ceil_of (pos n *ℤ pos unit) q ≡ pos (div_ceil (n * unit) q) = ceil_of-pos (pos n *ℤ pos unit) q some (rw (units-is n) (omega (arith, ints))) in
    let near : div_ceil (n * unit) q ≤ n * unit / q + 1 = omega arith in
    let ordered : n * unit / q ≤ div_ceil (n * unit) q = omega arith in
    rw fraction (rw high (omega (arith, ints, ordered), omega (arith, ints, near)))

square-close : (n d : ℤ) → pos 0 <ℤ d → pos 0 ≤ℤ n → unsigned_abs n ≤ 640000000000000 * unsigned_abs d → unsigned_abs d ≤ 68718952449
    → IsSomeAnd (ratio_of n (unsigned_abs d * 1000000)).lo (λ low. IsSomeAnd (ratio_of n (unsigned_abs d * 1000000)).hi (λ high. (low ≤ℤ high) × (high ≤ℤ (low +ℤ pos 1))))
square-close (negsuc n) d some from few wall = absurd (omega (arith, ints))
square-close (pos n) (negsuc d) some from few wall = absurd (omega (arith, ints))
square-close (pos n) (pos d) some from few wall = plan-close n (d * 1000000) (omega (arith, ints)) (omega (arith, few, wall))

pub is-plan_square : (square : Frac) → IsPathSquare square → IsPlanSquare (ratio_of square.n (unsigned_abs square.d * 1000000))
is-plan_square square h = record {
  bounds = wider _ _ _ _ (ratio_of square.n (unsigned_abs square.d * 1000000)) (omega (arith, ints)) (omega (arith, ints)) (plan-square square.n square.d square.positive h.from_zero h.length h.wall);
  close = square-close square.n square.d square.positive h.from_zero h.length h.wall;
}

-- the square of the plan length of the direct path
pub direct-square : (n : ℕ) → n ≤ 128000000000000 → IsPathSquare (over (pos n) (pos 1))
direct-square n h = record { from_zero = omega (arith, ints); length = omega (arith, h); wall = omega arith }

-- where there is D_Omega the ground goes by the alternative method
pub raised-by : (method : Ground) (path : Path) (square : Tree) (o : Option Interval) (grounds : List Interval) → o ≡ omega_along method path square → IfSome o IsSolidAngle
    → (method ≡ methods.Simple → All IsSimpleGround grounds) → IsRaised o grounds
raised-by methods.General path square o grounds is bounds simple = subst (λ (w : Option Interval). IsRaised w grounds) (sym is) tt
raised-by methods.Simple path square None grounds is bounds simple = absurd (cc)
raised-by methods.Simple path square (Some w) grounds is bounds simple = (bounds, simple refl)

pub reflected-distance-bounded : (square : Frac) (m : ℕ) → IsPathSquare square → m < 2 ^ 48 → IsDistance (enc (Root (Add (Const square.n (unsigned_abs square.d * 1000000)) (Const (pos m) 1000000))))
unfolding unit sum_range root_limit root_range
reflected-distance-bounded square m h small =
    let along = plan-square square.n square.d square.positive h.from_zero h.length h.wall in
    between _ _ {t = Root (Add (Const square.n (unsigned_abs square.d * 1000000)) (Const (pos m) 1000000))}
    (square_root (sum (part-between _ _ {t = Const square.n (unsigned_abs square.d * 1000000)} along) (part-between _ _ {t = Const (pos m) 1000000} (near-square m small)))) refl
