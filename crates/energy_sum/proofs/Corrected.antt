-- The meteorological correction is bounded.
use Rattle.std.proofs.Common.{◌≡◌, ℕ, ◌+◌, ◌*◌, ◌/◌, ◌<◌, ◌≤◌, ◌^◌, ℤ, pos, negsuc, ◌+ℤ◌, ◌*ℤ◌, ◌≤ℤ◌, ◌<ℤ◌, refl, sym, ap, ◌∙◌, subst, arith, lit<, inl, inr}
use Rattle.std.specs.Prelude.{Option, Some, None, ◌⊎◌, int_lt, int_le, Bool, true, false}
use Rattle.std.specs.Int.{div_ceil}
use Rattle.std.proofs.lemmas.Int.{ints}
use Rattle.fix_interval.specs.Units.{unit, unit-is}
use Rattle.fix_interval.specs.Interval.{Interval, IsInterval}
use Rattle.fix_interval.specs.Bounds.{IsBetween, AreBetween}
use Rattle.fix_interval.specs.Round.{floor_of, ceil_of}
use Rattle.fix_interval.specs.Values.{ratio_of, neg_of, mul_of, div_of, hull_of, pick_of, less_of}
use Rattle.fix_interval.specs.Ranges.{constant, sum, negation, product, quotient, choice, sum_range, quotient_range}
use Rattle.fix_interval.specs.Tree.{Known, Const, Div, enc}
use Rattle.fix_interval.specs.declared.truth.Truth.TheVariants.{Never}
use Rattle.fix_interval.proofs.Ratios.{ratio_of-small}
use Rattle.fix_interval.proofs.Rounding.{ceil_of-mono, ceil_of-scaled, ceil_of-one, ceil_of-pos, floor_of-le-ceil_of, floor_of-anti}
use Rattle.fix_interval.proofs.RangedFormulas.{between, part-between}
use Rattle.fix_interval.proofs.Dividing.{≤ℤ_trans, quotient_of_ends-positive, least_by_positive, greatest_by_positive, units-mono}
use Rattle.energy_sum.specs.Weather.{correction, correction_from, IsLengthInPlan, IsCorrectable, IsWeatherCorrection}

-- the ends of an interval whose ends are bounded
record Ends (i : Interval) (low high : ℤ) : Type 0 where
  lo_is : i.lo ≡ Some low
  hi_is : i.hi ≡ Some high
  ordered : low ≤ℤ high

-- ---- 10 (h_s + h_r)

whole : (k d : ℕ) → 0 < d → ceil_of (pos k *ℤ pos d) d ≡ pos k
whole k d some =
    let one : 1 * d ≡ d = omega arith in
    ap (ceil_of (pos k *ℤ pos d)) (sym one) ∙ ceil_of-scaled (pos k) 1 d (lit< tt) some ∙ ceil_of-one (pos k)

record Reach (i : Interval) : Type 0 where
  low : ℕ
  high : ℕ
  ends : Ends i (pos low) (pos high)
  close : high ≤ low + 1
  some : 2 ^ 25 + 2 ^ 17 ≤ low
  within : high ≤ 2 ^ 43

-- what is rounded up is at most 1 above what is rounded down
nearest : (n : ℕ) → ceil_of (pos n) 1000 ≤ℤ (floor_of (pos n) 1000 +ℤ pos 1)
nearest n =
    subst (λ (z : ℤ). ceil_of (pos n) 1000 ≤ℤ z) (whole (n / 1000 + 1) 1000 (lit< tt))
    (ceil_of-mono (pos n) (pos (n / 1000 + 1) *ℤ pos 1000) 1000 (lit< tt) (omega (arith, ints)))

reach : (h : ℕ) → 0 < h → h ≤ 200000 → Reach (ratio_of (pos (10 * h)) 1000)
reach h some few =
    let is = ratio_of-small (pos (10 * h)) 1000 (omega arith) in
    let n = 10 * h * unit in
    let up : ceil_of (pos n) 1000 ≡ pos (div_ceil n 1000) = ceil_of-pos (pos n) 1000 (lit< tt) (omega (arith, ints)) in
    record {
      low = n / 1000;
      high = div_ceil n 1000;
      ends = record {
        lo_is = ap (λ (i : Interval). i.lo) is;
        hi_is = ap (λ (i : Interval). i.hi) is ∙ ap Some up;
        ordered = subst (λ (z : ℤ). pos (n / 1000) ≤ℤ z) up (floor_of-le-ceil_of (pos n) 1000 (omega arith));
      };
      close = omega (arith, ints, up, nearest n);
      some = rw unit-is (omega arith);
      within = omega (arith, ints, up, ceil_of-mono (pos n) (pos (2 ^ 43) *ℤ pos 1000) 1000 (lit< tt) (rw unit-is (omega (arith, ints))), whole (2 ^ 43) 1000 (lit< tt));
    }

-- ---- its part of a plan length that is above it, by the ends that are nearest to each other

highest : (b bl : ℕ) → 2 ^ 25 ≤ bl → b ≤ bl + 2 ^ 17 + 1 → ceil_of (pos b *ℤ pos unit) bl ≤ℤ pos (2 ^ 32 + 2 ^ 25)
highest b bl some close =
    let positive : 0 < bl = omega (arith, some) in
    subst (λ (z : ℤ). ceil_of (pos b *ℤ pos unit) bl ≤ℤ z) (whole (2 ^ 32 + 2 ^ 25) bl positive)
    (ceil_of-mono (pos b *ℤ pos unit) (pos (2 ^ 32 + 2 ^ 25) *ℤ pos bl) bl positive (rw unit-is (omega (arith, ints, some, close))))

quotient-between : (i j : Interval) (a b bl bh : ℕ) → Ends i (pos a) (pos b) → Ends j (pos bl) (pos bh) → b ≤ 2 ^ 43 → 2 ^ 25 ≤ bl → b ≤ bl + 2 ^ 17 + 1
    → AreBetween (pos 0) (pos (2 ^ 32 + 2 ^ 25)) (div_of i j)
unfolding div_of
quotient-between i j a b bl bh e f top some close =
    let positive : 0 < bl = omega (arith, some) in
    let more : a ≤ b = omega (arith, ints, e.ordered) in
    let floor : pos 0 ≤ℤ floor_of (pos a *ℤ pos unit) bh = omega (arith, ints) in
    let least = floor_of-anti (a * unit) bl bh positive (omega (arith, ints, f.ordered)) in
    let order = floor_of-le-ceil_of (pos a *ℤ pos unit) bl positive in
    let above = ceil_of-mono (pos a *ℤ pos unit) (pos b *ℤ pos unit) bl positive (units-mono (pos a) (pos b) e.ordered) in
    let limit = highest b bl some close in
    rw (e.lo_is, e.hi_is, f.lo_is, f.hi_is, quotient_of_ends-positive (pos a) (pos b) (pos bl) (pos bh) (omega (arith, ints, positive)) f.ordered e.ordered (omega (arith, more, top)) (omega (arith, top)), least_by_positive (pos a *ℤ pos unit) (pos bl) (pos bh) (omega (arith, ints, positive)) f.ordered (omega (arith, ints)), greatest_by_positive (pos b *ℤ pos unit) (pos bl) (pos bh) (omega (arith, ints, positive)) f.ordered (omega (arith, ints)))
    (record { lo = (floor, omega (arith, ints, least, order, above, limit)); hi = (omega (arith, ints, floor, least, order, above), limit) })

-- ---- C_met

-- a length up to the reach is never above it
never : (r d : Interval) (a b c e : ℤ) → Ends r a b → Ends d c e → e ≤ℤ a → less_of r d ≡ Never
unfolding less_of
never r d a b c e er ed ea = rw (er.lo_is, er.hi_is, ed.lo_is, ed.hi_is, above, reached) refl where
  above : int_lt b c ≡ false
  above = grind (arith, ints, er.ordered, ed.ordered)

  reached : int_le e a ≡ true
  reached = grind (arith, ints)

pub zero-between : IsWeatherCorrection (ratio_of (pos 0) 1)
unfolding ratio_of unit
zero-between = record { lo = (omega (arith, ints), omega (arith, ints)); hi = (omega (arith, ints), omega (arith, ints)) }

c_0-between : (c0 : ℕ) → c0 ≤ 1000 → AreBetween (pos 0) (pos (10 * 2 ^ 32)) (ratio_of (pos c0) 100)
c_0-between c0 h =
    let floor : pos 0 ≤ℤ floor_of (pos c0 *ℤ pos unit) 100 = omega (arith, ints) in
    let order = floor_of-le-ceil_of (pos c0 *ℤ pos unit) 100 (omega arith) in
    let top : ceil_of (pos c0 *ℤ pos unit) 100 ≤ℤ pos (10 * 2 ^ 32) = ceil_of-mono (pos c0 *ℤ pos unit) (pos (1000 * 2 ^ 32)) 100 (omega arith) (rw unit-is (omega (arith, ints))) in
    rw (ratio_of-small (pos c0) 100 (omega arith))
    (record { lo = (floor, ≤ℤ_trans _ _ _ order top); hi = (≤ℤ_trans _ _ _ floor order, top) })

long-between : (dp : Interval) (hs hr c0 : ℕ) → c0 ≤ 1000 → AreBetween (pos 0) (pos (2 ^ 32 + 2 ^ 25)) (div_of (enc (correction_from hs hr)) dp) → IsWeatherCorrection (enc (correction (Known dp) hs hr c0))
unfolding correction unit ratio_of mul_of hull_of neg_of sum_range
long-between dp hs hr c0 h k =
    between _ _ {t = correction (Known dp) hs hr c0}
    (choice {z = Const (pos 0) 1} {w = Const (pos 0) 1} (product (part-between _ _ {t = Const (pos c0) 100} (c_0-between c0 h)) (sum (constant (lit< tt)) (negation (part-between _ _ {t = Div (correction_from hs hr) (Known dp)} k)))) (constant (lit< tt))) refl

either : (a b : ℤ) → (a ≤ℤ b) ⊎ (b <ℤ a)
either a b = by_test (int_le a b) refl where
  by_test : (test : Bool) → int_le a b ≡ test → (a ≤ℤ b) ⊎ (b <ℤ a)
  by_test true e = inl (grind (arith, ints))
  by_test false e = inr (grind (arith, ints))

-- the ends of a length in plan
record Found (dp : Interval) : Type 0 where
  low : ℕ
  high : ℕ
  ends : Ends dp (pos low) (pos high)
  close : high ≤ low + 2 ^ 17

found : (lo hi : Option ℤ) → IsInterval (record { lo = lo; hi = hi }) → IsLengthInPlan (record { lo = lo; hi = hi }) → Found (record { lo = lo; hi = hi })
found None hi i h = absurd h.bounds.lo
found (Some low) None i h = absurd h.bounds.hi
found (Some (negsuc low)) (Some high) i h = absurd (omega (arith, ints, h.bounds.lo.0))
found (Some (pos low)) (Some (negsuc high)) i h = absurd (omega (arith, ints, h.bounds.hi.0))
found (Some (pos low)) (Some (pos high)) i h =
    record { low = low; high = high; ends = record { lo_is = refl; hi_is = refl; ordered = i.ordered }; close = omega (arith, ints, h.close) }

-- a length up to the reach, and one that may be beyond it
by_length : (dp : Interval) (hs hr c0 : ℕ) → c0 ≤ 1000 → Found dp → Reach (enc (correction_from hs hr)) → IsWeatherCorrection (enc (correction (Known dp) hs hr c0))
unfolding correction pick_of
by_length dp hs hr c0 few d r = by_size (either (pos d.high) (pos r.low)) where
  by_size : (pos d.high ≤ℤ pos r.low) ⊎ (pos r.low <ℤ pos d.high) → IsWeatherCorrection (enc (correction (Known dp) hs hr c0))
  by_size (inl h) = rw (never (enc (correction_from hs hr)) dp (pos r.low) (pos r.high) (pos d.low) (pos d.high) r.ends d.ends h) zero-between
  by_size (inr h) =
      long-between dp hs hr c0 few
      (quotient-between (enc (correction_from hs hr)) dp r.low r.high d.low d.high r.ends d.ends r.within (omega (arith, ints, h, r.some, d.close)) (omega (arith, ints, h, r.close, d.close)))

pub correction-between : (dp : Interval) (hs hr c0 : ℕ) → IsInterval dp → IsLengthInPlan dp → IsCorrectable hs hr c0 → IsWeatherCorrection (enc (correction (Known dp) hs hr c0))
correction-between dp hs hr c0 interval length h =
    by_length dp hs hr c0 h.most (found dp.lo dp.hi interval length) (reach (hs + hr) h.above_ground (omega (arith, h.source, h.receiver)))

-- ---- where C_0 is 0

from-between : (hs hr : ℕ) → hs < 2 ^ 32 → hr < 2 ^ 32 → AreBetween (pos 0) (pos (2 ^ 60)) (enc (correction_from hs hr))
from-between hs hr few few' =
    let n = 10 * (hs + hr) in
    let floor : pos 0 ≤ℤ floor_of (pos n *ℤ pos unit) 1000 = omega (arith, ints) in
    let order = floor_of-le-ceil_of (pos n *ℤ pos unit) 1000 (omega arith) in
    let top : ceil_of (pos n *ℤ pos unit) 1000 ≤ℤ pos (2 ^ 60) = ceil_of-mono (pos n *ℤ pos unit) (pos (1000 * 2 ^ 60)) 1000 (omega arith) (rw unit-is (omega (arith, ints))) in
    rw (ratio_of-small (pos n) 1000 (omega arith))
    (record { lo = (floor, ≤ℤ_trans _ _ _ order top); hi = (≤ℤ_trans _ _ _ floor order, top) })

-- between 0 and 0 there is 0 alone
zero-alone : (i : Interval) → AreBetween (pos 0) (pos 0) i → i ≡ enc (Const (pos 0) 1)
unfolding ratio_of unit
zero-alone i h = both i.lo i.hi h.lo h.hi where
  zero : (z : ℤ) → pos 0 ≤ℤ z → z ≤ℤ pos 0 → z ≡ pos 0
  zero z low high = omega (arith, ints)

  both : (lo hi : Option ℤ) → IsBetween (pos 0) (pos 0) lo → IsBetween (pos 0) (pos 0) hi → ◌≡◌ {A = Interval} (record { lo = lo; hi = hi }) (enc (Const (pos 0) 1))
  both None hi l h = absurd l
  both (Some l) None low high = absurd high
  both (Some l) (Some h) low high = rw (zero l low.0 low.1, zero h high.0 high.1) refl

pub nothing-due : (dp : Interval) (hs hr : ℕ) → hs < 2 ^ 32 → hr < 2 ^ 32 → AreBetween (pos 1) (pos (2 ^ 56)) dp → enc (correction (Known dp) hs hr 0) ≡ enc (Const (pos 0) 1)
unfolding correction unit ratio_of mul_of div_of hull_of neg_of sum_range quotient_range
nothing-due dp hs hr few few' length =
    zero-alone (enc (correction (Known dp) hs hr 0))
    (between _ _ {t = correction (Known dp) hs hr 0}
    (choice {z = Const (pos 0) 1} {w = Const (pos 0) 1} (product (constant (lit< tt)) (sum (constant (lit< tt)) (negation (quotient (part-between _ _ {t = correction_from hs hr} (from-between hs hr few few')) (part-between _ _ {t = Known dp} length))))) (constant (lit< tt))) refl)
