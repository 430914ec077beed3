-- Sums of energies, end by end.
use Rattle.std.proofs.Common.{◌≡◌, ℕ, suc, ◌+◌, ◌-◌, ◌*◌, ◌<◌, ◌≤◌, ◌^◌, ℤ, pos, negsuc, ◌≤ℤ◌, Option, List, [], ◌∷◌, ◌++◌, length, get_or, refl, sym, ap, ◌∙◌, subst, arith, lit<, inl, inr}
use Rattle.std.specs.Prelude.{◌<ℤ◌, ◌⊎◌, Some, None, IsSomeAnd, sum_by, All, slice_set}
use Rattle.std.proofs.lemmas.Int.{ints}
use Rattle.std.proofs.lemmas.List.Sums.{sum_by-append, sum_by-cons, sum_by-le}
use Rattle.std.proofs.lemmas.Bool.{cases_lt}
use Rattle.std.proofs.lemmas.List.{get_or-set_same, get_or-set_other}
use Rattle.std.proofs.lemmas.List.Elements.{All-cons}
use Rattle.std.proofs.Math.IntN.{zero-*ℤ}
use Rattle.fix_interval.specs.Units.{unit}
use Rattle.fix_interval.specs.Interval.{Interval, IsInterval, IsOrdered}
use Rattle.fix_interval.specs.Values.{ratio_of, add_of}
use Rattle.fix_interval.proofs.Ratios.{ratio_of-one}
use Rattle.fix_interval.proofs.Multiplying.{end_of-small}
use Rattle.energy_sum.specs.Sums.{units_of}
use Rattle.path_calc.specs.Bundles.{Bundle, IsEnergy, energy_limit}
use Rattle.path_cache.specs.declared.sums.RowSums.{RowSums}
use Rattle.path_cache.specs.Sums.{IsSumOver, CanBeSummed, HasEnergies, Fits, energy_at, sum_at}
use Rattle.path_cache.specs.inner.TakingOff.{HasRoom, HaveRoom, IsPartOf, ArePartOf}

-- ---- elements

-- what holds of all of a list with an element in its midst holds of that element, and of all without it
pub All-tail : {X : Type 0} (P : X → Type 0) (x : X) (xs : List X) → All P (x ∷ xs) → All P xs
All-tail P x xs all = λ k d below. all (suc k) d (omega (arith, below))

pub All-here : {X : Type 0} (P : X → Type 0) (front : List X) (x : X) (back : List X) → All P (front ++ x ∷ back) → P x
All-here P [] x back all = all 0 x (omega arith)
All-here P (y ∷ ys) x back all = All-here P ys x back (All-tail P y (ys ++ x ∷ back) all)

pub All-without : {X : Type 0} (P : X → Type 0) (front : List X) (x : X) (back : List X) → All P (front ++ x ∷ back) → All P (front ++ back)
All-without P [] x back all = All-tail P x back all
All-without P (y ∷ ys) x back all =
    All-cons P y (ys ++ back) (all 0 y (omega arith)) (All-without P ys x back (All-tail P y (ys ++ x ∷ back) all))

pub All-with : {X : Type 0} (P : X → Type 0) (front : List X) (x : X) (back : List X) → P x → All P (front ++ back) → All P (front ++ x ∷ back)
All-with P [] x back here all = All-cons P x back here all
All-with P (y ∷ ys) x back here all =
    All-cons P y (ys ++ x ∷ back) (all 0 y (omega arith)) (All-with P ys x back here (All-tail P y (ys ++ back) all))

-- what holds at each place so far, and at the next one, where an element is set
pub so-far : {A : Type 0} (P : ℕ → A → Type 0) (xs : List A) (i : ℕ) (y d : A) → i < length xs → ((k : ℕ) → k < i → P k (get_or xs k d)) → P i y
    → (k : ℕ) → k < i + 1 → P k (get_or (slice_set xs i y) k d)
so-far P xs i y d inside done now k below = by_case (cases_lt k i) where
  by_case : (k < i) ⊎ (i ≤ k) → P k (get_or (slice_set xs i y) k d)
  by_case (inl less) = subst (P k) (sym (get_or-set_other xs i k y d (λ same. absurd (omega (arith, less, same))))) (done k less)
  by_case (inr more) =
      let same : i ≡ k = omega (arith, more, below) in
      subst (λ j. P j (get_or (slice_set xs i y) j d)) same (subst (P i) (sym (get_or-set_same xs i y d inside)) now)

pub from-then-on : {A : Type 0} (xs ys : List A) (i : ℕ) (y d : A) → ((k : ℕ) → i ≤ k → get_or xs k d ≡ get_or ys k d)
    → (k : ℕ) → i + 1 ≤ k → get_or (slice_set xs i y) k d ≡ get_or ys k d
from-then-on xs ys i y d rest k above =
    get_or-set_other xs i k y d (λ same. absurd (omega (arith, above, same))) ∙ rest k (omega (arith, above))

-- ---- energies

-- what every energy of a bundle is
pub can-be : (e : Interval) → IsEnergy e → IsInterval e → CanBeSummed e
can-be e energy whole = by_ends e.lo e.hi energy.low energy.high whole.ordered where
  by_ends : (lo hi : Option ℤ) → IsSomeAnd lo (λ z. pos 0 ≤ℤ z) → IsSomeAnd hi (λ z. (pos 0 ≤ℤ z) × (z <ℤ pos energy_limit)) → IsOrdered lo hi
      → CanBeSummed (record { lo = lo; hi = hi })
  by_ends None hi low high ordered = absurd low
  by_ends (Some x) None low high ordered = absurd high
  by_ends (Some (negsuc m)) (Some y) low high ordered = absurd (omega (arith, ints, low))
  by_ends (Some (pos m)) (Some (negsuc n)) low high ordered = absurd (omega (arith, ints, high.0))
  by_ends (Some (pos m)) (Some (pos n)) low high ordered =
      record { low = refl; high = refl; ordered = omega (arith, ints, ordered); bounded = omega (arith, ints, high.1) }

-- an end that is known and not below 0
from-zero : (end : Option ℤ) → end ≡ Some (pos (units_of end)) → IsSomeAnd end (λ z. pos 0 ≤ℤ z)
from-zero end is = subst (λ (o : Option ℤ). IsSomeAnd o (λ z. pos 0 ≤ℤ z)) (sym is) (omega (arith, ints))

abbrev pub ends : Option ℤ → Option ℤ → Interval
ends lo hi = record { lo = lo; hi = hi }

-- ends are added where what they make is small
pub added-ends : (s e : Interval) (m n x y : ℕ) → s.lo ≡ Some (pos m) → s.hi ≡ Some (pos n) → e.lo ≡ Some (pos x) → e.hi ≡ Some (pos y)
    → m + x < 2 ^ 126 → n + y < 2 ^ 126 → add_of s e ≡ ends (Some (pos (m + x))) (Some (pos (n + y)))
unfolding add_of
added-ends s e m n x y s_lo s_hi e_lo e_hi low high =
    rw (s_lo, s_hi, e_lo, e_hi, end_of-small (pos (m + x)) low, end_of-small (pos (n + y)) high) refl

pub nothing-is : ratio_of (pos 0) 1 ≡ ends (Some (pos 0)) (Some (pos 0))
nothing-is = ratio_of-one (pos 0) (lit< tt) ∙ ap (λ (z : ℤ). ends (Some z) (Some z)) (zero-*ℤ (pos unit))

-- ---- the sum of one energy of each bundle

module _ (f : Bundle → Interval) where
  abbrev pub lows : List Bundle → ℕ
  lows bundles = sum_by (λ bundle. units_of (f bundle).lo) bundles

  abbrev pub highs : List Bundle → ℕ
  highs bundles = sum_by (λ bundle. units_of (f bundle).hi) bundles

  abbrev AreEnergies : List Bundle → Type 0
  AreEnergies bundles = All (λ bundle. CanBeSummed (f bundle)) bundles

  pub lows-le-highs : (bundles : List Bundle) → AreEnergies bundles → lows bundles ≤ highs bundles
  lows-le-highs [] each = omega arith
  lows-le-highs (b ∷ bs) each =
      let first : CanBeSummed (f b) = each 0 b (omega arith) in
      omega (arith, sum_by-cons (λ bundle. units_of (f bundle).lo) b bs, sum_by-cons (λ bundle. units_of (f bundle).hi) b bs, first.ordered, lows-le-highs bs (All-tail (λ bundle. CanBeSummed (f bundle)) b bs each))

  pub highs-bounded : (bundles : List Bundle) → AreEnergies bundles → highs bundles ≤ length bundles * (energy_limit - 1)
  highs-bounded bundles each =
      sum_by-le (λ bundle. units_of (f bundle).hi) (energy_limit - 1) bundles (λ k d below. omega (arith, (each k d below).bounded))

  pub none-summed : (sum : Interval) → sum ≡ ratio_of (pos 0) 1 → IsSumOver f [] sum
  none-summed sum is = record { low = ap (λ (i : Interval). i.lo) (is ∙ nothing-is); high = ap (λ (i : Interval). i.hi) (is ∙ nothing-is) }

  pub low-units : (bundles : List Bundle) (sum : Interval) → IsSumOver f bundles sum → units_of sum.lo ≡ lows bundles
  low-units bundles sum is = ap units_of is.low

  pub high-units : (bundles : List Bundle) (sum : Interval) → IsSumOver f bundles sum → units_of sum.hi ≡ highs bundles
  high-units bundles sum is = ap units_of is.high

  pub has-room : (bundles : List Bundle) (sum : Interval) → IsSumOver f bundles sum → AreEnergies bundles → length bundles ≤ 256 → HasRoom sum
  has-room bundles sum is each few = omega (arith, high-units bundles sum is, highs-bounded bundles each, few)

  lows-between : (front : List Bundle) (b : Bundle) (back : List Bundle) → lows (front ++ b ∷ back) ≡ lows (front ++ back) + units_of (f b).lo
  lows-between front b back =
      let low = λ (bundle : Bundle). units_of (f bundle).lo in
      omega (arith, sum_by-append low front (b ∷ back), sum_by-cons low b back, sum_by-append low front back)

  highs-between : (front : List Bundle) (b : Bundle) (back : List Bundle) → highs (front ++ b ∷ back) ≡ highs (front ++ back) + units_of (f b).hi
  highs-between front b back =
      let high = λ (bundle : Bundle). units_of (f bundle).hi in
      omega (arith, sum_by-append high front (b ∷ back), sum_by-cons high b back, sum_by-append high front back)

  -- one energy more
  pub one-more : (front : List Bundle) (b : Bundle) (back : List Bundle) (old : Interval) → IsSumOver f (front ++ back) old → AreEnergies (front ++ back) → CanBeSummed (f b)
      → HasRoom old → IsSumOver f (front ++ b ∷ back) (add_of old (f b))
  one-more front b back old is each energy room =
      let all = front ++ back in
      let high : highs all + units_of (f b).hi < 2 ^ 126 = omega (arith, high-units all old is, energy.bounded, room) in
      let low : lows all + units_of (f b).lo < 2 ^ 126 = omega (arith, high, energy.ordered, lows-le-highs all each) in
      let made = added-ends old (f b) (lows all) (highs all) (units_of (f b).lo) (units_of (f b).hi) is.low is.high energy.low energy.high low high in
      record {
        low = ap (λ (i : Interval). i.lo) made ∙ ap (λ n. Some (pos n)) (sym (lows-between front b back));
        high = ap (λ (i : Interval). i.hi) made ∙ ap (λ n. Some (pos n)) (sym (highs-between front b back));
      }

  -- one of the energies can be taken off, and then the sum is that of the others
  pub part-of : (front : List Bundle) (b : Bundle) (back : List Bundle) (old : Interval) → IsSumOver f (front ++ b ∷ back) old → AreEnergies (front ++ b ∷ back)
      → IsPartOf old (f b)
  part-of front b back old is each =
      let energy : CanBeSummed (f b) = All-here (λ bundle. CanBeSummed (f bundle)) front b back each in
      let others = lows-le-highs (front ++ back) (All-without (λ bundle. CanBeSummed (f bundle)) front b back each) in
      let low = low-units (front ++ b ∷ back) old is in
      let high = high-units (front ++ b ∷ back) old is in
      record {
        low = from-zero (f b).lo energy.low;
        high = from-zero (f b).hi energy.high;
        part = omega (arith, low, lows-between front b back);
        ordered = omega (arith, low, high, lows-between front b back, highs-between front b back, others);
      }

  pub one-less : (front : List Bundle) (b : Bundle) (back : List Bundle) (old new : Interval) → IsSumOver f (front ++ b ∷ back) old
      → new.lo ≡ Some (pos (units_of old.lo - units_of (f b).lo)) → new.hi ≡ Some (pos (units_of old.hi - units_of (f b).hi))
      → IsSumOver f (front ++ back) new
  one-less front b back old new is low high =
      let less : units_of old.lo - units_of (f b).lo ≡ lows (front ++ back) = omega (arith, low-units (front ++ b ∷ back) old is, lows-between front b back) in
      let less_high : units_of old.hi - units_of (f b).hi ≡ highs (front ++ back) = omega (arith, high-units (front ++ b ∷ back) old is, highs-between front b back) in
      record { low = low ∙ ap (λ n. Some (pos n)) less; high = high ∙ ap (λ n. Some (pos n)) less_high }

-- ---- sums of rows

abbrev long_of : Bundle → Interval
long_of bundle = bundle.long

pub longs : (bundles : List Bundle) → All HasEnergies bundles → All (λ bundle. CanBeSummed (long_of bundle)) bundles
longs bundles each = λ k d below. (each k d below).long

pub bands : (place : ℕ) → place < 8 → (bundles : List Bundle) → All HasEnergies bundles → All (λ bundle. CanBeSummed (energy_at place bundle)) bundles
bands place below bundles each = λ k d inside. (each k d inside).bands place below

pub have-room : (bundles : List Bundle) (sums : RowSums) → Fits sums bundles → length bundles ≤ 256 → HaveRoom sums
have-room bundles sums fit few = record {
  total = has-room long_of bundles sums.total fit.total (longs bundles fit.each) few;
  bands = λ place below. has-room (energy_at place) bundles (sum_at place sums) (fit.bands place below) (bands place below bundles fit.each) few;
}

pub fits-more : (front : List Bundle) (b : Bundle) (back : List Bundle) (old new : RowSums) → Fits old (front ++ back) → HasEnergies b → HaveRoom old
    → new.total ≡ add_of old.total b.long → ((place : ℕ) → place < 8 → sum_at place new ≡ add_of (sum_at place old) (energy_at place b))
    → Fits new (front ++ b ∷ back)
fits-more front b back old new fit energies room total_is band_is =
    let all = front ++ back in record {
      each = All-with HasEnergies front b back energies fit.each;
      total = subst (IsSumOver long_of (front ++ b ∷ back)) (sym total_is) (one-more long_of front b back old.total fit.total (longs all fit.each) energies.long room.total);
      bands = λ place below.
          subst (IsSumOver (energy_at place) (front ++ b ∷ back)) (sym (band_is place below))
          (one-more (energy_at place) front b back (sum_at place old) (fit.bands place below) (bands place below all fit.each) (energies.bands place below) (room.bands place below));
    }

pub are-part : (front : List Bundle) (b : Bundle) (back : List Bundle) (sums : RowSums) → Fits sums (front ++ b ∷ back) → ArePartOf sums b
are-part front b back sums fit = record {
  total = part-of long_of front b back sums.total fit.total (longs (front ++ b ∷ back) fit.each);
  bands = λ place below. part-of (energy_at place) front b back (sum_at place sums) (fit.bands place below) (bands place below (front ++ b ∷ back) fit.each);
}

pub fits-less : (front : List Bundle) (b : Bundle) (back : List Bundle) (old new : RowSums) → Fits old (front ++ b ∷ back)
    → new.total.lo ≡ Some (pos (units_of old.total.lo - units_of b.long.lo)) → new.total.hi ≡ Some (pos (units_of old.total.hi - units_of b.long.hi))
    → ((place : ℕ) → place < 8 → (sum_at place new).lo ≡ Some (pos (units_of (sum_at place old).lo - units_of (energy_at place b).lo)))
    → ((place : ℕ) → place < 8 → (sum_at place new).hi ≡ Some (pos (units_of (sum_at place old).hi - units_of (energy_at place b).hi)))
    → Fits new (front ++ back)
fits-less front b back old new fit low high lows_are highs_are = record {
  each = All-without HasEnergies front b back fit.each;
  total = one-less long_of front b back old.total new.total fit.total low high;
  bands = λ place below. one-less (energy_at place) front b back (sum_at place old) (sum_at place new) (fit.bands place below) (lows_are place below) (highs_are place below);
}
