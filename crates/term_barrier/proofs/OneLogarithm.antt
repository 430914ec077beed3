-- Where high ends are bounded, D_z of the greatest number under a logarithm is the greatest D_z: at both ends it grows with
-- the number. The limit of a single edge is reached at 100, and what doesn't screen counts as 1.
use Rattle.std.proofs.Common.{◌≡◌, ℕ, ◌*◌, ◌<◌, ◌≤◌, ◌^◌, min, max, ℤ, pos, negsuc, ◌*ℤ◌, ◌≤ℤ◌, ap, sym, refl, ◌∙◌, arith, inl, inr}
use Rattle.std.specs.Prelude.{Option, Some, None, IsSome, unsigned_abs}
use Rattle.std.specs.Int.{int_min, int_max}
use Rattle.std.proofs.lemmas.Int.{ints, clamps}
use Rattle.std.proofs.lemmas.Bool.{cases_lt, false≢true}
use Rattle.fix_interval.specs.Units.{unit}
use Rattle.fix_interval.specs.Interval.{Interval, IsInterval, IsEnd, IsOrdered}
use Rattle.fix_interval.specs.Round.{floor_of, ceil_of}
use Rattle.fix_interval.specs.Values.{ratio_of, end_of, greater_low, greater_high, lesser_low, lesser_high, max_of, min_of, hull_of, pick_of, mul_of, least_product, greatest_product, rounded_outward}
use Rattle.fix_interval.specs.Lg.{lg_low, lg_high, lg_of, decade_of, greatest, digits_low, digits_high, turns}
use Rattle.fix_interval.specs.declared.truth.Truth.{Truth}
use Rattle.fix_interval.specs.declared.truth.Truth.TheVariants.{Sure, Never, Unsure}
use Rattle.fix_interval.specs.Tree.{Known, enc}
use Rattle.fix_interval.proofs.Intervals.{IsInterval-max_of, IsInterval-min_of, IsInterval-hull_of}
use Rattle.fix_interval.proofs.Multiplying.{end_of-small}
use Rattle.fix_interval.proofs.Ratios.{ratio_of-one, IsInterval-Const}
use Rattle.fix_interval.proofs.Rounding.{floor_of-scaled, floor_of-one, ceil_of-scaled, ceil_of-one}
use Rattle.fix_interval.proofs.Spans.{units-is, unit-pos}
use Rattle.fix_interval.proofs.Order.{int_max-keeps}
use Rattle.enclose_log.proofs.LgInterval.{lg_of-ends}
use Rattle.enclose_log.proofs.Monotone.{lg_low-mono, lg_high-mono}
use Rattle.enclose_log.proofs.Value.{lg-ordered, lg_high-within, lg_low-from_one}
use Rattle.term_barrier.specs.Diffraction.{whole, ten_lg, attenuation, single_limit, double_limit}
use Rattle.term_barrier.specs.inner.Prepared.{IsRaised}

-- D_z of a number that stands under the logarithm
abbrev pub screens : ℕ → Interval → Interval
screens limit b = enc (attenuation limit (Known b))

-- ---- its ends

-- what the logarithm is taken of at an end: no number below 1
abbrev number : Option ℤ → ℕ
number None = 2 ^ 32
number (Some (pos n)) = max (2 ^ 32) n
number (Some (negsuc n)) = 2 ^ 32

record IsNumber (n : ℕ) : Type 0 where
  from_one : 2 ^ 32 ≤ n
  small : n < 2 ^ 126

number-is : (end : Option ℤ) → IsEnd end → IsNumber (number end)
number-is None h = record { from_one = omega arith; small = omega arith }
number-is (Some (pos n)) h = record { from_one = omega arith; small = omega (arith, h) }
number-is (Some (negsuc n)) h = record { from_one = omega arith; small = omega arith }

-- D_z by a logarithm
abbrev limited : ℕ → ℤ → ℤ
limited limit log = int_min (pos (limit * 2 ^ 32)) (pos 10 *ℤ log)

abbrev between : ℤ → ℤ → Interval
between low high = record { lo = Some low; hi = Some high }

-- of the greater of 1 and an interval
low-number : (end : Option ℤ) → greater_low (Some (pos (2 ^ 32))) end ≡ Some (pos (number end))
low-number None = refl
low-number (Some (pos n)) = ap Some (omega (arith, ints, clamps))
low-number (Some (negsuc n)) = ap Some (omega (arith, ints, clamps))

high-number : (end : ℤ) → greater_high (Some (pos (2 ^ 32))) (Some end) ≡ Some (pos (number (Some end)))
high-number (pos n) = ap Some (omega (arith, ints, clamps))
high-number (negsuc n) = ap Some (omega (arith, ints, clamps))

whole-is : (n : ℕ) → n < 2 ^ 60 → ratio_of (pos n) 1 ≡ between (pos (n * 2 ^ 32)) (pos (n * 2 ^ 32))
whole-is n few = ratio_of-one (pos n) (omega arith) ∙ ap (λ (z : ℤ). between z z) (units-is n)

lg-is : (m n : ℕ) → IsNumber m → lg_of (between (pos m) (pos n)) ≡ between (lg_low m) (lg_high n)
lg-is m n h = lg_of-ends (Some (pos m)) (Some (pos n)) (omega (arith, ints, h.from_one))

-- a product with whole units, rounded
floor-units : (z : ℤ) → floor_of (z *ℤ pos unit) unit ≡ z
floor-units z =
    let once : unit ≡ 1 * unit = omega arith in
    ap (λ (d : ℕ). floor_of (z *ℤ pos unit) d) once ∙ floor_of-scaled z 1 unit (omega arith) unit-pos ∙ floor_of-one z

ceil-units : (z : ℤ) → ceil_of (z *ℤ pos unit) unit ≡ z
ceil-units z =
    let once : unit ≡ 1 * unit = omega arith in
    ap (λ (d : ℕ). ceil_of (z *ℤ pos unit) d) once ∙ ceil_of-scaled z 1 unit (omega arith) unit-pos ∙ ceil_of-one z

outward-is : (least greatest low high : ℤ) → least ≡ low *ℤ pos unit → greatest ≡ high *ℤ pos unit
    → unsigned_abs least < 2 ^ 126 → unsigned_abs greatest < 2 ^ 126
    → rounded_outward (end_of least) (end_of greatest) ≡ between low high
outward-is least greatest low high e f small large =
    rw (end_of-small least small, end_of-small greatest large, e, f, floor-units low, ceil-units high) refl

-- ten times a logarithm that isn't negative
tenfold-is : (low high : ℤ) → pos 0 ≤ℤ low → low ≤ℤ high → high ≤ℤ pos (29 * 2 ^ 32)
    → mul_of (ratio_of (pos 10) 1) (between low high) ≡ between (pos 10 *ℤ low) (pos 10 *ℤ high)
unfolding mul_of
tenfold-is (pos x) (pos y) h k l =
    let ten = pos (10 * 2 ^ 32) in
    let least : least_product ten ten (pos x) (pos y) ≡ pos (10 * x * 2 ^ 32) = omega (arith, ints, clamps, k) in
    let greatest : greatest_product ten ten (pos x) (pos y) ≡ pos (10 * y * 2 ^ 32) = omega (arith, ints, clamps, k) in
    rw (whole-is 10 (omega arith))
    (outward-is _ _ (pos (10 * x)) (pos (10 * y)) (least ∙ sym (units-is (10 * x))) (greatest ∙ sym (units-is (10 * y)))
    (rw least (omega (arith, ints, k, l))) (rw greatest (omega (arith, ints, l))))
tenfold-is (pos x) (negsuc y) h k l = absurd (omega (arith, ints, k))
tenfold-is (negsuc x) high h k l = absurd (omega (arith, ints, h))

ends-are : (limit m n : ℕ) → limit ≤ 25 → IsNumber m → IsNumber n → m ≤ n
    → min_of (ratio_of (pos limit) 1) (mul_of (ratio_of (pos 10) 1) (lg_of (between (pos m) (pos n))))
    ≡ between (limited limit (lg_low m)) (limited limit (lg_high n))
unfolding min_of
ends-are limit m n few h k le =
    rw (
      lg-is m n h,
      tenfold-is (lg_low m) (lg_high n) (lg_low-from_one m h.from_one h.small) (lg-ordered m n (omega (arith, h.from_one)) le k.small) (lg_high-within n (omega (arith, k.from_one)) k.small).1,
      whole-is limit (omega (arith, few)),
    ) refl

ordered-numbers : (low : Option ℤ) (high : ℤ) → IsOrdered low (Some high) → number low ≤ number (Some high)
ordered-numbers None (pos y) h = omega arith
ordered-numbers None (negsuc y) h = omega arith
ordered-numbers (Some (pos x)) (pos y) h = omega (arith, ints, h)
ordered-numbers (Some (pos x)) (negsuc y) h = absurd (omega (arith, ints, h))
ordered-numbers (Some (negsuc x)) (pos y) h = omega arith
ordered-numbers (Some (negsuc x)) (negsuc y) h = omega arith

-- D_z of an interval whose high end is bounded
screens-ends : (limit : ℕ) (low high : Option ℤ) → limit ≤ 25 → IsInterval (record { lo = low; hi = high }) → IsSome high
    → screens limit (record { lo = low; hi = high }) ≡ between (limited limit (lg_low (number low))) (limited limit (lg_high (number high)))
unfolding attenuation ten_lg max_of
screens-ends limit low None few h k = absurd (false≢true k)
screens-ends limit low (Some high) few h k =
    rw (whole-is 1 (omega arith), low-number low, high-number high)
    (ends-are limit (number low) (number (Some high)) few (number-is low h.low_end) (number-is (Some high) h.high_end) (ordered-numbers low high h.ordered))

screens-is : (limit : ℕ) (b : Interval) → limit ≤ 25 → IsInterval b → IsSome b.hi
    → screens limit b ≡ between (limited limit (lg_low (number b.lo))) (limited limit (lg_high (number b.hi)))
screens-is limit b = screens-ends limit b.lo b.hi

-- and of one whose high end isn't: no low end is known
screens-open : (limit : ℕ) (low : Option ℤ) → limit ≤ 25
    → screens limit (record { lo = low; hi = None }) ≡ record { lo = None; hi = Some (pos (limit * 2 ^ 32)) }
unfolding attenuation ten_lg max_of min_of mul_of
screens-open limit low few =
    let open_log = lg_of-ends (Some (pos (number low))) None (from_one-positive low) in
    rw (whole-is 1 (omega arith), low-number low, open_log, whole-is 10 (omega arith), whole-is limit (omega (arith, few))) refl
  where
    from_one-positive : (low : Option ℤ) → pos 1 ≤ℤ pos (number low)
    from_one-positive None = omega (arith, ints)
    from_one-positive (Some (pos n)) = omega (arith, ints)
    from_one-positive (Some (negsuc n)) = omega (arith, ints)

-- the logarithms of 1 and of 100 are exact
one-low : lg_low (2 ^ 32) ≡ pos 0
unfolding lg_low decade_of greatest digits_low turns unit
one-low = refl

one-high : lg_high (2 ^ 32) ≡ pos 0
unfolding lg_high decade_of greatest digits_high turns unit
one-high = refl

hundred-low : lg_low (100 * 2 ^ 32) ≡ pos (2 * 2 ^ 32)
unfolding lg_low decade_of greatest digits_low turns unit
hundred-low = refl

hundred-high : lg_high (100 * 2 ^ 32) ≡ pos (2 * 2 ^ 32)
unfolding lg_high decade_of greatest digits_high turns unit
hundred-high = refl

-- ---- the greatest

-- a logarithm rounded down or up
abbrev Grows : (ℕ → ℤ) → Type 0
Grows log = (m n : ℕ) → 0 < m → m ≤ n → n < 2 ^ 126 → log m ≤ℤ log n

limited-max : (limit : ℕ) (log : ℕ → ℤ) → Grows log → (m n : ℕ) → IsNumber m → IsNumber n
    → limited limit (log (max m n)) ≡ int_max (limited limit (log m)) (limited limit (log n))
limited-max limit log grows m n h k =
    elim (cases_lt m n) [
      | inl less ↦ (let most : max m n ≡ n = omega (arith, less) in
          let le = grows m n (omega (arith, h.from_one)) (omega (arith, less)) k.small in rw most (omega (arith, ints, clamps, le)))
      | inr up ↦ (let most : max m n ≡ m = omega (arith, up) in
          let le = grows n m (omega (arith, k.from_one)) up h.small in rw most (omega (arith, ints, clamps, le)))
    ]

-- a number from an end
abbrev counted : ℤ → ℕ
counted z = number (Some z)

number-greater : (x y : ℤ) → counted (int_max x y) ≡ max (counted x) (counted y)
number-greater (pos x) (pos y) =
    let e : int_max (pos x) (pos y) ≡ pos (max x y) = omega (arith, ints, clamps) in ap counted e ∙ omega arith
number-greater (pos x) (negsuc y) =
    let e : int_max (pos x) (negsuc y) ≡ pos x = omega (arith, ints, clamps) in ap counted e ∙ omega arith
number-greater (negsuc x) (pos y) =
    let e : int_max (negsuc x) (pos y) ≡ pos y = omega (arith, ints, clamps) in ap counted e ∙ omega arith
number-greater (negsuc x) (negsuc y) =
    int_max-keeps (λ z. counted z ≡ 2 ^ 32) (negsuc x) (negsuc y) refl refl ∙ omega arith

number-low : (x y : Option ℤ) → number (greater_low x y) ≡ max (number x) (number y)
number-low None None = omega arith
number-low None (Some (pos y)) = omega arith
number-low None (Some (negsuc y)) = omega arith
number-low (Some (pos x)) None = omega arith
number-low (Some (negsuc x)) None = omega arith
number-low (Some x) (Some y) = number-greater x y

number-high : (x y : Option ℤ) → IsSome x → IsSome y → number (greater_high x y) ≡ max (number x) (number y)
number-high None y h k = absurd (false≢true h)
number-high (Some x) None h k = absurd (false≢true k)
number-high (Some x) (Some y) h k = number-greater x y

some-high : (x y : Option ℤ) → IsSome x → IsSome y → IsSome (greater_high x y)
some-high None y h k = absurd (false≢true h)
some-high (Some x) None h k = absurd (false≢true k)
some-high (Some x) (Some y) h k = refl

-- D_z of the greater of two numbers
pub screens-max : (limit : ℕ) (a b : Interval) → limit ≤ 25 → IsInterval a → IsInterval b → IsSome a.hi → IsSome b.hi
    → screens limit (max_of a b) ≡ max_of (screens limit a) (screens limit b)
unfolding max_of
screens-max limit a b few h k x y =
    rw (
      screens-is limit (max_of a b) few (IsInterval-max_of a b h k) (some-high a.hi b.hi x y),
      screens-is limit a few h x,
      screens-is limit b few k y,
      number-low a.lo b.lo,
      number-high a.hi b.hi x y,
      limited-max limit lg_low lg_low-mono (number a.lo) (number b.lo) (number-is a.lo h.low_end) (number-is b.lo k.low_end),
      limited-max limit lg_high lg_high-mono (number a.hi) (number b.hi) (number-is a.hi h.high_end) (number-is b.hi k.high_end),
    ) refl

-- ---- the limit of a single edge

number-lesser : (x : ℤ) → counted (int_min (pos (100 * 2 ^ 32)) x) ≡ min (100 * 2 ^ 32) (counted x)
number-lesser (pos x) = let e : int_min (pos (100 * 2 ^ 32)) (pos x) ≡ pos (min (100 * 2 ^ 32) x) = omega (arith, ints, clamps) in ap counted e ∙ omega arith
number-lesser (negsuc x) = let e : int_min (pos (100 * 2 ^ 32)) (negsuc x) ≡ negsuc x = omega (arith, ints, clamps) in ap counted e ∙ omega arith

capped-low : (x : Option ℤ) → number (lesser_low (Some (pos (100 * 2 ^ 32))) x) ≡ min (100 * 2 ^ 32) (number x)
capped-low None = omega arith
capped-low (Some x) = number-lesser x

capped-high : (x : Option ℤ) → IsSome x → number (lesser_high (Some (pos (100 * 2 ^ 32))) x) ≡ min (100 * 2 ^ 32) (number x)
capped-high None h = absurd (false≢true h)
capped-high (Some x) h = number-lesser x

some-lesser : (x : Option ℤ) → IsSome (lesser_high (Some (pos (100 * 2 ^ 32))) x)
some-lesser None = refl
some-lesser (Some x) = refl

limited-capped : (log : ℕ → ℤ) → Grows log → log (100 * 2 ^ 32) ≡ pos (2 * 2 ^ 32) → (n : ℕ) → IsNumber n
    → limited double_limit (log (min (100 * 2 ^ 32) n)) ≡ limited single_limit (log n)
limited-capped log grows hundred n h =
    elim (cases_lt n (100 * 2 ^ 32)) [
      | inl less ↦ (let least : min (100 * 2 ^ 32) n ≡ n = omega (arith, less) in
          let le = grows n (100 * 2 ^ 32) (omega (arith, h.from_one)) (omega (arith, less)) (omega arith) in
          rw least (omega (arith, ints, clamps, le, hundred)))
      | inr up ↦ (let least : min (100 * 2 ^ 32) n ≡ 100 * 2 ^ 32 = omega (arith, up) in
          let le = grows (100 * 2 ^ 32) n (omega arith) up h.small in
          rw least (omega (arith, ints, clamps, le, hundred)))
    ]

-- D_z of a single edge as that of two
pub screens-capped : (b : Interval) → IsInterval b → IsSome b.hi → screens single_limit b ≡ screens double_limit (min_of (enc (whole 100)) b)
unfolding min_of
screens-capped b h k =
    let hundred = whole-is 100 (omega arith) in
    let capped = IsInterval-min_of (enc (whole 100)) b (IsInterval-Const (pos 100) 1 (omega arith)) h in
    rw (
      hundred,
      screens-is single_limit b (omega arith) h k,
      screens-is double_limit _ (omega arith) (rw hundred at capped) (some-lesser b.hi),
      capped-low b.lo,
      capped-high b.hi k,
      limited-capped lg_low lg_low-mono hundred-low (number b.lo) (number-is b.lo h.low_end),
      limited-capped lg_high lg_high-mono hundred-high (number b.hi) (number-is b.hi h.high_end),
    ) refl

-- ---- what doesn't screen

limited-from : (limit : ℕ) (log : ℕ → ℤ) → Grows log → log (2 ^ 32) ≡ pos 0 → (n : ℕ) → IsNumber n → pos 0 ≤ℤ limited limit (log n)
limited-from limit log grows one n h = let le = grows (2 ^ 32) n (omega arith) h.from_one h.small in omega (arith, ints, clamps, one, le)

hull-zero : (low high : ℤ) → pos 0 ≤ℤ low → pos 0 ≤ℤ high → between (int_min low (pos 0)) (int_max high (pos 0)) ≡ between (pos 0) high
hull-zero low high h k =
    let least : int_min low (pos 0) ≡ pos 0 = omega (arith, ints, clamps) in
    let most : int_max high (pos 0) ≡ high = omega (arith, ints, clamps) in
    ap (λ (z : ℤ). between z (int_max high (pos 0))) least ∙ ap (between (pos 0)) most

least-number : (x : Option ℤ) → number (lesser_low x (Some (pos (2 ^ 32)))) ≡ 2 ^ 32
least-number None = refl
least-number (Some (pos x)) = let e : int_min (pos x) (pos (2 ^ 32)) ≡ pos (min x (2 ^ 32)) = omega (arith, ints, clamps) in ap counted e ∙ omega arith
least-number (Some (negsuc x)) = let e : int_min (negsuc x) (pos (2 ^ 32)) ≡ negsuc x = omega (arith, ints, clamps) in ap counted e

same-number : (x : ℤ) → counted (int_max x (pos (2 ^ 32))) ≡ counted x
same-number (pos x) = number-greater (pos x) (pos (2 ^ 32)) ∙ omega arith
same-number (negsuc x) = number-greater (negsuc x) (pos (2 ^ 32))

hull-screens : (low high : Option ℤ) → IsInterval (record { lo = low; hi = high })
    → hull_of (screens double_limit (record { lo = low; hi = high })) (enc (whole 0))
    ≡ screens double_limit (hull_of (record { lo = low; hi = high }) (enc (whole 1)))
unfolding hull_of
hull-screens low None h = rw (whole-is 0 (omega arith), whole-is 1 (omega arith), screens-open double_limit low (omega arith), screens-open double_limit _ (omega arith)) refl
hull-screens low (Some high) h =
    let zero = whole-is 0 (omega arith) in
    let one = whole-is 1 (omega arith) in
    let hull = IsInterval-hull_of (record { lo = low; hi = Some high }) (enc (whole 1)) h (IsInterval-Const (pos 1) 1 (omega arith)) in
    rw (
      zero,
      one,
      screens-is double_limit (record { lo = low; hi = Some high }) (omega arith) h refl,
      screens-is double_limit _ (omega arith) (rw one at hull) refl,
      least-number low,
      same-number high,
      one-low,
    )
    (hull-zero _ _ (limited-from double_limit lg_low lg_low-mono one-low (number low) (number-is low h.low_end))
    (limited-from double_limit lg_high lg_high-mono one-high (counted high) (number-is (Some high) h.high_end)))

pub screens-one : enc (whole 0) ≡ screens double_limit (enc (whole 1))
screens-one =
    let one = whole-is 1 (omega arith) in
    let interval = IsInterval-Const (pos 1) 1 (omega arith) in
    rw (whole-is 0 (omega arith), one, screens-is double_limit _ (omega arith) (rw one at interval) refl, one-low, one-high) refl

-- where a number isn't known to count, D_z of it may be 0
pub screens-picked : (t : Truth) (b : Interval) → IsInterval b
    → pick_of t (screens double_limit b) (enc (whole 0)) ≡ screens double_limit (pick_of t b (enc (whole 1)))
unfolding pick_of
screens-picked Sure b h = refl
screens-picked Never b h = screens-one
screens-picked Unsure b h = hull-screens b.lo b.hi h

-- ---- 0 dB

greatest-zero : (low high : ℤ) → pos 0 ≤ℤ low → pos 0 ≤ℤ high → between (int_max low (pos 0)) (int_max high (pos 0)) ≡ between low high
greatest-zero low high h k =
    let least : int_max low (pos 0) ≡ low = omega (arith, ints, clamps) in
    let most : int_max high (pos 0) ≡ high = omega (arith, ints, clamps) in
    ap (λ (z : ℤ). between z (int_max high (pos 0))) least ∙ ap (between low) most

-- D_z of a number whose high end is bounded isn't below 0 dB at either end
pub screens-raised : (limit : ℕ) (b : Interval) → limit ≤ 25 → IsInterval b → IsSome b.hi → IsRaised (screens limit b)
unfolding max_of
screens-raised limit b few h k =
    rw (screens-is limit b few h k, whole-is 0 (omega arith))
    (greatest-zero _ _ (limited-from limit lg_low lg_low-mono one-low (number b.lo) (number-is b.lo h.low_end))
    (limited-from limit lg_high lg_high-mono one-high (number b.hi) (number-is b.hi h.high_end)))
