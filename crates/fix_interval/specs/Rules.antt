-- What the ends of an interval k must keep, for each operation, so that k encloses the result of the
-- operation on quantities in i (and j). Each rule is an inequality of whole numbers that a reader can check;
-- none of them says how k is calculated.
use Rattle.std.specs.Prelude.{ℕ, ℤ, pos, negsuc, ◌+ℤ◌, ◌*ℤ◌, neg_ℤ, unsigned_abs, ◌≤ℤ◌, ◌<ℤ◌, ◌≡◌, ◌⊎◌, Option, Some, None, IsSome, IfSome, IsSomeAnd, unwrap_or}
use Rattle.std.specs.Option.{option_map}
use Rattle.std.specs.Int.{int_max}
use Rattle.fix_interval.specs.Interval.{Interval}
use Rattle.fix_interval.specs.Units.{unit}
use Rattle.fix_interval.specs.Lg.{IsAtMostLg, IsAtLeastLg}
use Rattle.fix_interval.specs.Powers.{IsAtMostDecay, IsAtLeastDecay}

-- ---- words on ends

-- an end of the result is unbounded, or it stands in the relation R to a bounded end of the part
abbrev pub EndMeets : (ℤ → ℤ → Type 0) → Option ℤ → Option ℤ → Type 0
EndMeets R None x = Unit {0}
EndMeets R (Some k) None = ⊥
EndMeets R (Some k) (Some x) = R k x

-- a low end that is not above another; unbounded is minus infinity
abbrev pub NotAbove : Option ℤ → Option ℤ → Type 0
NotAbove k x = EndMeets (λ k x. k ≤ℤ x) k x

-- a high end that is not below another; unbounded is plus infinity
abbrev pub NotBelow : Option ℤ → Option ℤ → Type 0
NotBelow k x = EndMeets (λ k x. x ≤ℤ k) k x

-- both ends are bounded
abbrev pub IsBounded : Interval → Type 0
IsBounded i = IsSome i.lo × IsSome i.hi

-- x is one of the two ends
abbrev pub HasEnd : Interval → ℤ → Type 0
HasEnd i x = (i.lo ≡ Some x) ⊎ (i.hi ≡ Some x)

-- the exact sum of two ends of one side
abbrev pub exact_sum : Option ℤ → Option ℤ → Option ℤ
exact_sum (Some x) (Some y) = Some (x +ℤ y)
exact_sum (Some x) None = None
exact_sum None y = None

-- k <= n / y and n / y <= k as exact fractions, where y isn't 0
abbrev pub IsAtMostQuotient : ℤ → ℤ → ℤ → Type 0
IsAtMostQuotient k n (pos d) = (k *ℤ pos d) ≤ℤ n
IsAtMostQuotient k n (negsuc d) = n ≤ℤ (k *ℤ negsuc d)

abbrev pub IsAtLeastQuotient : ℤ → ℤ → ℤ → Type 0
IsAtLeastQuotient k n (pos d) = n ≤ℤ (k *ℤ pos d)
IsAtLeastQuotient k n (negsuc d) = (k *ℤ negsuc d) ≤ℤ n

-- ---- the rules

-- k holds every value of i
pub record Holds (i k : Interval) : Type 0 where
  pub low : NotAbove k.lo i.lo
  pub high : NotBelow k.hi i.hi

-- k.lo q <= p U <= k.hi q
pub record HoldsRatio (p : ℤ) (q : ℕ) (k : Interval) : Type 0 where
  pub low : IfSome k.lo (λ l. (l *ℤ pos q) ≤ℤ (p *ℤ pos unit))
  pub high : IfSome k.hi (λ h. (p *ℤ pos unit) ≤ℤ (h *ℤ pos q))

pub record HoldsSum (i j k : Interval) : Type 0 where
  pub low : NotAbove k.lo (exact_sum i.lo j.lo)
  pub high : NotBelow k.hi (exact_sum i.hi j.hi)

pub record HoldsNegation (i k : Interval) : Type 0 where
  pub low : NotAbove k.lo (option_map neg_ℤ i.hi)
  pub high : NotBelow k.hi (option_map neg_ℤ i.lo)

pub record HoldsGreater (i j k : Interval) : Type 0 where
  pub low : NotAbove k.lo i.lo ⊎ NotAbove k.lo j.lo
  pub high : NotBelow k.hi i.hi × NotBelow k.hi j.hi

pub record HoldsLesser (i j k : Interval) : Type 0 where
  pub low : NotAbove k.lo i.lo × NotAbove k.lo j.lo
  pub high : NotBelow k.hi i.hi ⊎ NotBelow k.hi j.hi

-- k.lo U <= x y <= k.hi U for each end x of i and y of j
pub record HoldsProduct (i j k : Interval) : Type 0 where
  pub first_bounded : IsBounded i
  pub second_bounded : IsBounded j
  pub low : (x y : ℤ) → HasEnd i x → HasEnd j y → IfSome k.lo (λ l. (l *ℤ pos unit) ≤ℤ (x *ℤ y))
  pub high : (x y : ℤ) → HasEnd i x → HasEnd j y → IfSome k.hi (λ h. (x *ℤ y) ≤ℤ (h *ℤ pos unit))

-- k.lo <= x U / y <= k.hi for each end x of i and y of j, where j lies on one side of 0
pub record HoldsQuotient (i j k : Interval) : Type 0 where
  pub dividend_bounded : IsBounded i
  pub divisor_bounded : IsBounded j
  pub apart_from_zero : IsSomeAnd j.lo (λ y. pos 0 <ℤ y) ⊎ IsSomeAnd j.hi (λ y. y <ℤ pos 0)
  pub low : (x y : ℤ) → HasEnd i x → HasEnd j y → IfSome k.lo (λ l. IsAtMostQuotient l (x *ℤ pos unit) y)
  pub high : (x y : ℤ) → HasEnd i x → HasEnd j y → IfSome k.hi (λ h. IsAtLeastQuotient h (x *ℤ pos unit) y)

-- k.lo is at most 0 or k.lo^2 <= max(i.lo, 0) U, and k.hi is at least 0 and k.hi^2 >= i.hi U, where i isn't
-- wholly below 0. An unbounded low end of i counts as 0
pub record HoldsRoot (i k : Interval) : Type 0 where
  pub not_negative : IfSome i.hi (λ x. pos 0 ≤ℤ x)
  pub low : IfSome k.lo (λ l. (l ≤ℤ pos 0) ⊎ (l *ℤ l) ≤ℤ (int_max (unwrap_or i.lo (pos 0)) (pos 0) *ℤ pos unit))
  pub high : EndMeets (λ h x. (pos 0 ≤ℤ h) × ((x *ℤ pos unit) ≤ℤ (h *ℤ h))) k.hi i.hi

-- 10^k.lo U^U <= i.lo^U and 10^k.hi U^U >= i.hi^U, where i.lo is 1 or more
pub record HoldsLogarithm (i k : Interval) : Type 0 where
  pub positive : IsSomeAnd i.lo (λ x. pos 1 ≤ℤ x)
  pub low : EndMeets (λ l x. IsAtMostLg l (unsigned_abs x)) k.lo i.lo
  pub high : EndMeets (λ h x. IsAtLeastLg h (unsigned_abs x)) k.hi i.hi

-- k.lo is at most 0 or k.lo^U <= 10^i.lo U^U, and k.hi is at least 0 and k.hi^U >= 10^i.hi U^U: a number is at
-- most 10 to a power where that power is at least its logarithm. Where i.lo is unbounded, k.lo is at most 0
pub record HoldsTenPower (i k : Interval) : Type 0 where
  pub low : IfSome k.lo (λ l. (l ≤ℤ pos 0) ⊎ IsSomeAnd i.lo (λ n. IsAtLeastLg n (unsigned_abs l)))
  pub high : EndMeets (λ h n. (pos 0 ≤ℤ h) × IsAtMostLg n (unsigned_abs h)) k.hi i.hi

-- k.lo is at most 0 or k.lo/U <= e^(-i.hi/U), and k.hi/U >= e^(-i.lo/U), where i.lo is 0 or more. Where i.hi is
-- unbounded, k.lo is at most 0
pub record HoldsDecay (i k : Interval) : Type 0 where
  pub not_negative : IsSomeAnd i.lo (λ n. pos 0 ≤ℤ n)
  pub low : IfSome k.lo (λ l. (l ≤ℤ pos 0) ⊎ IsSomeAnd i.hi (λ n. IsAtMostDecay l n))
  pub high : EndMeets IsAtLeastDecay k.hi i.lo
