-- Roots keep to their ranges.
use Rattle.std.proofs.Common.{◌≡◌, ℕ, zero, suc, ◌*◌, ◌<◌, ◌≤◌, ◌^◌, ℤ, pos, negsuc, ◌≤ℤ◌, Option, refl, arith, inl, inr}
use Rattle.std.specs.Prelude.{Bool, true, false, ◌⊎◌, Some, None, IfSome, int_lt, nat_le, nat_lt, if◌then◌else◌}
use Rattle.std.specs.Option.{option_and_then}
use Rattle.std.proofs.lemmas.Int.{ints}
use Rattle.std.proofs.Math.Nat.{pow-suc}
use Rattle.fix_interval.specs.Units.{unit, unit-is}
use Rattle.fix_interval.specs.Interval.{Interval, All}
use Rattle.fix_interval.specs.Round.{floor_root, ceil_root}
use Rattle.fix_interval.specs.Values.{root_of, root_of_high, low_radicand, is_below_zero}
use Rattle.fix_interval.specs.Lg.{is_at_least}
use Rattle.fix_interval.specs.Ranges.{IsFrom, IsUpTo, LiesIn, root_limit, root_limit_of, root_range}
use Rattle.std.proofs.lemmas.Bool.{false≢true}
use Rattle.std.proofs.Math.Nat.{le_trans}
use Rattle.fix_interval.proofs.Rooting.{ceil_root-within, floor_root-le-ceil_root, high_root_is, root_of-roots}
use Rattle.fix_interval.proofs.Ranging.{LiesIn-All}

-- ---- the limit of a root

squares : (n count : ℕ) → (n ≤ root_limit n count * root_limit n count) ⊎ (root_limit n count ≡ 2 ^ count)
unfolding root_limit
squares n zero = inr refl
squares n (suc count) = by_test (nat_le n (root_limit n count * root_limit n count)) refl (squares n count) where
  by_test : (test : Bool) → nat_le n (root_limit n count * root_limit n count) ≡ test → (n ≤ root_limit n count * root_limit n count) ⊎ (root_limit n count ≡ 2 ^ count)
      → (n ≤ (if test then root_limit n count else 2 * root_limit n count) * (if test then root_limit n count else 2 * root_limit n count))
      ⊎ ((if test then root_limit n count else 2 * root_limit n count) ≡ 2 ^ suc count)
  by_test true e h = inl (grind arith)
  by_test false e (inl h) = absurd (grind arith)
  by_test false e (inr h) = inr (rw (h, pow-suc 2 count) (omega arith))

limit-above : (n : ℕ) → n < 2 ^ 128 → n ≤ root_limit n 64 * root_limit n 64
limit-above n small = by_cases (squares n 64) where
  by_cases : (n ≤ root_limit n 64 * root_limit n 64) ⊎ (root_limit n 64 ≡ 2 ^ 64) → n ≤ root_limit n 64 * root_limit n 64
  by_cases (inl h) = h
  by_cases (inr h) = rw h (omega (arith, small))

root-within : (y h : ℕ) → y ≤ h → h < 2 ^ 95 → ceil_root (y * unit) ≤ root_limit (h * unit) 64
root-within y h below small =
    ceil_root-within (y * unit) (root_limit (h * unit) 64)
    (omega (arith, limit-above (h * unit) (rw unit-is (omega (arith, small))), scaled)) where
      scaled : y * unit ≤ h * unit
      scaled = rw unit-is (omega (arith, below))

-- ---- the ends of a root

low-end : (lo : Option ℤ) (h : ℕ) → h < 2 ^ 95 → IfSome lo (λ z. z ≤ℤ pos h) → floor_root (low_radicand lo * unit) ≤ root_limit (h * unit) 64
low-end lo h small below =
    le_trans (floor_root-le-ceil_root (low_radicand lo * unit)) (root-within (low_radicand lo) h (radicand lo below) small) where
      radicand : (lo : Option ℤ) → IfSome lo (λ z. z ≤ℤ pos h) → low_radicand lo ≤ h
      radicand None k = omega arith
      radicand (Some (pos n)) k = omega (arith, ints, k)
      radicand (Some (negsuc n)) k = omega arith

bounded-root : (lo : Option ℤ) (y h : ℕ) → h < 2 ^ 95 → y ≤ h → IfSome lo (λ z. z ≤ℤ pos h)
    → IsUpTo (Some (pos (root_limit (h * unit) 64))) (record { lo = Some (pos (floor_root (low_radicand lo * unit))); hi = root_of_high (Some (pos y)) })
bounded-root lo y h small below low =
    rw (high_root_is y (omega (arith, small, below))) (omega (arith, ints, low-end lo h small low), omega (arith, ints, root-within y h below small))

not_negative-root : (lo hi : Option ℤ) → IsFrom (Some (pos 0)) (record { lo = Some (pos (floor_root (low_radicand lo * unit))); hi = root_of_high hi })
not_negative-root lo None = (omega (arith, ints), tt)
not_negative-root lo (Some (negsuc n)) = (omega (arith, ints), tt)
not_negative-root lo (Some (pos n)) = (omega (arith, ints), by_size (nat_lt n (2 ^ 95))) where
  by_size : (test : Bool) → IfSome (if test then Some (pos (ceil_root (n * unit))) else None) (λ z. pos 0 ≤ℤ z)
  by_size true = omega (arith, ints)
  by_size false = tt

-- an end that isn't below 0 isn't below zero
high-above : (hi : Option ℤ) → IfSome hi (λ z. pos 0 ≤ℤ z) → is_below_zero hi ≡ false
high-above None h = refl
high-above (Some z) h = grind (arith, ints)

up_to-root : (limit : Option ℤ) (lo hi : Option ℤ) → IfSome hi (λ z. pos 0 ≤ℤ z) → IsUpTo limit (record { lo = lo; hi = hi })
    → IsUpTo (option_and_then root_limit_of limit) (record { lo = Some (pos (floor_root (low_radicand lo * unit))); hi = root_of_high hi })
up_to-root None lo hi from h = tt
up_to-root (Some (negsuc n)) lo None from h = absurd h.1
up_to-root (Some (negsuc n)) lo (Some z) from h = absurd (omega (arith, ints, from, h.1))
up_to-root (Some (pos n)) lo None from h = absurd h.1
up_to-root (Some (pos n)) lo (Some (negsuc y)) from h = absurd (omega (arith, ints, from))
up_to-root (Some (pos n)) lo (Some (pos y)) from h = by_size (int_lt (pos n) (pos (2 ^ 95))) refl where
  by_size : (test : Bool) → int_lt (pos n) (pos (2 ^ 95)) ≡ test
      → IsUpTo (if test then Some (pos (root_limit (n * unit) 64)) else None) (record { lo = Some (pos (floor_root (low_radicand lo * unit))); hi = root_of_high (Some (pos y)) })
  by_size true e = bounded-root lo y n (grind (arith, ints)) (omega (arith, ints, h.1)) h.0
  by_size false e = tt

rooted : (limit : Option ℤ) (i : Interval) → IfSome i.hi (λ z. pos 0 ≤ℤ z) → IsUpTo limit i → LiesIn (record { lo = Some (pos 0); hi = option_and_then root_limit_of limit }) (root_of i)
rooted limit i from h =
    rw (root_of-roots i (high-above i.hi from)) (record { low = not_negative-root i.lo i.hi; high = up_to-root limit i.lo i.hi from h })

weaker-from : (low : Option ℤ) (i : Interval) → is_at_least (pos 0) low ≡ true → IsFrom low i → IfSome i.hi (λ z. pos 0 ≤ℤ z)
weaker-from None i e h = absurd (false≢true e)
weaker-from (Some l) i e h = weaker i.hi h.1 where
  weaker : (hi : Option ℤ) → IfSome hi (λ z. l ≤ℤ z) → IfSome hi (λ z. pos 0 ≤ℤ z)
  weaker None k = tt
  weaker (Some z) k = let at_least : pos 0 ≤ℤ l = grind (arith, ints) in omega (arith, ints, at_least, k)

pub root-lies : (a i : Interval) → LiesIn a i → LiesIn (root_range a) (root_of i)
unfolding root_range
root-lies a i h = by_sign (is_at_least (pos 0) a.lo) refl where
  by_sign : (test : Bool) → is_at_least (pos 0) a.lo ≡ test → LiesIn (if test then record { lo = Some (pos 0); hi = option_and_then root_limit_of a.hi } else All) (root_of i)
  by_sign false e = LiesIn-All _
  by_sign true e = rooted a.hi i (weaker-from a.lo i e h.low) h.high
