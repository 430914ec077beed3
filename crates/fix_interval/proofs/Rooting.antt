-- Lemmas on square roots rounded down and up.
use Rattle.std.proofs.Common.{◌≡◌, ℕ, zero, suc, ◌+◌, ◌-◌, ◌*◌, ◌<◌, ◌≤◌, ◌^◌, ℤ, pos, negsuc, ◌≤ℤ◌, arith, refl, ap, ◌∙◌, true, false, to_z}
use Rattle.std.specs.Prelude.{unsigned_abs, nat_le, Some, None, Option, Bool, if◌then◌else◌, ◌⊎◌}
use Rattle.std.proofs.Common.{inl, inr}
use Rattle.std.proofs.lemmas.Bool.{cases_lt}
use Rattle.std.proofs.lemmas.Nat.{mul-le}
use Rattle.std.proofs.Math.Nat.{mul-le-mul, mul-le-mul_right, le_trans}
use Rattle.std.proofs.lemmas.Int.{ints, to_z_pos}
use Rattle.std.specs.Int.{w128}
use Rattle.fix_interval.specs.Interval.{Interval, All, IsInterval, IsEnd, IsOrdered}
use Rattle.fix_interval.specs.Units.{unit, unit-is}
use Rattle.fix_interval.specs.Round.{floor_root, ceil_root}
use Rattle.fix_interval.specs.Values.{low_radicand, root_of_high, is_below_zero, root_of}
use Rattle.fix_interval.proofs.Intervals.{IsInterval-All}
use Rattle.fix_interval.proofs.Ratios.{nat_lt-yes, nat_lt-no}

-- ---- the root rounded down

record IsRootOf (n r : ℕ) : Type 0 where
  below : r * r ≤ n
  above : n < (r + 1) * (r + 1)

grown : (n r : ℕ) → IsRootOf n r → IsRootOf (suc n) (if nat_le ((r + 1) * (r + 1)) (suc n) then r + 1 else r)
grown n r h = grown_by (nat_le ((r + 1) * (r + 1)) (suc n)) refl where
  grown_by : (b : Bool) → nat_le ((r + 1) * (r + 1)) (suc n) ≡ b → IsRootOf (suc n) (if b then r + 1 else r)
  grown_by true e = record { below = grind arith; above = omega (arith, h.above) }
  grown_by false e = record { below = omega (arith, h.below); above = grind arith }

floor_root_is : (n : ℕ) → IsRootOf n (floor_root n)
unfolding floor_root
floor_root_is zero = record { below = omega arith; above = omega arith }
floor_root_is (suc n) = grown n (floor_root n) (floor_root_is n)

pub floor_root-below : (n : ℕ) → floor_root n * floor_root n ≤ n
floor_root-below n = (floor_root_is n).below

pub floor_root-above : (n : ℕ) → n < (floor_root n + 1) * (floor_root n + 1)
floor_root-above n = (floor_root_is n).above

root-le : (r s n : ℕ) → r * r ≤ n → n < (s + 1) * (s + 1) → r ≤ s
root-le r s n h k = le_by (cases_lt s r) where
  le_by : (s < r) ⊎ (r ≤ s) → r ≤ s
  le_by (inl l) = absurd (omega (arith, mul-le-mul {n₁ = s + 1} {m₁ = s + 1} {n₂ = r} {m₂ = r} (omega arith) (omega arith)))
  le_by (inr l) = l

-- a number between the squares is the root
pub floor_root-unique : (n r : ℕ) → r * r ≤ n → n < (r + 1) * (r + 1) → floor_root n ≡ r
floor_root-unique n r h k =
    omega (arith, root-le r (floor_root n) n h (floor_root-above n), root-le (floor_root n) r n (floor_root-below n) k)

pub floor_root-mono : (a b : ℕ) → a ≤ b → floor_root a ≤ floor_root b
floor_root-mono a b h = root-le (floor_root a) (floor_root b) b (le_trans (floor_root-below a) h) (floor_root-above b)

-- the root of a number of 128 bits has 64
pub floor_root-small : (n : ℕ) → n < 2 ^ 128 → floor_root n < 2 ^ 64
floor_root-small n h =
    omega (arith, root-le (floor_root n) (2 ^ 64 - 1) n (floor_root-below n) (omega arith))

-- ---- the root rounded up

pub ceil_root-exact : (n r : ℕ) → floor_root n ≡ r → r * r ≡ n → ceil_root n ≡ r
unfolding ceil_root
ceil_root-exact n r e h = rw e (grind arith)

pub ceil_root-inexact : (n r : ℕ) → floor_root n ≡ r → r * r < n → ceil_root n ≡ r + 1
unfolding ceil_root
ceil_root-inexact n r e h = rw e (grind arith)

pub floor_root-le-ceil_root : (n : ℕ) → floor_root n ≤ ceil_root n
unfolding ceil_root
floor_root-le-ceil_root n = grind arith

pub ceil_root-le : (n : ℕ) → ceil_root n ≤ floor_root n + 1
unfolding ceil_root
ceil_root-le n = grind arith

pub ceil_root-above : (n : ℕ) → n ≤ ceil_root n * ceil_root n
ceil_root-above n = above_by (cases_lt (floor_root n * floor_root n) n) where
  above_by : (floor_root n * floor_root n < n) ⊎ (n ≤ floor_root n * floor_root n) → n ≤ ceil_root n * ceil_root n
  above_by (inl h) = rw (ceil_root-inexact n (floor_root n) refl h) (omega (arith, floor_root-above n))
  above_by (inr h) =
      let exact : floor_root n * floor_root n ≡ n = omega (arith, floor_root-below n) in
      rw (ceil_root-exact n (floor_root n) refl exact) h

-- the root of a number above a square and up to the next is that of the next
pub ceil_root-next : (n r : ℕ) → r * r < n → n ≤ (r + 1) * (r + 1) → ceil_root n ≡ r + 1
ceil_root-next n r h k = next_by (cases_lt n ((r + 1) * (r + 1))) where
  next_by : (n < (r + 1) * (r + 1)) ⊎ ((r + 1) * (r + 1) ≤ n) → ceil_root n ≡ r + 1
  next_by (inl l) = ceil_root-inexact n r (floor_root-unique n r (omega arith) l) h
  next_by (inr l) =
      ceil_root-exact n (r + 1) (floor_root-unique n (r + 1) l (omega arith)) (omega arith)

pub ceil_root-square : (n r : ℕ) → n ≡ r * r → ceil_root n ≡ r
ceil_root-square n r e = ceil_root-exact n r (floor_root-unique n r (omega arith) (omega arith)) (omega arith)

-- the root of what isn't above a square isn't above that square's side
pub ceil_root-within : (n r : ℕ) → n ≤ r * r → ceil_root n ≤ r
ceil_root-within n r h = by_cases (cases_lt r (ceil_root n)) where
  by_cases : (r < ceil_root n) ⊎ (ceil_root n ≤ r) → ceil_root n ≤ r
  by_cases (inr is) = is
  by_cases (inl is) =
      let root = floor_root n in
      let at_least : r ≤ root = omega (arith, is, ceil_root-le n) in
      let square = mul-le r r root root at_least at_least in
      omega (arith, ceil_root-square n r (omega (arith, h, square, floor_root-below n)))

-- ---- ends

units-small_radicand : (x : ℕ) → x < 2 ^ 95 → x * unit < 2 ^ 127
units-small_radicand x h = rw unit-is (omega arith)

pub low_radicand-small : (low : Option ℤ) → low_radicand low < 2 ^ 95
low_radicand-small None = omega arith
low_radicand-small (Some (negsuc n)) = omega arith
low_radicand-small (Some (pos n)) = omega arith

low_radicand-le : (low : Option ℤ) (n : ℕ) → IsOrdered low (Some (pos n)) → low_radicand low ≤ n
low_radicand-le None n h = omega arith
low_radicand-le (Some (negsuc m)) n h = omega arith
low_radicand-le (Some (pos m)) n h = omega (arith, ints)

pub low_root-small : (low : Option ℤ) → floor_root (low_radicand low * unit) < 2 ^ 64
low_root-small low =
    floor_root-small (low_radicand low * unit) (omega (arith, units-small_radicand (low_radicand low) (low_radicand-small low)))

pub high_root_is : (n : ℕ) → n < 2 ^ 95 → root_of_high (Some (pos n)) ≡ Some (pos (ceil_root (n * unit)))
high_root_is n h = rw (nat_lt-yes n (2 ^ 95) h)

pub high_root-large : (n : ℕ) → 2 ^ 95 ≤ n → root_of_high (Some (pos n)) ≡ None
high_root-large n h = rw (nat_lt-no n (2 ^ 95) h)

IsEnd-root_of_high : (high : Option ℤ) → IsEnd (root_of_high high)
IsEnd-root_of_high None = tt
IsEnd-root_of_high (Some (negsuc n)) = tt
IsEnd-root_of_high (Some (pos n)) = end_by (cases_lt n (2 ^ 95)) where
  end_by : (n < 2 ^ 95) ⊎ (2 ^ 95 ≤ n) → IsEnd (root_of_high (Some (pos n)))
  end_by (inr h) = rw (high_root-large n h) tt
  end_by (inl h) =
      let small : floor_root (n * unit) < 2 ^ 64 = floor_root-small (n * unit) (omega (arith, units-small_radicand n h)) in
      rw (high_root_is n h) (omega (arith, ceil_root-le (n * unit)))

IsOrdered-roots : (low high : Option ℤ) → IsOrdered low high → IsOrdered (Some (pos (floor_root (low_radicand low * unit)))) (root_of_high high)
IsOrdered-roots low None h = tt
IsOrdered-roots low (Some (negsuc n)) h = tt
IsOrdered-roots low (Some (pos n)) h = ordered_by (cases_lt n (2 ^ 95)) where
  ordered_by : (n < 2 ^ 95) ⊎ (2 ^ 95 ≤ n) → IsOrdered (Some (pos (floor_root (low_radicand low * unit)))) (root_of_high (Some (pos n)))
  ordered_by (inr k) = rw (high_root-large n k) tt
  ordered_by (inl k) =
      let le : low_radicand low * unit ≤ n * unit = mul-le-mul_right unit (low_radicand-le low n h) in
      let roots : floor_root (low_radicand low * unit) ≤ ceil_root (n * unit) =
      le_trans (floor_root-mono (low_radicand low * unit) (n * unit) le) (floor_root-le-ceil_root (n * unit)) in
      rw (high_root_is n k) (omega (arith, ints))

pub root_of-below_zero : (a : Interval) → is_below_zero a.hi ≡ true → root_of a ≡ All
unfolding root_of
root_of-below_zero a h = rw h

pub root_of-roots : (a : Interval) → is_below_zero a.hi ≡ false → root_of a ≡ record { lo = Some (pos (floor_root (low_radicand a.lo * unit))); hi = root_of_high a.hi }
unfolding root_of
root_of-roots a h = rw h

pub IsInterval-roots : (a : Interval) → IsInterval a → IsInterval (record { lo = Some (pos (floor_root (low_radicand a.lo * unit))); hi = root_of_high a.hi })
IsInterval-roots a i = record {
  low_end = omega (arith, low_root-small a.lo);
  high_end = IsEnd-root_of_high a.hi;
  ordered = IsOrdered-roots a.lo a.hi i.ordered;
}

pub IsInterval-root_of : (a : Interval) → IsInterval a → IsInterval (root_of a)
IsInterval-root_of a i = root_by (is_below_zero a.hi) refl where
  root_by : (b : Bool) → is_below_zero a.hi ≡ b → IsInterval (root_of a)
  root_by true h = rw (root_of-below_zero a h) IsInterval-All
  root_by false h = rw (root_of-roots a h) (IsInterval-roots a i)

-- the root of a low end as a number with sign
pub low_root_signed : (low : Option ℤ) → to_z w128 (floor_root (low_radicand low * unit)) ≡ pos (floor_root (low_radicand low * unit))
low_root_signed low = to_z_pos w128 (floor_root (low_radicand low * unit)) (omega (arith, low_root-small low))

pub high_root_found : (end : ℤ) (r : ℕ) → pos 0 ≤ℤ end → unsigned_abs end < 2 ^ 95 → r ≡ ceil_root (unsigned_abs end * 2 ^ 32) → r ≤ 2 ^ 64 → Some (to_z w128 r) ≡ root_of_high (Some end)
high_root_found (negsuc n) r positive h e small = absurd (omega (arith, ints))
high_root_found (pos n) r positive h e small =
    rw (high_root_is n h, unit-is) (ap Some (to_z_pos w128 r (omega arith) ∙ ap pos e))
