-- Square roots rounded down, and sums of squares.
use Rattle.std.proofs.Common.{◌≡◌, ℕ, zero, suc, ◌+◌, ◌*◌, ◌<◌, ◌≤◌, refl, sym, Bool, true, false, cond, arith}
use Rattle.std.specs.Prelude.{nat_le}
use Rattle.std.proofs.Math.Nat.{mul-le-mul}
use Rattle.std.proofs.lemmas.Bool.Decides.{nat_tests}
use Rattle.scene_parts.specs.Sides.{greatest_root, floor_root}

squares : (a b : ℕ) → a ≤ b → a * a ≤ b * b
squares a b h = mul-le-mul h h

below : (r b n : ℕ) → r ≤ suc b → n < (r + 1) * (r + 1) → suc b * suc b ≤ n → suc b ≡ r
below r b n h u k = grind (arith, squares)

above : (r b n : ℕ) → r ≤ suc b → r * r ≤ n → n < suc b * suc b → r ≤ b
above r b n h l u = grind (arith, squares)

step : (n r b : ℕ) (t : Bool) → t ≡ nat_le (suc b * suc b) n → r * r ≤ n → n < (r + 1) * (r + 1) → r ≤ suc b → (r ≤ b → greatest_root n b ≡ r)
    → cond t (suc b) (greatest_root n b) ≡ r
step n r b true e l u h ih = below r b n h u (grind (arith, nat_tests))
step n r b false e l u h ih = ih (above r b n h l (grind (arith, nat_tests)))

pub greatest_root-is : (n r bound : ℕ) → r * r ≤ n → n < (r + 1) * (r + 1) → r ≤ bound → greatest_root n bound ≡ r
greatest_root-is n r zero l u h = omega arith
greatest_root-is n r (suc b) l u h = step n r b (nat_le (suc b * suc b) n) refl l u h (greatest_root-is n r b l u)

at_most : (n r : ℕ) → r * r ≤ n → r ≤ n
at_most n zero l = omega arith
at_most n (suc r) l = grind arith

pub floor_root-is : (n r : ℕ) → r * r ≤ n → n < (r + 1) * (r + 1) → r ≡ floor_root n
unfolding floor_root
floor_root-is n r l u = sym (greatest_root-is n r n l u (at_most n r l))
