-- What powers of e are compared with, as inequalities of whole numbers. The numbers n and k are in units of
-- 2^-32, and U is the unit; no such power is ever calculated.
use Rattle.std.specs.Prelude.{ℕ, suc, ◌*◌, ◌^◌, ◌≤◌, ℤ, pos, negsuc}
use Rattle.fix_interval.specs.Units.{unit}

-- 20!, and the sum of 20!/i! for i from 0 to 20: their quotient S/F is below e, and (S+1)/F is above e
unfoldable pub factorial_20 : ℕ
factorial_20 = 2432902008176640000

unfoldable pub exponential_sum : ℕ
exponential_sum = 6613313319248080001

-- k/U is at most e^(-n/U), by the number above e:  k^U (S+1)^n <= U^U F^n
abbrev pub IsAtMostDecay : ℤ → ℤ → Type 0
IsAtMostDecay (pos k) (pos n) = k ^ unit * suc exponential_sum ^ n ≤ unit ^ unit * factorial_20 ^ n
IsAtMostDecay (negsuc k) n = ⊥
IsAtMostDecay (pos k) (negsuc n) = ⊥

-- k/U is at least e^(-n/U), by the number below e:  U^U F^n <= k^U S^n
abbrev pub IsAtLeastDecay : ℤ → ℤ → Type 0
IsAtLeastDecay (pos k) (pos n) = unit ^ unit * factorial_20 ^ n ≤ k ^ unit * exponential_sum ^ n
IsAtLeastDecay (negsuc k) n = ⊥
IsAtLeastDecay (pos k) (negsuc n) = ⊥
