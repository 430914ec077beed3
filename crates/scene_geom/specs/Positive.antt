-- Divisors: whole numbers above 0.
use Rattle.std.specs.Prelude.{ℕ, suc, pos, ◌<ℤ◌}
use Rattle.std.proofs.Common.{arith}
use Rattle.std.proofs.lemmas.Int.{ints}

pub suc-positive : (n : ℕ) → pos 0 <ℤ pos (suc n)
suc-positive n = omega (arith, ints)
