-- What a sum of energies keeps.
use Rattle.std.specs.Prelude.{ℕ, ◌^◌, ◌≤◌, ◌<◌, ℤ, Option, Some, None, unsigned_abs}

-- the ends of a sum, in units of 2^-32
pub record IsSum (lo hi : ℕ) : Type 0 where
  pub ordered : lo ≤ hi
  pub bounded : hi < 2 ^ 126

-- an end of a sum or of an energy, which is bounded and not below 0
abbrev pub units_of : Option ℤ → ℕ
units_of None = 0
units_of (Some z) = unsigned_abs z
