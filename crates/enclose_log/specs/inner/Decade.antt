-- The decade of an end by the two powers of ten that it lies between.
use Rattle.std.specs.Prelude.{ℕ, ◌*◌, ◌^◌, ◌<◌, ◌≤◌}

-- the end n, in units of 2^-32, has the decade k, counted from -10
pub record IsDecade (n k : ℕ) : Type 0 where
  pub reached : 10 ^ k * 2 ^ 32 ≤ 10 ^ 10 * n
  pub below_next : 10 ^ 10 * n < 10 * 10 ^ k * 2 ^ 32
  pub last : k ≤ 38
