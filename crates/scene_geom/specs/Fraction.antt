-- Fractions, kept as they were found and not reduced.
use Rattle.std.specs.Prelude.{◌<ℤ◌, zero, suc, ℤ, pos, negsuc, neg_ℤ, ◌-ℤ◌, ◌*ℤ◌, ◌≤◌, Bool, ◌&&◌, int_lt, unsigned_abs, Option}
use Rattle.std.specs.Bool.{then_some}
use Rattle.scene_geom.specs.declared.fractions.fraction.Frac.{Frac}
use Rattle.scene_geom.specs.Positive.{suc-positive}

-- n over d, with the divisor made positive. No definition divides by 0, which counts as 1 here
abbrev pub over : ℤ → ℤ → Frac
over n (pos zero) = record { n = n; d = pos (suc zero); positive = suc-positive zero }
over n (pos (suc k)) = record { n = n; d = pos (suc k); positive = suc-positive k }
over n (negsuc k) = record { n = neg_ℤ n; d = pos (suc k); positive = suc-positive k }

-- above 0
abbrev pub is_ahead : Frac → Bool
is_ahead place = int_lt (pos 0) place.n

-- what is left of 1 after a fraction
abbrev pub rest_of : Frac → Frac
rest_of place = record { n = place.d -ℤ place.n; d = place.d; positive = place.positive }

-- strictly between 0 and an end
abbrev pub is_inside : Frac → Frac → Bool
is_inside place end = is_ahead place && int_lt (place.n *ℤ end.d) (end.n *ℤ place.d)

-- a fraction where it lies strictly between 0 and 1
abbrev pub inner : Frac → Option Frac
inner place = then_some (is_inside place (over (pos 1) (pos 1))) place

-- the bounds of the place of a hit: 2 * 8,000,000^2 times the square of 262,143, and twice
-- 2.11 * 10^18 times 8,000,000
pub record FitsPlace (place : Frac) : Type 0 where
  pub above : unsigned_abs place.n ≤ 8796025913472000000000000
  pub below : unsigned_abs place.d ≤ 33760000000000000000000000

-- the bounds of the end of a leg, in units of its direction: a distance from a wall's line times its
-- length, and the sum of two such, are below them
pub record FitsEnd (end : Frac) : Type 0 where
  pub above : unsigned_abs end.n ≤ 2970000000000
  pub below : unsigned_abs end.d ≤ 5940000000000

-- a fraction strictly between 0 and 1, as a crossing's is, with the bound of a crossing's divisor
pub record FitsCrossing (place : Frac) : Type 0 where
  pub above_zero : pos 0 <ℤ place.n
  pub below_one : place.n <ℤ place.d
  pub below : unsigned_abs place.d ≤ 256000000000000
