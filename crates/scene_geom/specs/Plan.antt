-- The plan of a site: whole millimetres, four kilometres to each hand of the origin.
use Rattle.std.specs.Prelude.{◌≡◌, ℤ, pos, neg_ℤ, ◌≤ℤ◌}
use Rattle.std.specs.Int.{int_max, int_min}
use Rattle.std.proofs.Common.{arith}
use lib.Dec.{T_prop}
use Rattle.std.proofs.lemmas.Int.{ints, clamps}

-- a coordinate of the plan, in mm: from -4,000,000 to 4,000,000, these ends included
pub record InPlan (z : ℤ) : Type 0 where
  pub low : neg_ℤ (pos 4000000) ≤ℤ z
  pub high : z ≤ℤ pos 4000000

pub InPlan-prop : (z : ℤ) (g h : InPlan z) → g ≡ h
InPlan-prop z = hlevel T_prop

-- the coordinate of the plan that is nearest to a number: itself, where it is one
abbrev pub nearest : ℤ → ℤ
nearest z = int_max (neg_ℤ (pos 4000000)) (int_min z (pos 4000000))

pub nearest-in_plan : (z : ℤ) → InPlan (nearest z)
nearest-in_plan z = record { low = omega (arith, ints, clamps); high = omega (arith, ints, clamps) }
