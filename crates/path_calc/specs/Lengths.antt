-- Distances between a source and a receiver.
use Rattle.std.specs.Prelude.{ℕ, Bool, ◌+◌, ◌*◌, nat_le, pos, unsigned_abs}
use Rattle.std.specs.Int.{abs_diff}
use Rattle.scene_geom.specs.declared.plan.Pt.{Pt}
use Rattle.scene_geom.specs.declared.fractions.fraction.Frac.{Frac}
use Rattle.fix_interval.specs.Tree.{Tree, Const, Add, Root}
use Rattle.path_shape.specs.Shape.{squared, plan_square}

-- the distance in space of two points with heights above ground, squared, in mm²
abbrev pub space_square : Pt → ℕ → Pt → ℕ → ℕ
space_square s hs r hr = plan_square s r + squared (abs_diff hs hr)

-- the distance d in metres
abbrev pub distance : Pt → ℕ → Pt → ℕ → Tree
distance s hs r hr = Root (Const (pos (space_square s hs r hr)) 1000000)

-- the distance d in metres along a reflected path, from the image of the source: the square of the plan length, in mm²,
-- is a fraction
abbrev pub reflected_distance : Frac → ℕ → ℕ → Tree
reflected_distance square hs hr =
    Root
    (Add (Const square.n (unsigned_abs square.d * 1000000)) (Const (pos (squared (abs_diff hs hr))) 1000000))

-- a source reaches a receiver: they aren't farther from each other in plan than the reach
abbrev pub is_within : ℕ → Pt → Pt → Bool
is_within reach s r = nat_le (plan_square s r) (squared reach)
