-- Whether a surface is large enough to reflect in a band (ISO 9613-2, 7.5, condition 19), as two formulas of which the
-- first has to be greater: both sides of the condition are multiplied by λ (l_min cos β)².
use Rattle.std.specs.Prelude.{ℕ, pos, ◌-ℤ◌, ◌*ℤ◌, unsigned_abs}
use Rattle.fix_interval.specs.Tree.{Tree, Const, Mul, Div, Min, Root}
use Rattle.scene_geom.specs.declared.plan.Side.{Side}
use Rattle.scene_geom.specs.declared.fractions.fraction.Frac.{Frac}
use Rattle.scene_geom.specs.declared.band.Band.{Band}
use Rattle.scene_geom.specs.Bands.{frequency_of}
use Rattle.scene_geom.specs.Reflection.{squared_length}

-- l_min, the lesser of the length and the height in mm of a side, in metres
unfoldable pub least_dimension : Side → ℕ → Tree
least_dimension side h = Min (Root (Const (pos (squared_length side)) 1000000)) (Const (pos h) 1000)

-- cos β, the cosine of the angle of incidence: how far the path of d metres leads to the wall's line and away from it,
-- by d. The divisor of the fraction p before the specular point is that distance in mm, times the length of the side
unfoldable pub incidence : Side → Frac → Tree → Tree
incidence side p d = Div (Div (Const p.d 1000) (Root (Const (pos (squared_length side)) 1))) d

-- (l_min cos β)²
unfoldable pub dimension_squared : Side → ℕ → Frac → Tree → Tree
dimension_squared side h p d =
    Mul (Mul (least_dimension side h) (incidence side p d)) (Mul (least_dimension side h) (incidence side p d))

-- d_so d_or / (d_so + d_or), where the specular point divides the path of d metres into d_so and d_or
unfoldable pub legs_product : Frac → Tree → Tree
legs_product p d = Mul (Const (p.n *ℤ (p.d -ℤ p.n)) (unsigned_abs (p.d *ℤ p.d))) d

-- 2 λ d_so d_or / (d_so + d_or), with the wavelength λ at the midband frequency
unfoldable pub needed_squared : Frac → Tree → Band → Tree
needed_squared p d band = Mul (Const (pos 680) (frequency_of band)) (legs_product p d)
