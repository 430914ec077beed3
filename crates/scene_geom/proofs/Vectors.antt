-- Vectors of the plan: when two are equal, and what cross products are between the points of a side.
use Rattle.std.proofs.Common.{◌≡◌, arith, ap, ◌∙◌}
use Rattle.std.specs.Prelude.{ℤ, ◌-ℤ◌}
use Rattle.std.proofs.lemmas.Int.{ints}
use Rattle.scene_geom.specs.Vector.{Vector, cross}
use Rattle.scene_geom.specs.Point.{from_to}
use Rattle.scene_geom.specs.declared.plan.Pt.{Pt}
use Rattle.scene_geom.proofs.Whole.{mul_sub}

pub vector_eq : (u v : Vector) → u.x ≡ v.x → u.y ≡ v.y → u ≡ v
vector_eq u v e f = ap (λ (x : ℤ). record { x = x; y = u.y }) e ∙ ap (λ (y : ℤ). record { x = v.x; y = y }) f

pub cross_eq : (r : ℤ) (u v u' v' : Vector) → r ≡ cross u v → u ≡ u' → v ≡ v' → r ≡ cross u' v'
cross_eq r u v u' v' e f g = e ∙ ap (λ (w : Vector). cross w v) f ∙ ap (λ (w : Vector). cross u' w) g

-- the products over two points differ by the product over the way between them
pub cross-between : (v : Vector) (from a b : Pt) → cross v (from_to from b) -ℤ cross v (from_to from a) ≡ cross v (from_to a b)
cross-between v from a b = simp mul_sub (omega (arith, ints))
