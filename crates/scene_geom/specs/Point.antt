-- Points of the plan and the lines through them.
use Rattle.std.specs.Prelude.{◌≡◌, ℤ, ◌-ℤ◌}
use Rattle.std.proofs.Common.{subst, ap, ◌∙◌}
use Rattle.scene_geom.specs.declared.plan.Pt.{Pt}
use Rattle.scene_geom.specs.declared.plan.Side.{Side}
use Rattle.scene_geom.specs.Plan.{InPlan, InPlan-prop, nearest, nearest-in_plan}
use Rattle.scene_geom.specs.Vector.{Vector, cross}

-- the point of the plan with these coordinates, each taken to the nearest of the plan
abbrev pub point_at : ℤ → ℤ → Pt
point_at x y = record { x = nearest x; y = nearest y; x_in_plan = nearest-in_plan x; y_in_plan = nearest-in_plan y }

-- the vector from the origin to a point
abbrev pub at : Pt → Vector
at p = record { x = p.x; y = p.y }

-- the vector from one point to another
abbrev pub from_to : Pt → Pt → Vector
from_to a b = record { x = b.x -ℤ a.x; y = b.y -ℤ a.y }

-- twice the signed area of the triangle a, b, c: positive where c is strictly left of the line
-- from a to b, negative where it is strictly right, 0 where it is on the line
abbrev pub orient_of : Pt → Pt → Pt → ℤ
orient_of a b c = cross (from_to a b) (from_to a c)

-- the vector along a side
abbrev pub along : Side → Vector
along side = from_to side.from side.to

-- a side with its ends exchanged
abbrev pub turned : Side → Side
turned side = record { from = side.to; to = side.from }

-- two points are one where their coordinates are
pub Pt_eq : (p q : Pt) → p.x ≡ q.x → p.y ≡ q.y → p ≡ q
Pt_eq p q e f =
    let across : (x : ℤ) → Type 0 =
    λ x. (h : InPlan x) → p ≡ record { x = x; y = p.y; x_in_plan = h; y_in_plan = p.y_in_plan } in
    let up : (y : ℤ) → Type 0 =
    λ y. (h : InPlan y) → p ≡ record { x = q.x; y = y; x_in_plan = q.x_in_plan; y_in_plan = h } in
    let at_x : InPlan p.x → Pt = λ w. record { x = p.x; y = p.y; x_in_plan = w; y_in_plan = p.y_in_plan } in
    let at_y : InPlan p.y → Pt = λ w. record { x = q.x; y = p.y; x_in_plan = q.x_in_plan; y_in_plan = w } in
    let first = subst across e (λ h. ap at_x (InPlan-prop p.x p.x_in_plan h)) q.x_in_plan in
    subst up f (λ h. first ∙ ap at_y (InPlan-prop p.y p.y_in_plan h)) q.y_in_plan
