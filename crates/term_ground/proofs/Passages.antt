-- Where a side crosses a direct path, by three triangles.
use Rattle.std.proofs.Common.{◌≡◌, ◌≤◌, ℤ, pos, ◌-ℤ◌, ◌*ℤ◌, to_z, of_z, arith}
use Rattle.std.specs.Prelude.{unsigned_abs}
use Rattle.std.specs.Int.{w64}
use Rattle.std.proofs.Math.IntN.{*ℤ_comm}
use Rattle.std.proofs.lemmas.Int.{ints}
use Rattle.scene_geom.specs.declared.plan.Pt.{Pt}
use Rattle.scene_geom.specs.Point.{from_to, orient_of}
use Rattle.scene_geom.specs.Vector.{Vector, cross}
use Rattle.scene_geom.proofs.Vectors.{cross-between}

no-turn : (v : Vector) → cross v v ≡ pos 0
no-turn v = let same : v.y *ℤ v.x ≡ v.x *ℤ v.y = *ℤ_comm v.y v.x in omega (arith, ints, same)

-- the triangle of a point and a side
pub reached-is : (from a b : Pt) (reached : ℤ) → reached ≡ orient_of from a b → reached ≡ cross (from_to from a) (from_to a b)
reached-is from a b reached e =
    omega (arith, ints, e, cross-between (from_to from a) from a b, no-turn (from_to from a))

-- the difference of two triangles, as the code passes it
pub across-passed : (a b : ℤ) → unsigned_abs a ≤ 128000000000000 → unsigned_abs b ≤ 128000000000000
    → to_z w64 (of_z w64 (to_z w64 (of_z w64 a) -ℤ to_z w64 (of_z w64 b))) ≡ a -ℤ b
across-passed a b h k = omega (arith, ints, h, k)

pub times-one : (z : ℤ) → z *ℤ pos 1 ≡ z
times-one z = omega (arith, ints)
