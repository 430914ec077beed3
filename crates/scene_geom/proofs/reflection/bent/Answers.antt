use Rattle.std.proofs.Common.{◌≡◌, ◌≤◌, ◌<◌, ◌^◌, ℕ, arith, ◌∙◌}
use Rattle.std.specs.Prelude.{ℤ, pos, ◌*ℤ◌, unsigned_abs}
use Rattle.scene_geom.specs.inner.Step.{vector}
use Rattle.scene_geom.specs.Vector.{minus, scaled}
use Rattle.scene_geom.proofs.Whole.{kept, restored, widened}
use Rattle.scene_geom.proofs.Walls.{dir-is}
use Rattle.scene_geom.proofs.reflection.bent.Goals as goal
use mir.Syntax.{w64, w128}
use mir.Val.{to_z, of_z}

-- a number of 64 bits that was widened and is read in 128
read : (r z : ℤ) (m : ℕ) → unsigned_abs z ≤ m → m < 2 ^ 63 → r ≡ to_z w64 (of_z w64 z) → to_z w128 (of_z w128 r) ≡ z
read r z m h k e =
    let same = widened r z m h k e in
    kept r m (rw same h) (omega arith) ∙ same

pub returns : goal.returns
returns c =
    let square = restored c.args.square (omega (arith, c.requires.square)) in
    let way_x = restored c.args.way.x (omega (arith, c.args.way.x_within)) in
    let way_y = restored c.args.way.y (omega (arith, c.args.way.y_within)) in
    let off = restored c.args.off (omega (arith, c.requires.off)) in
    let normal_x = restored c.args.normal.x (omega (arith, c.requires.x_within)) in
    let normal_y = restored c.args.normal.y (omega (arith, c.requires.y_within)) in
    dir-is _ _ _ _ _
    (minus (scaled c.args.square (vector c.args.way)) (scaled (pos 2 *ℤ c.args.off) (vector c.args.normal)))
    (read _ _ 2110000000000000000 c.image_part.ensures.within (omega arith) c.into.ensures ∙ rw (square, way_x, off, normal_x) at c.image_part.ensures.value)
    (read _ _ 2110000000000000000 c.image_part-2.ensures.within (omega arith) c.into-2.ensures ∙ rw (square, way_y, off, normal_y) at c.image_part-2.ensures.value)
    (read _ _ 68718952449 c.requires.square (omega arith) c.into-3.ensures)
