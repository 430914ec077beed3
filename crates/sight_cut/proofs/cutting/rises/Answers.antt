use Rattle.std.proofs.Common.{◌≡◌, arith}
use Rattle.scene_geom.proofs.Whole.{kept}
use Rattle.sight_cut.proofs.Found.{rises-is, abs-below}
use Rattle.sight_cut.proofs.cutting.rises.Goals as goal
use mir.Syntax.{w128}
use mir.Val.{to_z, of_z}

pub returns : goal.returns
returns c =
    let n : to_z w128 (of_z w128 c.args.t.n) ≡ c.args.t.n = kept c.args.t.n 256000000000000 (abs-below c.args.t.n c.args.t.d 256000000000000 c.requires.above_zero c.requires.below_one c.requires.below) (omega arith) in
    let d : to_z w128 (of_z w128 c.args.t.d) ≡ c.args.t.d = kept c.args.t.d 256000000000000 c.requires.below (omega arith) in
    rw (c.part.ensures.value, c.part-2.ensures.value, c.part-3.ensures.value, c.part-4.ensures.value, c.unsigned_abs-n.ensures.value, c.unsigned_abs-d.ensures.value, n, d)
    (rises-is c.args.ends.hs c.args.ends.hr c.args.h c.args.t.n c.args.t.d c.requires.above_zero c.requires.below_one)
