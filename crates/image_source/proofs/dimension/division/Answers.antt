use Rattle.std.proofs.Common.{◌*◌, arith}
use Rattle.std.specs.Prelude.{◌-ℤ◌, ◌*ℤ◌}
use Rattle.scene_geom.proofs.Whole.{kept, abs-mul}
use Rattle.image_source.proofs.dimension.division.Goals as goal

pub returns : goal.returns
returns c =
    let p = c.args.p in
    let n = kept p.n 2970000000000 c.requires.end.above (omega arith) in
    let d = kept p.d 5940000000000 c.requires.end.below (omega arith) in
    let rest = kept (p.d -ℤ p.n) 2970000000000 c.requires.rest.above (omega arith) in
    let above = kept (p.n *ℤ (p.d -ℤ p.n)) (2970000000000 * 2970000000000) (abs-mul p.n (p.d -ℤ p.n) 2970000000000 2970000000000 c.requires.end.above c.requires.rest.above) (omega arith) in
    let below = kept (p.d *ℤ p.d) (5940000000000 * 5940000000000) (abs-mul p.d p.d 5940000000000 5940000000000 c.requires.end.below c.requires.end.below) (omega arith) in
    rw (n, d, rest, above, below) at c.ratio.ensures
