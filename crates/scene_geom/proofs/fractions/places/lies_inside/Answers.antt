use Rattle.std.proofs.Common.{arith, ap, sym}
use Rattle.std.specs.Prelude.{Bool, ◌&&◌, ◌*ℤ◌, int_lt}
use Rattle.scene_geom.proofs.Whole.{kept, product_is}
use Rattle.scene_geom.proofs.fractions.places.lies_inside.Goals as goal

pub returns-then-place-gt0 : goal.returns-then-place-gt0
returns-then-place-gt0 c =
    let near = product_is c.args.place.n c.args.end.d 8796025913472000000000000 5940000000000 c.requires.place_fits.above c.requires.end_fits.below (omega arith) (omega arith) (omega arith) in
    let far = product_is c.args.end.n c.args.place.d 2970000000000 33760000000000000000000000 c.requires.end_fits.above c.requires.place_fits.below (omega arith) (omega arith) (omega arith) in
    rw (near, far) (ap (λ (b : Bool). b && int_lt (c.args.place.n *ℤ c.args.end.d) (c.args.end.n *ℤ c.args.place.d)) (sym (rw (kept c.args.place.n 8796025913472000000000000 c.requires.place_fits.above (omega arith)) at c.if-place-gt0.true)))
