use Rattle.std.proofs.Common.{◌≡◌, ◌∙◌, ap, ℤ, ◌*ℤ◌}
use Rattle.std.specs.Prelude.{FitsSigned}
use Rattle.std.specs.Int.{w64, w128}
use Rattle.std.proofs.lemmas.Int.{to_z-of_z}
use Rattle.fix_interval.specs.Values.{end_of}
use Rattle.fix_interval.proofs.Multiplying.{product_widened}
use Rattle.fix_interval.proofs.products.product.Goals as goal

pub returns-in-Ok-Ok : goal.returns-in-Ok-Ok
returns-in-Ok-Ok c =
    let x_is : c.in-Ok-Ok.x ≡ c.args.x = (c.in-Ok-Ok.ensures).1 ∙ to_z-of_z w128 c.args.x c.ranges.x in
    let y_is : c.in-Ok-Ok.y ≡ c.args.y = (c.in-Ok-Ok.ensures').1 ∙ to_z-of_z w128 c.args.y c.ranges.y in
    let x_fits : FitsSigned w64 c.in-Ok-Ok.x = rw (c.in-Ok-Ok.ensures).1 (c.in-Ok-Ok.ensures).0 in
    let y_fits : FitsSigned w64 c.in-Ok-Ok.y = rw (c.in-Ok-Ok.ensures').1 (c.in-Ok-Ok.ensures').0 in
    c.end.ensures
    ∙ ap end_of (product_widened c.in-Ok-Ok.x c.in-Ok-Ok.y x_fits y_fits)
    ∙ ap (λ (x : ℤ). end_of (x *ℤ c.in-Ok-Ok.y)) x_is
    ∙ ap (λ (y : ℤ). end_of (c.args.x *ℤ y)) y_is
