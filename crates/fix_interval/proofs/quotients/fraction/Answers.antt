use Rattle.std.proofs.Common.{◌≡◌, ℤ, pos, ◌*ℤ◌, to_z, of_z, ap, ◌∙◌}
use Rattle.std.specs.Int.{w128}
use Rattle.std.proofs.lemmas.Int.{to_z-of_z}
use Rattle.fix_interval.specs.Units.{unit}
use Rattle.fix_interval.proofs.Ratios.{fraction_is, IsInterval-ratio_of}
use Rattle.fix_interval.proofs.quotients.fraction.Goals as goal

pub of_ends-requires : goal.of_ends-requires
of_ends-requires c =
    let units : to_z w128 (of_z w128 c.args.x) *ℤ pos unit ≡ c.args.x *ℤ pos unit =
    ap (λ (z : ℤ). z *ℤ pos unit) (to_z-of_z w128 c.args.x c.ranges.x) in
    rw (fraction_is c.args.x c.args.d _ _ _ c.requires.small c.requires.divisor units c.units_over-low.ensures.floor c.units_over-low.ensures.ceil)
    (IsInterval-ratio_of c.args.x c.args.d c.requires.small c.requires.divisor)

pub returns : goal.returns
returns c =
    let units : to_z w128 (of_z w128 c.args.x) *ℤ pos unit ≡ c.args.x *ℤ pos unit =
    ap (λ (z : ℤ). z *ℤ pos unit) (to_z-of_z w128 c.args.x c.ranges.x) in
    c.of_ends.ensures
    ∙ fraction_is c.args.x c.args.d _ _ _ c.requires.small c.requires.divisor units c.units_over-low.ensures.floor c.units_over-low.ensures.ceil
